-- A row of pieces: merged half with half, and a list of merges replayed on it. Definitions only.
use Rattle.std.specs.Prelude.{Bool, cond, List, [], ◌∷◌, ◌++◌, ℕ, zero, suc, ◌+◌, ◌/◌, length, take, drop}
use Rattle.algebra.specs.Algebra.{Algebra}
use Rattle.gate.specs.Outcome.{Outcome, refused, granted}
use Rattle.hill.specs.Summary.{Summary, blank}
use Rattle.hill.specs.Merge.{merge_summary}

-- Chunks joined, in log order. "The stretch of a summary is the chunks it came from, joined."
abbrev pub joined : {A : Type 0} → List (List A) → List A
joined [] = []
joined (x ∷ xs) = x ++ joined xs

module _ {A : Type 0} (merge : A → A → A) (unit : A) where
  -- "Half with half and each half likewise, the left half having the odd one." The first argument bounds the depth of the halving; no row is halved
  -- as often as it is long, so with its length (merge_row) no piece is left at the bound: RowLaws.halves-in_order.
  abbrev pub halves : ℕ → List A → A
  halves zero row = unit
  halves (suc n) [] = unit
  halves (suc n) (a ∷ []) = a
  halves (suc n) (a ∷ (b ∷ row)) =
      let h = (length (a ∷ (b ∷ row)) + 1) / 2 in
      merge (halves n (take h (a ∷ (b ∷ row)))) (halves n (drop h (a ∷ (b ∷ row))))

abbrev pub merge_row : {R : Type 0} (𝒜 : Algebra R) → List (Summary 𝒜.Fig R) → Summary 𝒜.Fig R
merge_row 𝒜 row = halves (merge_summary 𝒜) blank (length row) row

-- One merge of the list: of `many` neighbours from `place` on, with a buffer B.
pub record Call (B : Type 0) : Type 0 where
  pub place : ℕ
  pub many : ℕ
  pub lent : B

-- `f` is what a merge of neighbours with a buffer comes to: the new piece, or a refusal.
module _ {A B : Type 0} (f : List A → B → Outcome A) where
  abbrev pub answer : Call B → List A → Outcome A
  answer c row = f (take c.many (drop c.place row)) c.lent

  -- The new piece takes the place of the merged ones; a refusal "leaves the row as it was".
  abbrev pub put : Outcome A → Call B → List A → List A
  put (refused n) c row = row
  put (granted a) c row = take c.place row ++ (a ∷ drop c.many (drop c.place row))

  -- The row after the list of merges, and what each one came to.
  abbrev pub replay : List (Call B) → List A → List A
  replay [] row = row
  replay (c ∷ cs) row = replay cs (put (answer c row) c row)

  abbrev pub answers : List (Call B) → List A → List (Outcome A)
  answers [] row = []
  answers (c ∷ cs) row = answer c row ∷ answers cs (put (answer c row) c row)

  -- Each merge of the list is fit for the row as it then stands.
  abbrev pub Proper : (Call B → List A → Type 0) → List (Call B) → List A → Type 0
  Proper Fit [] row = Unit {0}
  Proper Fit (c ∷ cs) row = Fit c row × Proper Fit cs (put (answer c row) c row)

-- Neighbours made one by `merge`, where the outcome fits the buffer.
abbrev pub fitting : {A B : Type 0} → (B → A → Bool) → (List A → A) → List A → B → Outcome A
fitting fits merge row b = cond (fits b (merge row)) (granted (merge row)) (refused 12)

-- φ of what a merge comes to.
abbrev pub on_result : {S A : Type 0} → (S → A) → Outcome S → Outcome A
on_result φ (refused n) = refused n
on_result φ (granted s) = granted (φ s)
