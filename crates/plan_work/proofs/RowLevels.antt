-- A row by levels: a blank counts as a hill that lies flat at its level. The plan, the runs and the middle values of a row, so read. Assumes nothing.
use Rattle.std.specs.Prelude.{◌≡◌, Bool, true, false, cond, ◌⊎◌, ◌≢◌, eqb, get_or, take, drop}
use Rattle.std.proofs.Math.Path.{refl, ap, sym}
use Rattle.std.proofs.Common.{◌∙◌, inr, add-zero, eq-eqb, ne_eqb, take_all}
use mathlib.Core.List.{List, [], ◌∷◌, ◌++◌, map}
use Rattle.std.proofs.Math.Logic.{inl, dite}
use Prim.Native.Nat.{ℕ, zero, suc, ◌+◌, ◌-◌, ◌≤◌, ◌<◌, min, max}
use native.Mathlib.Omega.{arith}
use Rattle.std.proofs.Math.Decide.{dec_lt}
use Rattle.std.proofs.Math.ListN.{length, get_or-map, get_or-eq_default}
use Rattle.std.proofs.lemmas.List.{length-map}
use Rattle.algebra.specs.Algebra.{Algebra, Laws}
use Rattle.algebra.specs.Run.{through}
use Rattle.hill.specs.Summary.{Hill, Summary, spoilt, whole, blank, part, rise, fall, middle}
use Rattle.join_plan.specs.Plan.{Levels, blank as noLevels, hill as levels, Line, levels_of_summary, plan_of_row}
use Rattle.join_plan.specs.Joins.{after, level_at}
use Rattle.join_plan.specs.Scan.{line_if, line_of, passed, walk, lines_to, plan, scan_of}
use Rattle.join_plan.proofs.PlanExact.{plan_of-scan}
use Rattle.join_plan.proofs.PlanFacts.{walk-stop}
use Rattle.plan_work.specs.Runs.{peak_of_summary, slopes_of, summary_at, run_levels}
use Rattle.plan_work.specs.Work.{middles_at}
use Rattle.plan_work.proofs.WorkLaws.{middles-start, middles-step}
use Rattle.plan_work.proofs.GateExact.{Chain, Begins}
use Rattle.plan_work.proofs.Fold.{down}
use Rattle.plan_work.proofs.Stack.{own, through-levels}
use Rattle.plan_work.proofs.Merged.{Meeting}

-- The peak of a chunk that is reached at level l.
abbrev pub floor_of : Levels → ℕ → ℕ
floor_of noLevels l = l
floor_of (levels s p e) l = p

-- Lines of the scan, where the depths from t on are closed: t is at most the level after the chunk c.
line-skip : (c : Levels) (i j q t l : ℕ) → t ≤ after c l → t ≤ max (floor_of c l) q → line_of c i j q t ≡ []
unfolding line_of line_if
line-skip noLevels i j q t l a b = refl
line-skip (levels s p e) i j q t l a b = go (dec_lt (max p q) (min e t))
  where
    go : (d : Dec (max p q < min e t)) → line_if i j (max p q) (min e t) d ≡ []
    go (yes y) = absurd (omega arith)
    go (no n) = refl

line-join : (c : Levels) (i j q t l : ℕ) → t ≤ after c l → max (floor_of c l) q < t → line_of c i j q t ≡ record { i = i; j = j; lowest = max (floor_of c l) q; highest = t - 1 } ∷ []
unfolding line_of line_if
line-join noLevels i j q t l a b = absurd (omega arith)
line-join (levels s p e) i j q t l a b = let m : min e t ≡ t = omega arith in rw m (go (dec_lt (max p q) t))
  where
    go : (d : Dec (max p q < t)) → line_if i j (max p q) t d ≡ record { i = i; j = j; lowest = max p q; highest = t - 1 } ∷ []
    go (yes y) = refl
    go (no n) = absurd (n b)

passed-floor : (c : Levels) (t l : ℕ) → t ≤ after c l → passed c t ≡ min t (floor_of c l)
unfolding passed
passed-floor noLevels t l a = omega arith
passed-floor (levels s p e) t l a = omega arith

-- What holds of the rest of a row holds of its next chunk and the rest after it: past the end, of a blank.
pub unroll : {A : Type 0} {d : A} (P : List A → Type 0) → (P [] → P (d ∷ [])) → (row : List A) (k : ℕ) → P (drop k row) → P (get_or row k d ∷ drop (suc k) row)
unroll P f [] zero x = f x
unroll P f [] (suc k) x = f x
unroll P f (s ∷ row) zero x = x
unroll P f (s ∷ row) (suc k) x = unroll P f row k x

module _ {R : Type 0} (𝒜 : Algebra R) (row : List (Summary 𝒜.Fig R)) where
  open 𝒜 use {Fig, ι, ◌⊗◌}

  infixl 70 ◌⊗◌
  -- Of the summary k: its levels, the level before it, its peak, its slopes.
  abbrev pub chunk : ℕ → Levels
  chunk k = levels_of_summary (summary_at 𝒜 row k)

  unfoldable pub level : ℕ → ℕ
  level k = level_at chunk k

  unfoldable pub floor : ℕ → ℕ
  floor k = floor_of (chunk k) (level k)

  abbrev pub sides : ℕ → Hill Fig R
  sides k = slopes_of 𝒜 (summary_at 𝒜 row k)

  pub level-suc : (k : ℕ) → level (suc k) ≡ after (chunk k) (level k)
  unfolding level level_at
  level-suc k = refl

  -- The plan of the row is the scan over these levels.
  pub plan-row : plan_of_row row ≡ plan chunk (length row)
  unfolding scan_of
  plan-row = plan_of-scan (map levels_of_summary row) ∙ (λ i. plan (λ (k : ℕ). get_or-map levels_of_summary row k blank i) (length-map row levels_of_summary i))

  pub lines-nil : (j q t : ℕ) → walk chunk j q t 0 ≡ []
  unfolding walk
  lines-nil j q t = refl

  pub lines-skip : (j q t i : ℕ) → t ≤ level (suc i) → t ≤ max (floor i) q → walk chunk j q t (suc i) ≡ walk chunk j q (min t (floor i)) i
  unfolding walk floor
  lines-skip j q t i a b =
      let c : t ≤ after (chunk i) (level i) = rw (level-suc i) at a in
      rw (line-skip (chunk i) i j q t (level i) c b, passed-floor (chunk i) t (level i) c)

  pub lines_join : (j q t i : ℕ) → t ≤ level (suc i) → max (floor i) q < t
      → walk chunk j q t (suc i) ≡ record { i = i; j = j; lowest = max (floor i) q; highest = t - 1 } ∷ walk chunk j q (floor i) i
  unfolding walk floor
  lines_join j q t i a b =
      let c : t ≤ after (chunk i) (level i) = rw (level-suc i) at a in
      let m : min t (floor_of (chunk i) (level i)) ≡ floor_of (chunk i) (level i) = omega arith in
      rw (line-join (chunk i) i j q t (level i) c b, passed-floor (chunk i) t (level i) c, m)

  -- The levels are met: the row passes.
  abbrev Goes : ℕ → List (Summary Fig R) → Type 0
  Goes l rest = ((l ≡ 0) × Begins rest) ⊎ Chain l rest

  goes-next : (s : Summary Fig R) (rest : List (Summary Fig R)) (l : ℕ) → Goes l (s ∷ rest) → Goes (after (levels_of_summary s) l) rest
  goes-next blank rest l g = g
  goes-next (part (spoilt f a e o)) rest l (inl g) = absurd g.1
  goes-next (part (spoilt f a e o)) rest l (inr g) = absurd g
  goes-next (part (whole p o h)) rest l (inl g) = inr g.1.1
  goes-next (part (whole p o h)) rest l (inr g) = inr g.2

  goes-rise : (s : Summary Fig R) (rest : List (Summary Fig R)) (l : ℕ) → Goes l (s ∷ rest) → floor_of (levels_of_summary s) l + rise (slopes_of 𝒜 s) ≡ l
  goes-rise blank rest l g = add-zero l
  goes-rise (part (spoilt f a e o)) rest l g = add-zero l
  goes-rise (part (whole p o h)) rest l (inl g) = g.1.0 ∙ sym g.0
  goes-rise (part (whole p o h)) rest l (inr g) = g.1

  floor-fall : (s : Summary Fig R) (l : ℕ) → floor_of (levels_of_summary s) l + fall (slopes_of 𝒜 s) ≡ after (levels_of_summary s) l
  floor-fall blank l = add-zero l
  floor-fall (part (spoilt f a e o)) l = add-zero l
  floor-fall (part (whole p o h)) l = refl

  pub goes : Begins row → (k : ℕ) → Goes (level k) (drop k row)
  unfolding level level_at
  goes b zero = inl (refl, b)
  goes b (suc k) = goes-next (summary_at 𝒜 row k) (drop (suc k) row) (level k) (unroll (Goes (level k)) (λ g. g) row k (goes b k))

  pub meeting : Begins row → Meeting 𝒜 sides floor level
  unfolding level level_at floor
  meeting b = record {
    ground = refl;
    rises = λ k. goes-rise (summary_at 𝒜 row k) (drop (suc k) row) (level k) (unroll (Goes (level k)) (λ g. g) row k (goes b k));
    falls = λ k. floor-fall (summary_at 𝒜 row k) (level k);
  }

  -- The lines to the chunk j.
  lines-to : (s : Summary Fig R) (j l : ℕ) → floor_of (levels_of_summary s) l + rise (slopes_of 𝒜 s) ≡ l → lines_to chunk (levels_of_summary s) j ≡ walk chunk j (floor_of (levels_of_summary s) l) l j
  unfolding lines_to
  lines-to blank j l e = sym (walk-stop chunk j l l j (omega arith))
  lines-to (part (spoilt f a c o)) j l e = sym (walk-stop chunk j l l j (omega arith))
  lines-to (part (whole p o h)) j l e = rw e

  pub plan-suc : Begins row → (j : ℕ) → plan chunk (suc j) ≡ plan chunk j ++ walk chunk j (floor j) (level j) j
  unfolding plan floor
  plan-suc b j = ap (λ (ls : List Line). plan chunk j ++ ls) (lines-to (summary_at 𝒜 row j) j (level j) ((meeting b).rises j))

  pub plan-zero : plan chunk 0 ≡ []
  unfolding plan
  plan-zero = refl

  -- A chunk that is not flat has a peak of its own.
  floor-peak : (s : Summary Fig R) (l : ℕ) → (floor_of (levels_of_summary s) l < l) ⊎ (floor_of (levels_of_summary s) l < after (levels_of_summary s) l) → peak_of_summary 𝒜 s ≡ floor_of (levels_of_summary s) l
  floor-peak blank l (inl a) = absurd (omega arith)
  floor-peak blank l (inr a) = absurd (omega arith)
  floor-peak (part (spoilt f b e o)) l (inl a) = absurd (omega arith)
  floor-peak (part (spoilt f b e o)) l (inr a) = absurd (omega arith)
  floor-peak (part (whole p o h)) l a = refl

  -- The middle value of the summary k, if its peak is l.
  abbrev pub middle_if : ℕ → ℕ → Fig
  middle_if k l = cond (eqb (floor k) l) (middle (sides k)) ι

  cond_same : (t u : Bool) (x : Fig) → cond t x x ≡ cond u x x
  cond_same true true x = refl
  cond_same true false x = refl
  cond_same false true x = refl
  cond_same false false x = refl

  middle-floor : (s : Summary Fig R) (b l : ℕ) → cond (eqb (peak_of_summary 𝒜 s) l) (middle (slopes_of 𝒜 s)) ι ≡ cond (eqb (floor_of (levels_of_summary s) b) l) (middle (slopes_of 𝒜 s)) ι
  middle-floor blank b l = cond_same (eqb 0 l) (eqb b l) ι
  middle-floor (part (spoilt f a e o)) b l = cond_same (eqb 0 l) (eqb b l) ι
  middle-floor (part (whole p o h)) b l = refl

  -- The middle values of the hills between i and j whose peak is l.
  unfoldable pub middles : (i j l : ℕ) → Fig
  middles i j l = middles_at 𝒜 l (drop (suc i) (take j row))

  module _ (ℒ : Laws 𝒜) where
    open ℒ use {assoc, unit-l, unit-r}

    -- The next hill, and where there is none yet.
    middles-next : (i k l : ℕ) → i < k → middles i (suc k) l ≡ middles i k l ⊗ middle_if k l
    unfolding middles floor
    middles-next i k l a = dite (dec_lt k (length row)) inside outside
      where
        inside : k < length row → middles_at 𝒜 l (drop (suc i) (take (suc k) row)) ≡ middles_at 𝒜 l (drop (suc i) (take k row)) ⊗ middle_if k l
        inside b = middles-step 𝒜 ℒ row i k l a b ∙ ap (λ (y : Fig). middles_at 𝒜 l (drop (suc i) (take k row)) ⊗ y) (middle-floor (summary_at 𝒜 row k) (level k) l)

        outside : (k < length row → ⊥) → middles_at 𝒜 l (drop (suc i) (take (suc k) row)) ≡ middles_at 𝒜 l (drop (suc i) (take k row)) ⊗ middle_if k l
        outside b =
            rw (take_all (suc k) row (omega arith), take_all k row (omega arith), get_or-eq_default row blank {n = k} (omega arith), cond_same (eqb (level k) l) true ι)
            (sym (unit-r (middles_at 𝒜 l (drop (suc i) row))))

    middles-first : (i j l : ℕ) → j ≤ suc i → middles i j l ≡ ι
    unfolding middles
    middles-first i j l a = middles-start 𝒜 row i j l a

    pub middles-none : (i j l : ℕ) → ((k : ℕ) → i < k → k < j → l < floor k) → middles i j l ≡ ι
    middles-none i zero l f = middles-first i zero l (omega arith)
    middles-none i (suc k) l f = dite (dec_lt i k) (more (λ g. middles-none i k l g)) (λ a. middles-first i (suc k) l (omega arith))
      where
        more : (((q : ℕ) → i < q → q < k → l < floor q) → middles i k l ≡ ι) → i < k → middles i (suc k) l ≡ ι
        more ih a =
            let b : l < floor k = f k a (omega arith) in
            rw (middles-next i k l a, ne_eqb (floor k) l (omega arith), unit-r (middles i k l)) (ih (λ q c d. f q c (omega arith)))

    pub middles-add : (i k l : ℕ) → i < k → floor k ≡ l → middles i (suc k) l ≡ middles i k l ⊗ middle (sides k)
    middles-add i k l a e = rw (middles-next i k l a, eq-eqb (floor k) l e)

    pub middles-other : (i k l : ℕ) → i < k → floor k ≢ l → middles i (suc k) l ≡ middles i k l
    middles-other i k l a d = rw (middles-next i k l a, ne_eqb (floor k) l d, unit-r (middles i k l))

    -- The run of a line, whose depths are records of i.
    pub run_down : (i j lowest c : ℕ) (x : Fig) → floor i ≤ lowest → lowest ≤ c → c < level (suc i) → floor j < level j →
        through 𝒜 (run_levels 𝒜 row (record { i = i; j = j; lowest = lowest; highest = c })) x ≡ down (own 𝒜 (floor i) (sides i) (floor j) (sides j)) lowest (suc c) x
    unfolding run_levels floor
    run_down i j lowest c x a b d e =
        let f : floor_of (chunk i) (level i) < after (chunk i) (level i) = omega (arith, level-suc i) in
        rw (floor-peak (summary_at 𝒜 row i) (level i) (inr f), floor-peak (summary_at 𝒜 row j) (level j) (inl e))
        (through-levels 𝒜 ℒ (floor_of (chunk i) (level i)) (sides i) (floor_of (chunk j) (level j)) (sides j) lowest (suc c - lowest) x a
        (omega (arith, floor-fall (summary_at 𝒜 row i) (level i), level-suc i)))
