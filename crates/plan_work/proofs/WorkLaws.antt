-- The clauses of the definitions of Runs and Work, as equations to rewrite by: what loops over levels, hills and lines go by. Assumes nothing.
use Rattle.std.specs.Prelude.{◌≡◌, Bool, true, false, ◌&&◌, ◌≢◌, leb, eqb, length, take, drop}
use Rattle.std.proofs.Math.Path.{refl, sym, ap}
use Rattle.std.proofs.Common.{◌∙◌, arith, le-leb, eq-eqb, ne_eqb, length-take, drop_of_length-le, take-suc, length-take-le}
use Rattle.std.proofs.Math.Bool.{cond}
use mathlib.Core.List.{List, [], ◌∷◌, ◌++◌}
use Prim.Native.Nat.{ℕ, suc, ◌+◌, ◌≤◌, ◌<◌}
use Rattle.std.proofs.lemmas.Bool.{lt-leb}
use Rattle.std.proofs.lemmas.List.{drop-append-le}
use Rattle.algebra.specs.Algebra.{Algebra, Laws}
use Rattle.hill.specs.Summary.{Hill, Summary, blank, middle}
use Rattle.join_plan.specs.Plan.{Line}
use Rattle.plan_work.specs.Runs.{peak_of_summary, slopes_of, left_value_at, open_from, level_of, levels_down, summary_at}
use Rattle.plan_work.specs.Work.{Done, middles_at, outcomes_at, strictly_between, worked}
use Rattle.plan_work.specs.WorkLaws.{work}

and_no : (t : Bool) → t && false ≡ false
and_no true = refl
and_no false = refl

module _ {R : Type 0} (𝒜 : Algebra R) where
  open 𝒜 use {Fig, ι, ◌⊗◌}

  infixl 70 ◌⊗◌
  -- what an earlier line gives to the x of a line from i to j
  abbrev pub gives : (i j l : ℕ) → Done Fig → Fig
  gives i j l d = cond (leb i d.line.i && leb d.line.j j && eqb d.line.lowest l) d.out ι

  pub gives_all : (i j l : ℕ) (d : Done Fig) → i ≤ d.line.i → d.line.j ≤ j → d.line.lowest ≡ l → gives i j l d ≡ d.out
  gives_all i j l d a b c = rw (le-leb i d.line.i a, le-leb d.line.j j b, eq-eqb d.line.lowest l c)

  pub gives-before : (i j l : ℕ) (d : Done Fig) → d.line.i < i → gives i j l d ≡ ι
  gives-before i j l d a = rw (lt-leb i d.line.i a)

  pub gives_other : (i j l : ℕ) (d : Done Fig) → d.line.lowest ≢ l → gives i j l d ≡ ι
  gives_other i j l d c = rw (ne_eqb d.line.lowest l c, and_no (leb i d.line.i && leb d.line.j j))

  pub outs-nil : (i j l : ℕ) → outcomes_at 𝒜 i j l [] ≡ ι
  unfolding outcomes_at
  outs-nil i j l = refl

  pub outs-cons : (i j l : ℕ) (d : Done Fig) (ds : List (Done Fig)) → outcomes_at 𝒜 i j l (d ∷ ds) ≡ gives i j l d ⊗ outcomes_at 𝒜 i j l ds
  unfolding outcomes_at
  outs-cons i j l d ds = refl

  module _ (row : List (Summary Fig R)) where
    pub worked-nil : (ds : List (Done Fig)) → worked 𝒜 row [] ds ≡ ds
    unfolding worked
    worked-nil ds = refl

    pub worked-cons : (e : Line) (es : List Line) (ds : List (Done Fig)) → worked 𝒜 row (e ∷ es) ds ≡ worked 𝒜 row es (work 𝒜 row e ds ∷ ds)
    unfolding worked
    worked-cons e es ds = refl

    pub worked-append : (es fs : List Line) (ds : List (Done Fig)) → worked 𝒜 row (es ++ fs) ds ≡ worked 𝒜 row fs (worked 𝒜 row es ds)
    worked-append [] fs ds = rw worked-nil
    worked-append (e ∷ es) fs ds = rw (worked-cons e (es ++ fs), worked-cons e es) (worked-append es fs (work 𝒜 row e ds ∷ ds))

  pub levels-none : (p : ℕ) (g : Hill Fig R) (q : ℕ) (h : Hill Fig R) (lowest : ℕ) → levels_down 𝒜 p g q h lowest 0 ≡ []
  unfolding levels_down
  levels-none p g q h lowest = refl

  -- The level of depth `lowest` + n stands before those below it.
  pub levels-next : (p : ℕ) (g : Hill Fig R) (q : ℕ) (h : Hill Fig R) (lowest n : ℕ) →
      levels_down 𝒜 p g q h lowest (suc n) ≡ level_of 𝒜 (open_from 𝒜 p g (suc (lowest + n))) (left_value_at 𝒜 q h (suc (lowest + n))) ++ levels_down 𝒜 p g q h lowest n
  unfolding levels_down
  levels-next p g q h lowest n = refl

  -- The hills between i and j, one more at a time: none after i, and then the next.
  pub middles-start : (row : List (Summary Fig R)) (i j l : ℕ) → j ≤ suc i → middles_at 𝒜 l (strictly_between 𝒜 row i j) ≡ ι
  unfolding middles_at
  middles-start row i j l a = rw (drop_of_length-le (take j row) {i = suc i} (rw (length-take j row) (omega arith)))

  module _ (ℒ : Laws 𝒜) where
    open ℒ use {assoc, unit-l, unit-r}

    middles-last : (l : ℕ) (ss : List (Summary Fig R)) (s : Summary Fig R) → middles_at 𝒜 l (ss ++ (s ∷ [])) ≡ middles_at 𝒜 l ss ⊗ cond (eqb (peak_of_summary 𝒜 s) l) (middle (slopes_of 𝒜 s)) ι
    unfolding middles_at
    middles-last l [] s = unit-r _ ∙ sym (unit-l _)
    middles-last l (t ∷ ss) s = ap (λ (y : Fig). cond (eqb (peak_of_summary 𝒜 t) l) (middle (slopes_of 𝒜 t)) ι ⊗ y) (middles-last l ss s) ∙ sym (assoc _ _ _)

    pub middles-step : (row : List (Summary Fig R)) (i k l : ℕ) → i < k → k < length row →
        middles_at 𝒜 l (strictly_between 𝒜 row i (suc k)) ≡ middles_at 𝒜 l (strictly_between 𝒜 row i k) ⊗ cond (eqb (peak_of_summary 𝒜 (summary_at 𝒜 row k)) l) (middle (slopes_of 𝒜 (summary_at 𝒜 row k))) ι
    middles-step row i k l a b =
        rw (take-suc row k blank b, drop-append-le (suc i) (take k row) (summary_at 𝒜 row k ∷ []) (rw (length-take-le k row (omega arith)) a))
        (middles-last l (drop (suc i) (take k row)) (summary_at 𝒜 row k))
