-- A row of summaries that the gate lets through: its hills meet, and it begins and ends at level 0. Assumes nothing.
use Rattle.std.specs.Prelude.{ℕ, zero, suc, ◌+◌, ◌*◌, ◌≤◌, ◌<◌, min, ◌≡◌, refl, List, [], ◌∷◌, map, length}
use Rattle.std.proofs.Common.{sym, ap, ◌∙◌, arith}
use Rattle.std.proofs.lemmas.List.{length-map}
use Rattle.algebra.specs.Algebra.{Algebra, Laws}
use Rattle.gate.specs.Outcome.{granted}
use Rattle.hill.specs.Verdict.{Verdict, pass, refuse, low, joint, count, ends}
use Rattle.hill.proofs.VerdictLaws.{low-fst, low-snd, joint-pass, ends-pass, refuse-pass}
use Rattle.hill.specs.Summary.{Hill, Part, spoilt, whole, Summary, blank as blankSummary, part, middle, fall, start, end, opened, verdict, judged, peak, slopes}
use Rattle.hill.specs.Merge.{merge_hills, merge_verdict, merge_part, merge_summary}
use Rattle.hill.proofs.SummaryLaws.{start-merge, end-merge}
use Rattle.hill.specs.Finish.{outcome, finish_of}
use Rattle.hill.specs.Row.{merge_row}
use Rattle.hill.proofs.RowLaws.{in_order, merge_row-in_order}
use Rattle.join_plan.specs.Plan.{Levels, row_of, joins, levels_of_summary, plan_of_row}
use Rattle.join_plan.specs.Joins.{after, level_at, Meets, WellFormed}
use Rattle.join_plan.proofs.PlanBound.{plan_of-bound}
use Rattle.join_plan.specs.Gate.{summary_fault}

-- chunks that meet one after the other from level l on, and the level after them
abbrev Follow : ℕ → List Levels → Type 0
Follow l [] = Unit {0}
Follow l (c ∷ cs) = Meets c l × Follow (after c l) cs

abbrev final : ℕ → List Levels → ℕ
final l [] = l
final l (c ∷ cs) = final (after c l) cs

-- the level before chunk n of a row that begins at level l
level_from : ℕ → (ℕ → Levels) → ℕ → ℕ
level_from l row zero = l
level_from l row (suc n) = after (row n) (level_from l row n)

from_zero : (row : ℕ → Levels) (n : ℕ) → level_from 0 row n ≡ level_at row n
unfolding level_from level_at
from_zero row zero = refl
from_zero row (suc n) = ap (after (row n)) (from_zero row n)

from_cons : (l : ℕ) (c : Levels) (cs : List Levels) (n : ℕ) → level_from l (row_of (c ∷ cs)) (suc n) ≡ level_from (after c l) (row_of cs) n
unfolding level_from
from_cons l c cs zero = refl
from_cons l c cs (suc n) = ap (after (row_of cs n)) (from_cons l c cs n)

follow-meets : (l : ℕ) (cs : List Levels) → Follow l cs → (k : ℕ) → k < length cs → Meets (row_of cs k) (level_from l (row_of cs) k)
unfolding level_from
follow-meets l [] f k b = tt
follow-meets l (c ∷ cs) f zero b = f.0
follow-meets l (c ∷ cs) f (suc k) b = rw (from_cons l c cs k) (follow-meets (after c l) cs f.1 k (omega arith))

follow-final : (l : ℕ) (cs : List Levels) → level_from l (row_of cs) (length cs) ≡ final l cs
unfolding level_from
follow-final l [] = refl
follow-final l (c ∷ cs) = from_cons l c cs (length cs) ∙ follow-final (after c l) cs

follow-row : (cs : List Levels) → Follow 0 cs → final 0 cs ≡ 0 → WellFormed (row_of cs) (length cs)
follow-row cs f e = record { meets = λ k b. rw (← from_zero (row_of cs) k) (follow-meets 0 cs f k b); ends = sym (from_zero (row_of cs) (length cs)) ∙ follow-final 0 cs ∙ e }

judged-pass : {Fig R : Type 0} (v : Verdict) (s e o p : ℕ) (h : Hill Fig R) → verdict (judged v s e o p h) ≡ pass → v ≡ pass
judged-pass pass s e o p h x = refl
judged-pass (refuse n) s e o p h x = absurd (refuse-pass x)

outcome-pass : {A : Type 0} (v : Verdict) (a w : A) → outcome v a ≡ granted w → v ≡ pass
outcome-pass pass a w e = refl
outcome-pass (refuse n) a w e = cc

module _ {R : Type 0} (𝒜 : Algebra R) where
  open 𝒜 use {Fig}

  -- what passes has parts that pass and meet
  merge-pass : (a b : Part Fig R) → verdict (merge_part 𝒜 a b) ≡ pass → (verdict a ≡ pass) × (verdict b ≡ pass) × (end a ≡ start b)
  merge-pass a b v =
      let j : Verdict = low (joint (end a) (start b)) (count (opened a + opened b)) in
      let w : merge_verdict 𝒜 a b ≡ pass = judged-pass (merge_verdict 𝒜 a b) (start a) (end b) (opened a + opened b) (min (peak 𝒜 a) (peak 𝒜 b)) (merge_hills 𝒜 (slopes 𝒜 a) (slopes 𝒜 b)) v in
      let x : low (verdict b) j ≡ pass = low-snd (verdict a) (low (verdict b) j) w in
      (low-fst (verdict a) (low (verdict b) j) w, low-fst (verdict b) j x, joint-pass (end a) (start b) (low-fst (joint (end a) (start b)) (count (opened a + opened b)) (low-snd (verdict b) j x)))

  pub fault-parts : (s t : Summary Fig R) → summary_fault 𝒜 (merge_summary 𝒜 s t) ≡ pass → (summary_fault 𝒜 s ≡ pass) × (summary_fault 𝒜 t ≡ pass)
  fault-parts blankSummary t v = (refl, v)
  fault-parts (part a) blankSummary v = (v, refl)
  fault-parts (part a) (part b) v = let s = merge-pass a b v in (s.0, s.1)

  -- a summary is entered at level l, and left at
  abbrev Enters : Summary Fig R → ℕ → Type 0
  Enters blankSummary l = Unit {0}
  Enters (part a) l = start a ≡ l

  abbrev leaves : Summary Fig R → ℕ → ℕ
  leaves blankSummary l = l
  leaves (part a) l = end a

  -- the chunks follow from level l on, and end where the merge of their summaries does
  abbrev Runs : Summary Fig R → List Levels → ℕ → Type 0
  Runs m cs l = Follow l cs × (final l cs ≡ leaves m l)

  abbrev merged : List (Summary Fig R) → Summary Fig R
  merged = in_order (merge_summary 𝒜) blankSummary

  module _ (ℒ : Laws 𝒜) where
    runs-cons : (s m : Summary Fig R) (cs : List Levels) (l : ℕ) → ((l : ℕ) → summary_fault 𝒜 m ≡ pass → Enters m l → Runs m cs l) →
        (summary_fault 𝒜) (merge_summary 𝒜 s m) ≡ pass → Enters (merge_summary 𝒜 s m) l → Runs (merge_summary 𝒜 s m) (levels_of_summary s ∷ cs) l
    runs-cons blankSummary m cs l ih v e = let (f, g) = ih l v e in ((tt, f), g)
    runs-cons (part (spoilt x s t o)) m cs l ih v e = absurd (refuse-pass (fault-parts (part (spoilt x s t o)) m v).0)
    runs-cons (part (whole p o h)) blankSummary cs l ih v e = let (f, g) = ih (p + fall h) refl tt in (((e, omega arith, omega arith), f), g)
    runs-cons (part (whole p o h)) (part b) cs l ih v e =
        let (x, y, z) = merge-pass (whole p o h) b v in
        let (f, g) = ih (p + fall h) y (sym z) in
        (((sym (start-merge 𝒜 ℒ (whole p o h) b) ∙ e, omega arith, omega arith), f), g ∙ sym (end-merge 𝒜 ℒ (whole p o h) b))

    runs : (sums : List (Summary Fig R)) (l : ℕ) → summary_fault 𝒜 (merged sums) ≡ pass → Enters (merged sums) l → Runs (merged sums) (map levels_of_summary sums) l
    runs [] l v e = (tt, refl)
    runs (s ∷ sums) l v e = runs-cons s (merged sums) (map levels_of_summary sums) l (runs sums) v e

    -- questions 7 to 11 of a row are those of its merge: where finishing that gives a figure, the row is well formed
    pub gate-row : (sums : List (Summary Fig R)) (w : Fig) → finish_of 𝒜 (merge_row 𝒜 sums) ≡ granted w → WellFormed (row_of (map levels_of_summary sums)) (length sums)
    gate-row sums w e = go (merged sums) (ap (finish_of 𝒜) (sym (merge_row-in_order 𝒜 ℒ sums)) ∙ e) (runs sums 0)
      where
        go : (m : Summary Fig R) → finish_of 𝒜 m ≡ granted w → (summary_fault 𝒜 m ≡ pass → Enters m 0 → Runs m (map levels_of_summary sums) 0) → WellFormed (row_of (map levels_of_summary sums)) (length sums)
        go blankSummary e r = absurd (refuse-pass (outcome-pass (refuse 10) w w e))
        go (part a) e r =
            let v = outcome-pass (low (verdict a) (ends (start a) (end a))) (middle (slopes 𝒜 a)) w e in
            let (s, t) = ends-pass (start a) (end a) (low-snd (verdict a) (ends (start a) (end a)) v) in
            let (f, g) = r (low-fst (verdict a) (ends (start a) (end a)) v) s in
            rw (← length-map sums levels_of_summary) (follow-row (map levels_of_summary sums) f (g ∙ t))

    -- AT MOST 2 P - 3 LINES, for every row of P ≥ 2 summaries that the gate lets through, also of bytes that no chunk makes
    pub gate-bound : (sums : List (Summary Fig R)) (w : Fig) → finish_of 𝒜 (merge_row 𝒜 sums) ≡ granted w → 2 ≤ length sums → joins (plan_of_row sums) + 3 ≤ 2 * length sums
    gate-bound sums w e h =
        rw (length-map sums levels_of_summary) at
        (plan_of-bound (map levels_of_summary sums) (rw (length-map sums levels_of_summary) (gate-row sums w e)) (rw (length-map sums levels_of_summary) h))
