-- THE WORK ALONG THE PLAN gives what finishing the merged row answers, for every row of accepted summaries. Assumes nothing.
use Rattle.std.specs.Prelude.{◌≡◌, length, drop}
use Rattle.std.proofs.Math.Path.{refl, sym, ap}
use Rattle.std.proofs.Common.{◌∙◌, subst, arith, drop_of_length-le}
use mathlib.Core.List.{List, [], ◌∷◌}
use Rattle.std.proofs.Math.Logic.{dite}
use Prim.Native.Nat.{ℕ, zero, suc, ◌+◌, ◌<◌}
use Rattle.std.proofs.Math.Decide.{dec_lt}
use Rattle.algebra.specs.Algebra.{Algebra, Laws, Commutative}
use Rattle.hill.specs.Verdict.{pass}
use Rattle.hill.specs.Summary.{Hill, Part, Summary, spoilt, whole, blank, part, rise, fall, middle, slopes}
use Rattle.hill.specs.Merge.{merge_summary}
use Rattle.hill.specs.Finish.{outcome, finish_of}
use Rattle.hill.specs.Building.{empty, merge}
use Rattle.hill.proofs.Building.{merge-empty, empty-merge, merge-assoc}
use Rattle.hill.proofs.SummaryLaws.{verdict-merge, slopes-merge}
use Rattle.hill.proofs.FinishLaws.{outcome-same}
use Rattle.hill.proofs.RowLaws.{merge_row-in_order}
use Rattle.hill.specs.Row.{merge_row}
use Rattle.join_plan.specs.Joins.{after, level_at}
use Rattle.join_plan.specs.Plan.{levels_of_summary}
use Rattle.join_plan.specs.Gate.{summary_fault}
use Rattle.join_plan.proofs.Gate.{fault-parts}
use Rattle.plan_work.specs.Runs.{slopes_of, summary_at}
use Rattle.plan_work.specs.Work.{Done, one_middle, last_outcome, work_of}
use Rattle.plan_work.specs.Gate.{row_fault}
use Rattle.plan_work.specs.Fair.{FairHill, FairPart, FairRow}
use Rattle.plan_work.proofs.GateExact.{merge_all, finish-row, row-unspoilt, Chain, Begins, row-begins}
use Rattle.plan_work.proofs.Fold.{down-none}
use Rattle.plan_work.proofs.Merged.{merged, closed, centre, pit, merged-stack, centre-up, centre-down}
use Rattle.plan_work.proofs.RowLevels.{floor_of, unroll, level, floor, sides, meeting, level-suc, plan-row}
use Rattle.plan_work.proofs.Invariant.{done, last-outcome, done-flat, done-zero}

module _ {R : Type 0} (𝒜 : Algebra R) where
  open 𝒜 use {Fig, ι, ◌⊗◌}

  infixl 70 ◌⊗◌
  -- The hills of a row, merged from the right.
  abbrev all_slopes : List (Summary Fig R) → Hill Fig R
  all_slopes [] = empty 𝒜
  all_slopes (s ∷ row) = merge 𝒜 (slopes_of 𝒜 s) (all_slopes row)

  module _ (ℒ : Laws 𝒜) where
    merge-whole : (a : Part Fig R) (t : Summary Fig R) → summary_fault 𝒜 (merge_summary 𝒜 (part a) t) ≡ pass → slopes_of 𝒜 (merge_summary 𝒜 (part a) t) ≡ merge 𝒜 (slopes 𝒜 a) (slopes_of 𝒜 t)
    merge-whole a blank v = sym (merge-empty 𝒜 ℒ (slopes 𝒜 a))
    merge-whole a (part b) v = slopes-merge 𝒜 ℒ a b (sym (verdict-merge 𝒜 a b) ∙ v)

    -- The merged row has the merged slopes, ..
    merged-slopes : (row : List (Summary Fig R)) → summary_fault 𝒜 (merge_all 𝒜 row) ≡ pass → slopes_of 𝒜 (merge_all 𝒜 row) ≡ all_slopes row
    merged-slopes [] v = refl
    merged-slopes (blank ∷ row) v = merged-slopes row v ∙ sym (empty-merge 𝒜 ℒ (all_slopes row))
    merged-slopes (part a ∷ row) v =
        merge-whole a (merge_all 𝒜 row) v ∙ ap (merge 𝒜 (slopes 𝒜 a)) (merged-slopes row (fault-parts 𝒜 (part a) (merge_all 𝒜 row) v).1)

    -- .. also hill after hill.
    merged-shift : (h : ℕ → Hill Fig R) (a : Hill Fig R) (n : ℕ) → merged 𝒜 h a (suc n) ≡ merged 𝒜 (λ k. h (suc k)) (merge 𝒜 a (h 0)) n
    unfolding merged
    merged-shift h a zero = refl
    merged-shift h a (suc n) = ap (λ (b : Hill Fig R). merge 𝒜 b (h (suc n))) (merged-shift h a n)

    merged-onto : (row : List (Summary Fig R)) (a : Hill Fig R) → merge 𝒜 a (all_slopes row) ≡ merged 𝒜 (sides 𝒜 row) a (length row)
    unfolding merged
    merged-onto [] a = merge-empty 𝒜 ℒ a
    merged-onto (s ∷ row) a =
        sym (merge-assoc 𝒜 ℒ a (slopes_of 𝒜 s) (all_slopes row)) ∙ merged-onto row (merge 𝒜 a (slopes_of 𝒜 s)) ∙ sym (merged-shift (sides 𝒜 (s ∷ row)) a (length row))

    merged-row : (row : List (Summary Fig R)) → summary_fault 𝒜 (merge_all 𝒜 row) ≡ pass → slopes_of 𝒜 (merge_all 𝒜 row) ≡ merged 𝒜 (sides 𝒜 row) (empty 𝒜) (length row)
    merged-row row v = merged-slopes row v ∙ sym (empty-merge 𝒜 ℒ (all_slopes row)) ∙ merged-onto row (empty 𝒜)

  -- Of the summary k of a row.
  abbrev Fair : Summary Fig R → Type 0
  Fair blank = Unit {0}
  Fair (part a) = FairPart 𝒜 a

  fair-at : (row : List (Summary Fig R)) (k : ℕ) → FairRow 𝒜 row → Fair (summary_at 𝒜 row k)
  fair-at [] k f = tt
  fair-at (blank ∷ row) zero f = tt
  fair-at (blank ∷ row) (suc k) f = fair-at row k f
  fair-at (part b ∷ row) zero f = f.0
  fair-at (part b ∷ row) (suc k) f = fair-at row k f.1

  abbrev IsBlank : Summary Fig R → Type 0
  IsBlank blank = Unit {0}
  IsBlank (part a) = ⊥

  -- The one hill is the first after blanks.
  one-middle : (row : List (Summary Fig R)) (k : ℕ) → ((i : ℕ) → i < k → IsBlank (summary_at 𝒜 row i)) → (IsBlank (summary_at 𝒜 row k) → ⊥) → one_middle 𝒜 row ≡ middle (sides 𝒜 row k)
  one-middle [] k f g = refl
  one-middle (blank ∷ row) zero f g = absurd (g tt)
  one-middle (blank ∷ row) (suc k) f g = one-middle row k (λ i b. f (suc i) (omega arith)) g
  one-middle (part b ∷ row) zero f g = refl
  one-middle (part b ∷ row) (suc k) f g = absurd (f 0 (omega arith))

module _ {R : Type 0} (𝒜 : Algebra R) (ℒ : Laws 𝒜) (comm : Commutative 𝒜) (row : List (Summary 𝒜.Fig R)) (starts : Begins row) (fair : FairRow 𝒜 row) where
  open 𝒜 use {Fig, ι, ◌⊗◌}
  open ℒ use {assoc, unit-l, unit-r}

  infixl 70 ◌⊗◌
  abbrev lines : ℕ → List (Done Fig)
  lines n = done 𝒜 ℒ comm row starts n

  abbrev mid : ℕ → Fig
  mid n = centre 𝒜 (sides 𝒜 row) (floor 𝒜 row) (level 𝒜 row) n

  abbrev got : ℕ → Fig
  got n = pit 𝒜 (sides 𝒜 row) (floor 𝒜 row) (level 𝒜 row) n (floor 𝒜 row n)

  -- Before the hill n: no hill yet; or records are open; or the log is over. At level 0 the middle value is the figure.
  data Phase (n : ℕ) : Type 0 where
    none : level 𝒜 row n ≡ 0 → Begins (drop n row) → mid n ≡ ι → lines n ≡ [] → ((k : ℕ) → k < n → IsBlank 𝒜 (summary_at 𝒜 row k)) → Phase n
    high : 0 < level 𝒜 row n → Chain (level 𝒜 row n) (drop n row) → mid n ≡ ι → Phase n
    over : level 𝒜 row n ≡ 0 → Chain 0 (drop n row) → last_outcome 𝒜 (lines n) (one_middle 𝒜 row) ≡ mid n → Phase n

  flat-got : (n : ℕ) → floor 𝒜 row n ≡ level 𝒜 row n → got n ≡ ι
  unfolding closed
  flat-got n e = rw (e, down-none _ (level 𝒜 row n) ι)

  mid-flat : (n : ℕ) → level 𝒜 row n ≡ 0 → mid (suc n) ≡ mid n ⊗ middle (sides 𝒜 row n)
  mid-flat n e =
      let q : floor 𝒜 row n ≡ 0 = omega (arith, (meeting 𝒜 row starts).rises n) in
      rw (centre-down 𝒜 (sides 𝒜 row) (floor 𝒜 row) (level 𝒜 row) ℒ (meeting 𝒜 row starts) n q, flat-got n (omega arith), unit-l (middle (sides 𝒜 row n)))

  -- What the summary n is, where it is s.
  module _ (n : ℕ) (s : Summary Fig R) (e : summary_at 𝒜 row n ≡ s) where
    level-is : level 𝒜 row (suc n) ≡ after (levels_of_summary s) (level 𝒜 row n)
    level-is = level-suc 𝒜 row n ∙ ap (λ (t : Summary Fig R). after (levels_of_summary t) (level 𝒜 row n)) e

    floor-is : floor 𝒜 row n ≡ floor_of (levels_of_summary s) (level 𝒜 row n)
    unfolding floor
    floor-is = ap (λ (t : Summary Fig R). floor_of (levels_of_summary t) (level 𝒜 row n)) e

    middle-is : middle (sides 𝒜 row n) ≡ middle (slopes_of 𝒜 s)
    middle-is = ap (λ (t : Summary Fig R). middle (slopes_of 𝒜 t)) e

    begins-is : Begins (drop n row) → Begins (s ∷ drop (suc n) row)
    begins-is b = subst (λ (t : Summary Fig R). Begins (t ∷ drop (suc n) row)) e (unroll {d = blank} Begins (λ g. g) row n b)

    chain-is : (l : ℕ) → Chain l (drop n row) → Chain l (s ∷ drop (suc n) row)
    chain-is l c = subst (λ (t : Summary Fig R). Chain l (t ∷ drop (suc n) row)) e (unroll {d = blank} (Chain l) (λ g. g) row n c)

  -- A blank changes nothing.
  phase-blank : (n : ℕ) → summary_at 𝒜 row n ≡ blank → Phase n → Phase (suc n)
  phase-blank n e (none l b m d f) = none
      (level-is n blank e ∙ l)
      (begins-is n blank e b)
      (mid-flat n l ∙ rw (middle-is n blank e, unit-r (mid n)) m)
      (done-flat 𝒜 ℒ comm row starts n l ∙ d)
      (λ k a. dite (dec_lt k n) (f k) (λ c. let q : k ≡ n = omega arith in rw (q, e) tt))
  phase-blank n e (high l c m) = high
      (rw (level-is n blank e) l)
      (subst (λ (x : ℕ). Chain x (drop (suc n) row)) (sym (level-is n blank e)) (chain-is n blank e (level 𝒜 row n) c))
      (centre-up 𝒜 (sides 𝒜 row) (floor 𝒜 row) (level 𝒜 row) ℒ (meeting 𝒜 row starts) n (rw (floor-is n blank e) l) ∙ m)
  phase-blank n e (over l c m) = over
      (level-is n blank e ∙ l)
      (chain-is n blank e 0 c)
      (rw (done-flat 𝒜 ℒ comm row starts n l, mid-flat n l, middle-is n blank e, unit-r (mid n)) m)

  -- A hill opens the log, goes on, or ends it.
  module _ (n p o : ℕ) (h : Hill Fig R) (e : summary_at 𝒜 row n ≡ part (whole p o h)) (f : FairHill 𝒜 p o h) where
    abbrev it : Summary Fig R
    it = part (whole p o h)

    phase-first : level 𝒜 row n ≡ 0 → Begins (drop n row) → mid n ≡ ι → lines n ≡ [] → ((k : ℕ) → k < n → IsBlank 𝒜 (summary_at 𝒜 row k)) → Phase (suc n)
    phase-first l b m d g = dite (dec_lt 0 (fall h)) opens shuts
      where
        c : (p + rise h ≡ 0) × Chain (p + fall h) (drop (suc n) row)
        c = begins-is n it e b

        centre-is : mid (suc n) ≡ middle h
        centre-is = mid-flat n l ∙ rw (m, middle-is n it e, unit-l (middle h))

        opens : 0 < fall h → Phase (suc n)
        opens a = high
            (rw (level-is n it e) (omega arith))
            (subst (λ (x : ℕ). Chain x (drop (suc n) row)) (sym (level-is n it e)) c.1)
            (centre-is ∙ f.nothing (omega (arith, c.0)) (omega arith))

        shuts : (0 < fall h → ⊥) → Phase (suc n)
        shuts a =
            let z : p + fall h ≡ 0 = omega (arith, c.0) in
            over
            (level-is n it e ∙ z)
            (subst (λ (x : ℕ). Chain x (drop (suc n) row)) z c.1)
            (rw (done-flat 𝒜 ℒ comm row starts n l, d) (one-middle 𝒜 row n g (rw e (λ t. t)) ∙ middle-is n it e ∙ sym centre-is))

    phase-next : 0 < level 𝒜 row n → Chain (level 𝒜 row n) (drop n row) → mid n ≡ ι → Phase (suc n)
    phase-next l c m = dite (dec_lt 0 p) goes_on ends-here
      where
        g : (0 < level 𝒜 row n) × (p + rise h ≡ level 𝒜 row n) × Chain (p + fall h) (drop (suc n) row)
        g = chain-is n it e (level 𝒜 row n) c

        goes_on : 0 < p → Phase (suc n)
        goes_on a = high
            (rw (level-is n it e) (omega arith))
            (subst (λ (x : ℕ). Chain x (drop (suc n) row)) (sym (level-is n it e)) g.2)
            (centre-up 𝒜 (sides 𝒜 row) (floor 𝒜 row) (level 𝒜 row) ℒ (meeting 𝒜 row starts) n (rw (floor-is n it e) a) ∙ m)

        ends-here : (0 < p → ⊥) → Phase (suc n)
        ends-here a =
            let q : p ≡ 0 = omega arith in
            let z : p + fall h ≡ 0 = omega (arith, f.ground q, g.1) in
            let w : floor 𝒜 row n ≡ 0 = floor-is n it e ∙ q in
            over
            (level-is n it e ∙ z)
            (subst (λ (x : ℕ). Chain x (drop (suc n) row)) z g.2)
            (last-outcome 𝒜 ℒ comm row starts n (one_middle 𝒜 row) (omega arith)
            ∙ sym (centre-down 𝒜 (sides 𝒜 row) (floor 𝒜 row) (level 𝒜 row) ℒ (meeting 𝒜 row starts) n w
            ∙ rw (m, middle-is n it e, f.nothing q (omega (arith, g.1)), unit-r (got n), unit-l (got n))))

  phase-step : (n : ℕ) (s : Summary Fig R) → summary_at 𝒜 row n ≡ s → Fair 𝒜 s → Phase n → Phase (suc n)
  phase-step n blank e f q = phase-blank n e q
  phase-step n (part (spoilt x a c o)) e f (none l b m d g) = absurd (begins-is n (part (spoilt x a c o)) e b)
  phase-step n (part (spoilt x a c o)) e f (high l b m) = absurd (chain-is n (part (spoilt x a c o)) e (level 𝒜 row n) b)
  phase-step n (part (spoilt x a c o)) e f (over l b m) = absurd (chain-is n (part (spoilt x a c o)) e 0 b)
  phase-step n (part (whole p o h)) e f (none l b m d g) = phase-first n p o h e f l b m d g
  phase-step n (part (whole p o h)) e f (high l c m) = phase-next n p o h e f l c m
  phase-step n (part (whole p o h)) e f (over l c m) = absurd (omega (arith, (chain-is n (part (whole p o h)) e 0 c).0))

  phase : (n : ℕ) → Phase n
  unfolding level level_at centre
  phase zero = none refl starts refl (done-zero 𝒜 ℒ comm row starts) (λ k a. absurd (omega arith))
  phase (suc n) = phase-step n (summary_at 𝒜 row n) refl (fair-at 𝒜 row n fair) (phase n)

  -- At the end of the row the log is over.
  at-end : (n : ℕ) → length row ≡ n → Phase n → last_outcome 𝒜 (lines n) (one_middle 𝒜 row) ≡ mid n
  at-end n e (none l b m d g) = absurd (subst Begins (drop_of_length-le row {i = n} (omega arith)) b)
  at-end n e (high l c m) = let z : level 𝒜 row n ≡ 0 = subst (Chain (level 𝒜 row n)) (drop_of_length-le row {i = n} (omega arith)) c in absurd (omega arith)
  at-end n e (over l c m) = m

  work-mid : (work_of 𝒜 row).figure ≡ middle (merged 𝒜 (sides 𝒜 row) (empty 𝒜) (length row))
  work-mid =
      rw (plan-row 𝒜 row, merged-stack 𝒜 (sides 𝒜 row) (floor 𝒜 row) (level 𝒜 row) ℒ (meeting 𝒜 row starts) (length row))
      (at-end (length row) refl (phase (length row)))

module _ {R : Type 0} (𝒜 : Algebra R) (ℒ : Laws 𝒜) (comm : Commutative 𝒜) (row : List (Summary 𝒜.Fig R)) (fair : FairRow 𝒜 row) where
  -- THE WORK ALONG THE PLAN of a row that the gate lets through gives the middle value of the merged row.
  pub work-middle : row_fault row ≡ pass → (work_of 𝒜 row).figure ≡ middle (slopes_of 𝒜 (merge_row 𝒜 row))
  work-middle v =
      work-mid 𝒜 ℒ comm row (row-begins row v) fair
      ∙ ap middle (sym (ap (slopes_of 𝒜) (merge_row-in_order 𝒜 ℒ row) ∙ merged-row 𝒜 ℒ row (row-unspoilt 𝒜 ℒ row fair v)))

  -- So the row's fault, or else the figure of the work along its plan, is what finishing the merged row answers.
  pub work-finish : finish_of 𝒜 (merge_row 𝒜 row) ≡ outcome (row_fault row) (work_of 𝒜 row).figure
  work-finish =
      ap (finish_of 𝒜) (merge_row-in_order 𝒜 ℒ row) ∙ finish-row 𝒜 ℒ row fair
      ∙ outcome-same (row_fault row) (middle (slopes_of 𝒜 (merge_all 𝒜 row))) (work_of 𝒜 row).figure
      (λ v. ap (λ (s : Summary 𝒜.Fig R). middle (slopes_of 𝒜 s)) (sym (merge_row-in_order 𝒜 ℒ row)) ∙ sym (work-middle v))
