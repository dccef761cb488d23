-- The runs of a row of summaries, from its plan: definitions only. Assumes nothing.
use Rattle.std.specs.Prelude.{List, [], ◌∷◌, ◌++◌, ℕ, zero, suc, ◌+◌, ◌-◌, length, get_or, drop}
use Rattle.algebra.specs.Algebra.{Algebra}
use Rattle.algebra.specs.Run.{Level, Context, run}
use Rattle.hill.specs.Summary.{Hill, hill, Summary, blank, part, peak, slopes}
use Rattle.join_plan.specs.Plan.{Line, plan_of_row}

module _ {R : Type 0} (𝒜 : Algebra R) where
  open 𝒜 use {Fig, ι}

  -- The peak and the slopes of a summary; a blank has no slopes and holds nothing.
  abbrev pub peak_of_summary : Summary Fig R → ℕ
  peak_of_summary blank = 0
  peak_of_summary (part a) = peak 𝒜 a

  abbrev pub slopes_of : Summary Fig R → Hill Fig R
  slopes_of blank = hill [] ι []
  slopes_of (part a) = slopes 𝒜 a

  -- Of a hill over the peak p, the left value at level l: the first in the list stands at level p + 1.
  abbrev pub left_value_at : ℕ → Hill Fig R → ℕ → Fig
  left_value_at p (hill u m d) l = get_or u (l - suc p) ι

  -- And its unclosed records from level l down: the first in the list stands at the end level, p + length d.
  abbrev pub open_from : ℕ → Hill Fig R → ℕ → List (R × Fig)
  open_from p (hill u m d) l = drop (p + length d - l) d

  -- One level of a run: the first of these unclosed records, with its held figures so far before x and the value v after it. A line of the plan has
  -- such a record at each of its depths, so no level is left out: RunsExact.run-length.
  abbrev pub level_of : List (R × Fig) → Fig → List (Level 𝒜)
  level_of [] v = []
  level_of (e ∷ d) v = record { carried = e.0; before = e.1; after = v } ∷ []

  -- The n depths from `lowest` on, the highest first, where the hill g, over p, has unclosed records that the hill h, over q, closes. The record
  -- of depth d stands at level d + 1.
  unfoldable pub levels_down : ℕ → Hill Fig R → ℕ → Hill Fig R → (lowest n : ℕ) → List (Level 𝒜)
  levels_down p g q h lowest zero = []
  levels_down p g q h lowest (suc n) = level_of (open_from p g (suc (lowest + n))) (left_value_at q h (suc (lowest + n))) ++ levels_down p g q h lowest n

  module _ (row : List (Summary Fig R)) where
    -- The summary k of a row (past its end: a blank).
    abbrev pub summary_at : ℕ → Summary Fig R
    summary_at k = get_or row k blank

    -- The levels that a line's run goes through, from its highest depth to its lowest.
    unfoldable pub run_levels : Line → List (Level 𝒜)
    run_levels e =
        levels_down (peak_of_summary (summary_at e.i)) (slopes_of (summary_at e.i)) (peak_of_summary (summary_at e.j)) (slopes_of (summary_at e.j))
        e.lowest (suc e.highest - e.lowest)

module _ {R : Type 0} {𝒜 : Algebra R} {Sound : R → Type 0} (C : Context 𝒜 Sound) where
  -- The run of nested levels as a mode's numbers: there is one wherever there is a level. Each line of the plan has a level (RunsExact.run-length), and
  -- so its run: RunsExact.runs-count.
  abbrev pub run_of : List (Level 𝒜) → List C.K
  run_of [] = []
  run_of (l ∷ ls) = run C l ls ∷ []

  -- The runs of a row: one for each line, in plan order.
  unfoldable pub runs_along : List (Summary 𝒜.Fig R) → List Line → List C.K
  runs_along row [] = []
  runs_along row (e ∷ es) = run_of (run_levels 𝒜 row e) ++ runs_along row es

  abbrev pub runs_of : List (Summary 𝒜.Fig R) → List C.K
  runs_of row = runs_along row (plan_of_row row)
