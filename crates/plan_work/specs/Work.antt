-- The work along the join plan of a row of summaries: definitions only. Assumes nothing.
use Rattle.std.specs.Prelude.{◌&&◌, cond, List, [], ◌∷◌, ℕ, suc, leb, eqb, take, drop}
use Rattle.algebra.specs.Algebra.{Algebra}
use Rattle.algebra.specs.Run.{through}
use Rattle.hill.specs.Summary.{Summary, blank, part, middle, slopes}
use Rattle.join_plan.specs.Plan.{Line, joins, folded, plan_of_row}
use Rattle.plan_work.specs.Runs.{peak_of_summary, slopes_of, run_levels}

-- A line that has been worked, with its outcome.
pub record Done (Fig : Type 0) : Type 0 where
  pub line : Line
  pub out : Fig

-- What working along a plan gives: the figure, the joins used, and the number of levels folded.
pub record Work (Fig : Type 0) : Type 0 where
  pub figure : Fig
  pub joins : ℕ
  pub levels : ℕ

module _ {R : Type 0} (𝒜 : Algebra R) where
  open 𝒜 use {Fig, ι, ◌⊗◌}

  infixl 70 ◌⊗◌
  -- The middle values, combined, of those whose peak is l.
  unfoldable pub middles_at : ℕ → List (Summary Fig R) → Fig
  middles_at l [] = ι
  middles_at l (s ∷ row) = cond (eqb (peak_of_summary 𝒜 s) l) (middle (slopes_of 𝒜 s)) ι ⊗ middles_at l row

  -- The outcomes, combined, of the lines from i to j whose lowest is l: both ends lie within i to j, and either may be i or j.
  unfoldable pub outcomes_at : (i j l : ℕ) → List (Done Fig) → Fig
  outcomes_at i j l [] = ι
  outcomes_at i j l (d ∷ ds) = cond (leb i d.line.i && leb d.line.j j && eqb d.line.lowest l) d.out ι ⊗ outcomes_at i j l ds

  module _ (row : List (Summary Fig R)) where
    -- The summaries strictly between i and j.
    abbrev pub strictly_between : (i j : ℕ) → List (Summary Fig R)
    strictly_between i j = drop (suc i) (take j row)

    -- A line's x: "the middle values of the hills between i and j whose peak is highest + 1 with the outcomes of the earlier lines from i to j
    -- whose lowest is highest + 1".
    unfoldable pub given : Line → List (Done Fig) → Fig
    given e earlier = middles_at (suc e.highest) (strictly_between e.i e.j) ⊗ outcomes_at e.i e.j (suc e.highest) earlier

    -- The lines in order, each line's x put through its run; the latest stands first.
    unfoldable pub worked : List Line → List (Done Fig) → List (Done Fig)
    worked [] earlier = earlier
    worked (e ∷ es) earlier = worked es (record { line = e; out = through 𝒜 (run_levels 𝒜 row e) (given e earlier) } ∷ earlier)

  -- The last outcome; with no line, the middle value of the one hill.
  abbrev pub one_middle : List (Summary Fig R) → Fig
  one_middle [] = ι
  one_middle (blank ∷ row) = one_middle row
  one_middle (part a ∷ row) = middle (slopes 𝒜 a)

  abbrev pub last_outcome : List (Done Fig) → Fig → Fig
  last_outcome [] y = y
  last_outcome (d ∷ ds) y = d.out

  abbrev pub work_of : List (Summary Fig R) → Work Fig
  work_of row = record {
    figure = last_outcome (worked row (plan_of_row row) []) (one_middle row);
    joins = joins (plan_of_row row);
    levels = folded (plan_of_row row);
  }
