-- A row that is let through, where its pieces begin, and the lines of its plan. Definitions only.
use Rattle.std.specs.Prelude.{◌≡◌, List, map, ℕ, ◌≤◌, length, get_or, Option}
use Rattle.row.specs.Row.{row_pieces}
use Rattle.algebra.specs.Run.{Level}
use Rattle.figure.specs.Mode.{mode_of}
use Rattle.summary.specs.Layout.{SummaryIn}
use Rattle.summary.specs.Decode.{decode}
use Rattle.join_plan.specs.Plan.{Line, plan_of_row}
use Rattle.plan_work.specs.Runs.{peak_of_summary, slopes_of, levels_down}
use Rattle.row_plan.specs.Arrays.{line_in, lines_in}
use Rattle.row_plan.specs.declared.Line.{Line as HeldLine}
use Rattle.judge.specs.declared.Numbers.{Numbers}
use Rattle.row_gate.specs.Asks.{LetThrough}
use Rattle.run_level.specs.declared.Place.{Place}
use Rattle.run_level.specs.Levels.{piece_of, Begun}

-- The summaries of a row.
abbrev pub row_in : (m : ℕ) → List ℕ → List (SummaryIn m)
row_in m row = map (decode m) (row_pieces row)

-- A row that is let through, and where its pieces begin.
pub record Ready (row : List ℕ) (count m : ℕ) (ats : List ℕ) (notes : List (Option Numbers)) : Type 0 where
  pub let_through : LetThrough row count m notes
  pub begun : Begun row count ats

-- And these are the lines of its plan.
pub record Along (row : List ℕ) (count m : ℕ) (ats : List ℕ) (notes : List (Option Numbers)) (lines : List HeldLine) : Type 0 where
  pub ready : Ready row count m ats notes
  pub planned : lines_in lines ≡ plan_of_row (row_in m row)
  pub few : length lines ≤ 128

-- Line k.
abbrev pub line_at : List HeldLine → ℕ → Line
line_at lines k = line_in (get_or lines k (record { i = 0; j = 0; low = 0; high = 0 }))

-- The n levels from the depth `low` on, the highest first, of the hills at two places.
abbrev pub levels_of : (row : List ℕ) (m : ℕ) (opener closer : Place) (low n : ℕ) → List (Level (mode_of m).algebra)
levels_of row m o c low n =
    levels_down (mode_of m).algebra (peak_of_summary (mode_of m).algebra (decode m (piece_of row o.piece))) (slopes_of (mode_of m).algebra (decode m (piece_of row o.piece)))
    (peak_of_summary (mode_of m).algebra (decode m (piece_of row c.piece))) (slopes_of (mode_of m).algebra (decode m (piece_of row c.piece))) low n
