-- The levels noted of a row, and the lines of its plan as they are held. Definitions only.
use Rattle.std.specs.Prelude.{◌≡◌, List, ◌++◌, map, ℕ, ◌≤◌, ◌<◌, length, get_or, take, Option, Some, None}
use Rattle.std.proofs.Math.Decide.{dec_lt}
use Rattle.gate.specs.declared.Refusal.{Refusal}
use Rattle.join_plan.specs.Plan.{Levels, blank, hill, Line}
use Rattle.join_plan.specs.Scan.{line_if, lines_to}
use Rattle.judge.specs.declared.Numbers.{Numbers}
use Rattle.row_gate.specs.Notes.{note_at, no_peak}
use Rattle.row_plan.specs.declared.Line.{Line as HeldLine}
use Rattle.row_plan.specs.declared.scan.OpenDepths.{OpenDepths}

-- The levels of a chunk: of one that is no hill none.
abbrev pub hill_levels : Option Numbers → Levels
hill_levels None = blank
hill_levels (Some p) = hill p.start p.peak p.end

-- No spoilt summary gets past the gate.
abbrev pub levels_unless : Option Refusal → Numbers → Levels
levels_unless None p = hill_levels (Some p)
levels_unless (Some r) p = blank

abbrev pub levels_of : Option Numbers → Levels
levels_of None = blank
levels_of (Some p) = levels_unless p.fault p

abbrev pub levels_at : List (Option Numbers) → ℕ → Levels
levels_at notes k = levels_of (note_at notes k)

-- The depths that a chunk leaves open: from its peak to below its end.
abbrev pub open_depths : Levels → OpenDepths
open_depths blank = record { peak = no_peak; end = 0 }
open_depths (hill start peak end) = record { peak = peak; end = end }

abbrev pub depths_at : List OpenDepths → ℕ → OpenDepths
depths_at depths k = get_or depths k (record { peak = 0; end = 0 })

-- The depths that the first n chunks leave open are noted.
pub record DepthsNoted (notes : List (Option Numbers)) (depths : List OpenDepths) (n : ℕ) : Type 0 where
  pub long : length depths ≡ 64
  pub each : (i : ℕ) → i < n → depths_at depths i ≡ open_depths (levels_at notes i)

abbrev pub line_in : HeldLine → Line
line_in l = record { i = l.i; j = l.j; lowest = l.low; highest = l.high }

abbrev pub lines_in : List HeldLine → List Line
lines_in ls = map line_in ls

-- n lines have become r, by these behind them.
pub record Kept (these : List Line) (n : ℕ) (held : List HeldLine) (r : ℕ) (held' : List HeldLine) : Type 0 where
  pub within : r ≤ length held'
  pub lines : lines_in (take r held') ≡ lines_in (take n held) ++ these

-- The line of chunks i and j, if there is a depth from `low` to below `top`.
abbrev pub line_within : (i j low top : ℕ) → List Line
line_within i j low top = line_if i j low top (dec_lt low top)

-- The lines to chunk j of the levels noted.
abbrev pub lines_to_at : List (Option Numbers) → ℕ → List Line
lines_to_at notes j = lines_to (levels_at notes) (levels_at notes j) j
