-- The day's four figures of a whole log. Definitions only.
use Rattle.std.specs.Prelude.{List, ℕ}
use Rattle.gate.specs.Outcome.{Outcome, granted, onward}
use Rattle.modes.specs.FourModes.{Amounts}
use Rattle.hill.specs.Log.{Record}
use Rattle.chunk.specs.Chunk.{figure_in, whole_log}
use Rattle.outcome.specs.declared.Figures.{Figures}

-- "net, heaviest, eaten and stamp", of which mode 5 is eaten: "the day program prints it third".
unfoldable pub figures_of : List (Record Amounts) → Figures
figures_of log = record { net = figure_in 1 log; heaviest = figure_in 2 log; eaten = figure_in 5 log; stamp = figure_in 4 log }

-- THE DAY'S FIGURES of a log's bytes, or the refusal.
unfoldable pub day_outcome : List ℕ → Outcome Figures
day_outcome log = onward (whole_log log) (λ xs. granted (figures_of xs))
