-- What the gate on a whole log answers. Definitions only.
use Rattle.std.specs.Prelude.{List, ℕ}
use Rattle.gate.specs.Outcome.{Outcome, granted, onward}
use Rattle.hill.specs.Log.{opened_of}
use Rattle.chunk.specs.Chunk.{whole_log}

-- THE GATE ON A WHOLE LOG as a call, "2, 3 and 7 to 11": how many records the log opens, or the number of the question.
unfoldable pub ask_outcome : List ℕ → Outcome ℕ
ask_outcome log = onward (whole_log log) (λ xs. granted (opened_of xs))
