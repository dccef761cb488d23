-- Document 02, L11: what is claimed of a farm's day beside demand 3. Definitions only.
use Rattle.std.specs.Prelude.{◌≡◌, List, [], ℕ}
use Rattle.gate.specs.Outcome.{written}
use Rattle.summary.specs.Outcomes.{finish_outcome}
use Rattle.valley_station.specs.Runs.{FarmCall, end_of_day, tell_handed, told, run_state, run_history, own_since}
use Rattle.claim.specs.Claim.{stretch_bytes, log_says, start_row}

-- In a run a farm's own accepted summaries, since its last end of day that was taken, are what summarise wrote for the chunks of a cut log, in log order, whatever was
-- sent for the others between.
abbrev pub SentWhole : (mode : ℕ) (log places : List ℕ) (buffers : List (List ℕ)) (calls : List FarmCall) (farm : ℕ) → Type 0
SentWhole mode log places buffers calls farm = own_since farm [] (run_history mode calls) ≡ start_row mode log places buffers

-- Then its end of day hands out the summary of the uncut log, and finishing that says what the log says: "the recursion's figure", or its "lowest-numbered fault".
pub record HandsOutLog (mode : ℕ) (log : List ℕ) (calls : List FarmCall) (farm : ℕ) : Type 0 where
  pub handed_out : (cap : ℕ) → told (run_state mode calls) (end_of_day farm cap) ≡ tell_handed (written cap (stretch_bytes mode log))
  pub finished : finish_outcome (stretch_bytes mode log) ≡ log_says mode log
