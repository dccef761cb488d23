-- Document 02, L7: what is claimed of the values along the heaviest line, and of its faults beside finish. Definitions only.
use Rattle.std.specs.Prelude.{◌≡◌, List, ℕ, ◌≤◌, ℤ, length}
use Rattle.gate.specs.Outcome.{refused, granted, written}
use Rattle.summary.specs.Outcomes.{finish_outcome}
use Rattle.log_records.specs.Line.{heaviest_line_outcome}
use Rattle.claim.specs.Finishing.{Finishing, LeadsTo}

-- "The values add to the mode 2 figure": their sum is what the log, which has one chunk, leads to in mode 2.
pub record IsHeaviestFigure (log : List ℕ) (sum : ℤ) : Type 0 where
  pub one_chunk : length log ≤ 65_536
  pub leads-to : LeadsTo 2 log sum

-- "Faults get their numbers as at finish": however the log is cut and merged, in whatever mode. Where finish gives a figure, there is a line.
pub record FaultsAsAtFinish (log : List ℕ) : Type 0 where
  pub faults : (mode : ℕ) (t : Finishing mode log) (n : ℕ) → finish_outcome t.piece ≡ refused n → (cap : ℕ) → heaviest_line_outcome log cap ≡ refused n
  pub no-fault : (mode : ℕ) (t : Finishing mode log) (z : ℤ) → finish_outcome t.piece ≡ granted z → (cap : ℕ) → (w : List ℕ) × (heaviest_line_outcome log cap ≡ written cap w)
