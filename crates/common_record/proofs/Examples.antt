-- The record in common in document 01's log D, of bytes, and in other logs, by computation. Assumes nothing.
use Rattle.std.specs.Prelude.{◌≡◌, refl, List, [], ◌∷◌, ℕ}
use Rattle.gate.specs.Outcome.{refused, granted}
use Rattle.number.specs.Bytes.{le_at}
use Rattle.record.specs.Record.{within, in_range, accepted, whole, by_shape, read_of, records_in, records_of}
use Rattle.record.proofs.Examples.{log_d}
use Rattle.hill.specs.Verdict.{joint, count, ends}
use Rattle.hill.specs.Log.{Record, opening, closing}
use Rattle.chunk.specs.Chunk.{whole_log}
use Rattle.common_record.specs.Common.{deepest_up_to, common_number, common_outcome}
use Rattle.common_record.specs.Claims.{IsOrHolds}
use Rattle.common_record.proofs.HoldingWays.{is-or-holds}

-- D: "open 0 ..; open 1 ..; close 1; open 1 ..; close 1; close 0": records 1 and 2 have the root in common, ..
D-siblings : common_outcome log_d 1 2 ≡ granted 0
unfolding le_at within in_range accepted whole by_shape read_of records_in records_of joint count ends whole_log deepest_up_to common_number common_outcome
D-siblings = refl

-- .. and a number given twice names itself.
D-itself : common_outcome log_d 2 2 ≡ granted 2
unfolding le_at within in_range accepted whole by_shape read_of records_in records_of joint count ends whole_log deepest_up_to common_number common_outcome
D-itself = refl

-- It opens three: the first number that is too large, and the last.
D-past : common_outcome log_d 0 3 ≡ refused 19
unfolding le_at within in_range accepted whole by_shape read_of records_in records_of joint count ends whole_log common_outcome
D-past = refl

D-far-past : common_outcome log_d 4_294_967_295 0 ≡ refused 19
unfolding le_at within in_range accepted whole by_shape read_of records_in records_of joint count ends whole_log common_outcome
D-far-past = refl

-- A fault comes before 19.
no_record : common_outcome [] 0 0 ≡ refused 10
unfolding records_in records_of whole_log common_outcome
no_record = refl

-- A root, 0, that holds 1 and 4; 1 holds 2 and 3; 4 holds 5. What an open carries plays no part.
abbrev two-tanks : List (Record ℕ)
two-tanks = opening 0 7 ∷ opening 1 7 ∷ opening 2 7 ∷ closing 2 ∷ opening 2 7 ∷ closing 2 ∷ closing 1 ∷ opening 1 7 ∷ opening 2 7 ∷ closing 2 ∷ closing 1 ∷ closing 0 ∷ []

-- Two drops of one tank; of two; the tank and its drop, either way round.
one-tank : common_number two-tanks 2 3 ≡ 1
unfolding deepest_up_to common_number
one-tank = refl

other-tank : common_number two-tanks 3 5 ≡ 0
unfolding deepest_up_to common_number
other-tank = refl

tank-and-drop : common_number two-tanks 1 3 ≡ 1
unfolding deepest_up_to common_number
tank-and-drop = refl

drop-and-tank : common_number two-tanks 5 4 ≡ 4
unfolding deepest_up_to common_number
drop-and-tank = refl

-- The root holds the last drop, which is opened at place 8, through its tank.
through-the-tank : IsOrHolds two-tanks 0 8
unfolding joint count ends
through-the-tank = (is-or-holds two-tanks refl 0 8 2 (7, refl)).1.1 refl
