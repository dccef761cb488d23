-- The records behind the heaviest line of document 01's log D, of bytes, and of other logs, by computation. Assumes nothing.
use Rattle.std.specs.Prelude.{◌≡◌, refl, [], ◌∷◌, ℕ, ℤ, pos, negsuc}
use Rattle.gate.specs.Outcome.{refused, granted}
use Rattle.number.specs.Integer.{max_z}
use Rattle.number.specs.Bytes.{le_at, bytes_of}
use Rattle.record.specs.Record.{within, in_range, accepted, whole, by_shape, read_of, records_in, records_of}
use Rattle.record.proofs.Examples.{log_d}
use Rattle.modes.specs.FourModes.{Amounts, lift, line_of}
use Rattle.figure.specs.Stored.{amounts}
use Rattle.hill.specs.Verdict.{joint, count, ends}
use Rattle.hill.specs.Log.{Record, opening, closing}
use Rattle.chunk.specs.Chunk.{whole_log}
use Rattle.log_records.specs.Line.{places_from, line_places, line_numbers, heaviest_line_outcome}

-- D: "open 0 value 10 ..; open 1 value 5 ..; .. open 1 value -3": of -3 and 5 record 1 has the greatest figure.
D-line : heaviest_line_outcome log_d 8 ≡ granted (0 ∷ 0 ∷ 0 ∷ 0 ∷ 1 ∷ 0 ∷ 0 ∷ 0 ∷ [])
unfolding le_at bytes_of within in_range accepted whole by_shape read_of records_in records_of joint count ends whole_log max_z lift line_of places_from line_places heaviest_line_outcome
D-line = refl

-- A buffer that is one byte short; and no record.
D-short : heaviest_line_outcome log_d 7 ≡ refused 12
unfolding le_at bytes_of within in_range accepted whole by_shape read_of records_in records_of joint count ends whole_log max_z lift line_of places_from line_places heaviest_line_outcome
D-short = refl

no_record : heaviest_line_outcome [] 0 ≡ refused 10
unfolding records_in records_of whole_log heaviest_line_outcome
no_record = refl

-- An open of this depth and value.
abbrev at-depth : ℕ → ℤ → Record Amounts
at-depth d v = opening d (amounts v (pos 0) (pos 9))

-- The root alone.
root-alone : line_numbers (at-depth 0 (negsuc 4) ∷ closing 0 ∷ []) ≡ 0 ∷ []
unfolding max_z lift line_of places_from line_places
root-alone = refl

-- Of equal figures the earliest is taken.
earliest : line_numbers (at-depth 0 (pos 1) ∷ at-depth 1 (pos 2) ∷ closing 1 ∷ at-depth 1 (pos 2) ∷ closing 1 ∷ closing 0 ∷ []) ≡ 0 ∷ 1 ∷ []
unfolding max_z lift line_of places_from line_places
earliest = refl

-- The figure counts, and not the value: 3 - 9 is less than 1.
by-figure : line_numbers (at-depth 0 (pos 0) ∷ at-depth 1 (pos 3) ∷ at-depth 2 (negsuc 8) ∷ closing 2 ∷ closing 1 ∷ at-depth 1 (pos 1) ∷ closing 1 ∷ closing 0 ∷ []) ≡ 0 ∷ 3 ∷ []
unfolding max_z lift line_of places_from line_places
by-figure = refl

-- Of negative figures the greatest, down to a record that holds nothing: 1 is not the end, though its value is more than its figure.
down-to-the-end : line_numbers (at-depth 0 (negsuc 0) ∷ at-depth 1 (negsuc 1) ∷ at-depth 2 (negsuc 6) ∷ closing 2 ∷ at-depth 2 (negsuc 4) ∷ closing 2 ∷ closing 1 ∷ at-depth 1 (negsuc 7) ∷ closing 1 ∷ closing 0 ∷ []) ≡ 0 ∷ 1 ∷ 3 ∷ []
unfolding max_z lift line_of places_from line_places
down-to-the-end = refl
