-- The table of document 01's log D, both ways, and each refusal of a table but 2, by computation. Assumes nothing.
use Rattle.std.specs.Prelude.{◌≡◌, refl, List, [], ◌∷◌, ◌++◌, ℕ, pos}
use Rattle.gate.specs.Outcome.{refused, granted}
use Rattle.number.specs.Bytes.{le_at, bytes_of}
use Rattle.record.specs.Record.{within, in_range, accepted, whole, by_shape, read_of, records_in, records_of}
use Rattle.record.proofs.Examples.{log_d}
use Rattle.figure.specs.Stored.{amounts}
use Rattle.hill.specs.Verdict.{joint, count, ends}
use Rattle.chunk.specs.Chunk.{whole_log}
use Rattle.day_table.specs.Table.{table_line}
use Rattle.day_table.specs.Outcomes.{table_line_bytes, table_lines, write_log_outcome, read_table_outcome}

-- "open 0 value 10 floor 0 ceiling 100; open 1 value 5 floor 0 ceiling 4; .. open 1 value -3 floor 0 ceiling 100": 14 bytes a line.
abbrev pub table_d : List ℕ
table_d =
    0 ∷ 0 ∷ 10 ∷ 0 ∷ 0 ∷ 0 ∷ 0 ∷ 0 ∷ 0 ∷ 0 ∷ 100 ∷ 0 ∷ 0 ∷ 0 ∷
    1 ∷ 0 ∷ 5 ∷ 0 ∷ 0 ∷ 0 ∷ 0 ∷ 0 ∷ 0 ∷ 0 ∷ 4 ∷ 0 ∷ 0 ∷ 0 ∷
    1 ∷ 0 ∷ 253 ∷ 255 ∷ 255 ∷ 255 ∷ 0 ∷ 0 ∷ 0 ∷ 0 ∷ 100 ∷ 0 ∷ 0 ∷ 0 ∷ []

D-written : write_log_outcome table_d 72 ≡ granted log_d
unfolding le_at bytes_of within in_range table_lines write_log_outcome
D-written = refl

D-read : read_table_outcome log_d 42 ≡ granted table_d
unfolding le_at bytes_of within in_range accepted whole by_shape read_of records_in records_of joint count ends whole_log read_table_outcome
D-read = refl

-- A buffer that is one byte short.
D-short : write_log_outcome table_d 71 ≡ refused 12
unfolding le_at bytes_of within in_range table_lines write_log_outcome
D-short = refl

-- "A short record read back fills its line with the default floor and ceiling": open 0 value 5 of length 10, close 0.
short-read : read_table_outcome (10 ∷ 0 ∷ 1 ∷ 0 ∷ 0 ∷ 0 ∷ 5 ∷ 0 ∷ 0 ∷ 0 ∷ 6 ∷ 0 ∷ 2 ∷ 0 ∷ 0 ∷ 0 ∷ []) 14 ≡ granted (table_line_bytes (table_line 0 (amounts (pos 5) (pos 0) (pos 1_000_000_000))))
unfolding le_at bytes_of within in_range accepted whole by_shape read_of records_in records_of joint count ends whole_log read_table_outcome
short-read = refl

-- A line of this depth.
abbrev line : ℕ → List ℕ
line d = table_line_bytes (table_line d (amounts (pos 1) (pos 0) (pos 9)))

-- "When the first depth is not 0, a later one is 0, or a depth is more than one above the line before it."
first-not-0 : write_log_outcome (line 1) 24 ≡ refused 13
unfolding le_at bytes_of within in_range table_lines write_log_outcome
first-not-0 = refl

second-0 : write_log_outcome (line 0 ++ (line 1 ++ line 0)) 72 ≡ refused 13
unfolding le_at bytes_of within in_range table_lines write_log_outcome
second-0 = refl

two-above : write_log_outcome (line 0 ++ line 2) 48 ≡ refused 13
unfolding le_at bytes_of within in_range table_lines write_log_outcome
two-above = refl

-- "13, after 3": depth 64 in a later line.
after-3 : write_log_outcome (line 1 ++ line 64) 48 ≡ refused 3
unfolding le_at bytes_of within in_range table_lines write_log_outcome
after-3 = refl

-- "No line gets 10", and one byte 3.
no_line : write_log_outcome [] 0 ≡ refused 10
unfolding table_lines write_log_outcome
no_line = refl

one_byte : write_log_outcome (0 ∷ []) 0 ≡ refused 3
unfolding le_at within in_range table_lines write_log_outcome
one_byte = refl
