-- The bytes of a day table and of the log written from it, and what the two calls come to. Definitions only.
use Rattle.std.specs.Prelude.{Bool, true, ◌&&◌, List, [], ◌∷◌, ◌++◌, ℕ, zero, suc, ◌/◌, ◌%◌, leb, eqb, length, drop}
use Rattle.std.specs.Int.{w32}
use Rattle.std.proofs.Common.{of_z}
use Rattle.gate.specs.Outcome.{Outcome, question, onward, written}
use Rattle.number.specs.Bytes.{le_at, bytes_of, i32_at}
use Rattle.record.specs.Record.{in_range, open_bytes, close_bytes}
use Rattle.modes.specs.FourModes.{Amounts}
use Rattle.hill.specs.Log.{Record, opening, closing}
use Rattle.chunk.specs.Chunk.{whole_log}
use Rattle.day_table.specs.Table.{TableLine, table_line, table_of, log_of, nested}

-- "Depth (16 bits), value, floor, ceiling (signed 32 bits)": the line that bytes begin with, ..
abbrev pub table_line_in : List ℕ → TableLine
table_line_in b = table_line (le_at 2 b 0) (record { value = i32_at b 2; floor = i32_at b 6; ceiling = i32_at b 10 })

-- .. and the bytes of a line.
abbrev pub table_line_bytes : TableLine → List ℕ
table_line_bytes x = bytes_of 2 x.depth ++ (bytes_of 4 (of_z w32 x.amounts.value) ++ (bytes_of 4 (of_z w32 x.amounts.floor) ++ bytes_of 4 (of_z w32 x.amounts.ceiling)))

abbrev pub table_bytes : List TableLine → List ℕ
table_bytes [] = []
table_bytes (x ∷ ls) = table_line_bytes x ++ table_bytes ls

-- "14 bytes a line": the first n lines of bytes, and all that they have.
abbrev pub table_lines_in : ℕ → List ℕ → List TableLine
table_lines_in zero b = []
table_lines_in (suc n) b = table_line_in b ∷ table_lines_in n (drop 14 b)

unfoldable pub table_lines : List ℕ → List TableLine
table_lines table = table_lines_in (length table / 14) table

-- "A line whose fields no readable full open record could hold gets 3": each line's fields are in range.
abbrev pub could_hold : TableLine → Bool
could_hold x = in_range x.depth x.amounts.value x.amounts.floor x.amounts.ceiling

abbrev pub all_could_hold : List TableLine → Bool
all_could_hold [] = true
all_could_hold (x ∷ ls) = could_hold x && all_could_hold ls

-- "Full open records": the bytes of a log's records.
abbrev pub full_bytes : Record Amounts → List ℕ
full_bytes (opening d r) = open_bytes d r.value r.floor r.ceiling
full_bytes (closing d) = close_bytes d

abbrev pub log_bytes : List (Record Amounts) → List ℕ
log_bytes [] = []
log_bytes (x ∷ xs) = full_bytes x ++ log_bytes xs

-- WRITING THE LOG of a table. 2: "over 38,220 bytes (2,730 lines) gets 2". 3: "a line whose fields no readable full open record could hold gets 3", and
-- "a length that is no multiple of 14". 13: "after 3". 10: "no line gets 10". 12: "a short buffer".
unfoldable pub write_log_outcome : List ℕ → (cap : ℕ) → Outcome (List ℕ)
write_log_outcome table cap =
    question 2 (leb (length table) 38_220)
    (question 3 (eqb (length table % 14) 0 && all_could_hold (table_lines table))
    (question 13 (nested (table_lines table))
    (question 10 (leb 1 (length (table_lines table)))
    (written cap (log_bytes (log_of (table_lines table)))))))

-- READING THE TABLE of a log: "2, 3, 7 to 11 and 12 as in document 01", and "no limit of lines".
unfoldable pub read_table_outcome : List ℕ → (cap : ℕ) → Outcome (List ℕ)
read_table_outcome log cap = onward (whole_log log) (λ xs. written cap (table_bytes (table_of xs)))
