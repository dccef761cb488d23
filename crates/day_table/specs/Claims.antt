-- What is claimed of the day table and its log, beside what the two calls come to. Definitions only.
use Rattle.std.specs.Prelude.{◌≡◌, true, cond, ◌⊎◌, ◌↔◌, List, [], ◌∷◌, map, ℕ, ◌*◌, ◌≤◌, length}
use Rattle.gate.specs.Outcome.{refused, granted, written}
use Rattle.number.specs.Bytes.{AllBytes}
use Rattle.record.specs.Record.{is_open, read_of, records_of, full_fields}
use Rattle.record.specs.declared.Fields.{Fields}
use Rattle.modes.specs.FourModes.{Amounts}
use Rattle.hill.specs.Log.{Record}
use Rattle.chunk.specs.Chunk.{IsWellFormed, whole_log}
use Rattle.day_table.specs.Table.{TableLine, table_of}
use Rattle.day_table.specs.Outcomes.{table_lines, all_could_hold, write_log_outcome, read_table_outcome}

-- Records of length 18, and closes.
abbrev pub Full : Fields → Type 0
Full f = (f.length ≡ 18) ⊎ (f.length ≡ 6)

abbrev pub AllFull : List Fields → Type 0
AllFull [] = Unit {0}
AllFull (f ∷ fs) = Full f × AllFull fs

-- "A well-formed log of full records": its bytes, and its records.
pub record IsFullLog (log : List ℕ) (xs : List (Record Amounts)) : Type 0 where
  pub bytes : AllBytes log
  pub formed : IsWellFormed log xs
  pub full : AllFull formed.fields

-- "The log written from it, full open records, closes where they belong", of a table and the bytes w: they are a well-formed log of full records that
-- has one opened record a line, with the line's depth and amounts; there is no other such log; and they are short enough for every call on a chunk or
-- on a whole log.
pub record IsLogOfTable (table w : List ℕ) : Type 0 where
  pub records : List (Record Amounts)
  pub log : IsFullLog w records
  pub lines : table_of records ≡ table_lines table
  pub only : (b : List ℕ) (xs : List (Record Amounts)) → IsFullLog b xs → table_of xs ≡ table_lines table → b ≡ w
  pub short : length w ≤ 65_520
  pub taken : whole_log w ≡ granted records

-- "Reading that log back must give the table", where it fits.
abbrev pub ReadsBack : (table w : List ℕ) → Type 0
ReadsBack table w = (room : ℕ) → read_table_outcome w room ≡ written room table

-- "A well-formed log of full records, of at most 2,730 lines, must give a table that writes the same bytes", each where it fits.
pub record WritesAgain (log : List ℕ) : Type 0 where
  pub table : List ℕ
  pub bytes : AllBytes table
  pub given : (room : ℕ) → read_table_outcome log room ≡ written room table
  pub again : (cap : ℕ) → write_log_outcome table cap ≡ written cap log

-- "All other calls drop it" (document 02, L2): an open record comes back from the day table with length 18 and without a batch; a close as it was.
abbrev pub comes_back_as : Fields → Fields
comes_back_as f = cond (is_open f.kind) (full_fields f.depth f.value f.floor f.ceiling) f

-- ".. so from the day table the same bytes come back only for records of length 18": of a log and its records, the table that it gives, the log that this
-- writes, each where it fits, and when that is the same.
pub record ComesBack (log : List ℕ) (fs : List Fields) : Type 0 where
  pub table : List ℕ
  pub back : List ℕ
  pub table-bytes : AllBytes table
  pub back-bytes : AllBytes back
  pub given : (room : ℕ) → read_table_outcome log room ≡ written room table
  pub writes : (cap : ℕ) → write_log_outcome table cap ≡ written cap back
  pub records : records_of back ≡ granted (map comes_back_as fs)
  pub same : (back ≡ log) ↔ AllFull fs

-- The bytes begin with a readable full open record that has the line's fields.
abbrev pub HoldsLine : List ℕ → TableLine → Type 0
HoldsLine b x = read_of b ≡ granted (full_fields x.depth x.amounts.value x.amounts.floor x.amounts.ceiling)

-- Some well-formed log has these lines, in their order.
pub record SomeLog (ls : List TableLine) : Type 0 where
  pub log : List ℕ
  pub records : List (Record Amounts)
  pub bytes : AllBytes log
  pub formed : IsWellFormed log records
  pub lines : table_of records ≡ ls

-- A table of 1 to 2,730 lines, each of which a readable full open record could hold.
pub record ReadableTable (table : List ℕ) : Type 0 where
  pub count : ℕ
  pub whole : length table ≡ 14 * count
  pub some : 1 ≤ count
  pub few : count ≤ 2_730
  pub readable : all_could_hold (table_lines table) ≡ true

-- 13 exactly: such a table is taken, given room, where some well-formed log has its lines, and only there; and 13 is answered where none has, and only
-- there.
pub record Exactly13 (table : List ℕ) : Type 0 where
  pub taken : SomeLog (table_lines table) → (cap : ℕ) → 24 * length (table_lines table) ≤ cap → (w : List ℕ) × (write_log_outcome table cap ≡ granted w)
  pub only-taken : (cap : ℕ) (w : List ℕ) → write_log_outcome table cap ≡ granted w → SomeLog (table_lines table)
  pub refused-13 : (SomeLog (table_lines table) → ⊥) → (cap : ℕ) → write_log_outcome table cap ≡ refused 13
  pub only-refused : (cap : ℕ) → write_log_outcome table cap ≡ refused 13 → SomeLog (table_lines table) → ⊥
