-- Document 01's log D as bytes, and edges of a record, by computation. Assumes nothing.
use Rattle.std.specs.Prelude.{◌≡◌, refl, List, [], ◌∷◌, ℕ, ℤ, pos, negsuc}
use Rattle.gate.specs.Outcome.{refused, granted}
use Rattle.number.specs.Bytes.{le_at}
use Rattle.record.specs.Record.{within, in_range, accepted, whole, by_shape, read_of, records_in, records_of}
use Rattle.record.specs.declared.Fields.{Fields}
use Rattle.record.specs.declared.Kind.TheVariants as kind

-- "open 0 value 10 floor 0 ceiling 100; open 1 value 5 floor 0 ceiling 4; close 1; open 1 value -3 floor 0 ceiling 100; close 1; close 0"
abbrev pub log_d : List ℕ
log_d =
    18 ∷ 0 ∷ 1 ∷ 0 ∷ 0 ∷ 0 ∷ 10 ∷ 0 ∷ 0 ∷ 0 ∷ 0 ∷ 0 ∷ 0 ∷ 0 ∷ 100 ∷ 0 ∷ 0 ∷ 0 ∷
    18 ∷ 0 ∷ 1 ∷ 0 ∷ 1 ∷ 0 ∷ 5 ∷ 0 ∷ 0 ∷ 0 ∷ 0 ∷ 0 ∷ 0 ∷ 0 ∷ 4 ∷ 0 ∷ 0 ∷ 0 ∷
    6 ∷ 0 ∷ 2 ∷ 0 ∷ 1 ∷ 0 ∷
    18 ∷ 0 ∷ 1 ∷ 0 ∷ 1 ∷ 0 ∷ 253 ∷ 255 ∷ 255 ∷ 255 ∷ 0 ∷ 0 ∷ 0 ∷ 0 ∷ 100 ∷ 0 ∷ 0 ∷ 0 ∷
    6 ∷ 0 ∷ 2 ∷ 0 ∷ 1 ∷ 0 ∷
    6 ∷ 0 ∷ 2 ∷ 0 ∷ 0 ∷ 0 ∷ []

opened : ℕ → ℤ → ℤ → ℤ → Fields
opened depth value floor ceiling = record { kind = kind.Open; length = 18; depth = depth; value = value; floor = floor; ceiling = ceiling; batch = 0 }

closed : ℕ → Fields
closed depth = record { kind = kind.Close; length = 6; depth = depth; value = pos 0; floor = pos 0; ceiling = pos 0; batch = 0 }

D-records : records_of log_d ≡
    granted (opened 0 (pos 10) (pos 0) (pos 100) ∷ opened 1 (pos 5) (pos 0) (pos 4) ∷ closed 1 ∷ opened 1 (negsuc 2) (pos 0) (pos 100) ∷ closed 1 ∷ closed 0 ∷ [])
unfolding le_at within in_range accepted whole by_shape read_of records_in records_of opened closed
D-records = refl

-- A record of length 10 has floor 0, also where its value is negative, and ceiling 1,000,000,000; depth 63 is read.
short-open : read_of (10 ∷ 0 ∷ 1 ∷ 0 ∷ 63 ∷ 0 ∷ 253 ∷ 255 ∷ 255 ∷ 255 ∷ []) ≡ granted (record { kind = kind.Open; length = 10; depth = 63; value = negsuc 2; floor = pos 0; ceiling = pos 1_000_000_000; batch = 0 })
unfolding le_at within in_range accepted whole by_shape read_of
short-open = refl

-- Depth 64, a record cut short, an empty chunk.
depth-64 : read_of (6 ∷ 0 ∷ 2 ∷ 0 ∷ 64 ∷ 0 ∷ []) ≡ refused 3
unfolding le_at within in_range accepted whole by_shape read_of
depth-64 = refl

cut_short : read_of (6 ∷ 0 ∷ 2 ∷ 0 ∷ 63 ∷ []) ≡ refused 3
unfolding le_at within in_range accepted whole by_shape read_of
cut_short = refl

no_bytes : read_of [] ≡ refused 3
unfolding le_at within in_range accepted whole by_shape read_of
no_bytes = refl

-- A batch is unsigned: four bytes 255 are 4,294,967,295.
with-batch : read_of (22 ∷ 0 ∷ 1 ∷ 0 ∷ 1 ∷ 0 ∷ 5 ∷ 0 ∷ 0 ∷ 0 ∷ 0 ∷ 0 ∷ 0 ∷ 0 ∷ 4 ∷ 0 ∷ 0 ∷ 0 ∷ 255 ∷ 255 ∷ 255 ∷ 255 ∷ []) ≡
    granted (record { kind = kind.Open; length = 22; depth = 1; value = pos 5; floor = pos 0; ceiling = pos 4; batch = 4_294_967_295 })
unfolding le_at within in_range accepted whole by_shape read_of
with-batch = refl

-- 21 of its 22 bytes; a close of length 22.
batch-cut : read_of (22 ∷ 0 ∷ 1 ∷ 0 ∷ 1 ∷ 0 ∷ 5 ∷ 0 ∷ 0 ∷ 0 ∷ 0 ∷ 0 ∷ 0 ∷ 0 ∷ 4 ∷ 0 ∷ 0 ∷ 0 ∷ 255 ∷ 255 ∷ 255 ∷ []) ≡ refused 3
unfolding le_at within in_range accepted whole by_shape read_of
batch-cut = refl

close-of-22 : read_of (22 ∷ 0 ∷ 2 ∷ 0 ∷ 1 ∷ 0 ∷ 5 ∷ 0 ∷ 0 ∷ 0 ∷ 0 ∷ 0 ∷ 0 ∷ 0 ∷ 4 ∷ 0 ∷ 0 ∷ 0 ∷ 255 ∷ 255 ∷ 255 ∷ 255 ∷ []) ≡ refused 3
unfolding le_at within in_range accepted whole by_shape read_of
close-of-22 = refl

-- A batch whose bytes begin like a close is a batch, and the record after it is the next one.
batch-like-a-close : records_of (22 ∷ 0 ∷ 1 ∷ 0 ∷ 1 ∷ 0 ∷ 5 ∷ 0 ∷ 0 ∷ 0 ∷ 0 ∷ 0 ∷ 0 ∷ 0 ∷ 4 ∷ 0 ∷ 0 ∷ 0 ∷ 6 ∷ 0 ∷ 2 ∷ 0 ∷ 6 ∷ 0 ∷ 2 ∷ 0 ∷ 1 ∷ 0 ∷ []) ≡
    granted (record { kind = kind.Open; length = 22; depth = 1; value = pos 5; floor = pos 0; ceiling = pos 4; batch = 131_078 } ∷ closed 1 ∷ [])
unfolding le_at within in_range accepted whole by_shape read_of records_in records_of closed
batch-like-a-close = refl
