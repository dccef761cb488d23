-- Records, as document 01's section "Records" has them, with the batch of document 02, L2, and the floor of short records of L8.
use Rattle.std.specs.Prelude.{ℕ, zero, suc, Bool, true, false, cond, ◌&&◌, List, [], ◌∷◌, ◌++◌, length, drop, leb, eqb, ℤ, pos, negsuc, Option, Some, None}
use Rattle.std.specs.Int.Signed.{le_z}
use Rattle.gate.specs.Outcome.{Outcome, refused, granted}
use Rattle.std.specs.Int.{w32}
use Rattle.std.proofs.Common.{of_z}
use Rattle.number.specs.Bytes.{le_at, bytes_of, i32_at}
use Rattle.record.specs.declared.Fields.{Fields}
use Rattle.record.specs.declared.Kind.{Kind}
use Rattle.record.specs.declared.Kind.TheVariants as kind

-- "kind 1, open", and "kind 2, close".
abbrev pub kind_number : Kind → ℕ
kind_number kind.Open = 1
kind_number kind.Close = 2

-- Whether a record of this kind opens one.
abbrev pub is_open : Kind → Bool
is_open kind.Open = true
is_open kind.Close = false

-- What the answer of `read_first` says, in the paper's numbers: the record's fields, or refusal 3.
abbrev pub answer_of : Option Fields → Outcome Fields
answer_of (Some f) = granted f
answer_of None = refused 3

-- "value, floor and ceiling lie within ±1,000,000,000"
abbrev pub least : ℤ
least = negsuc 999_999_999

abbrev pub most : ℤ
most = pos 1_000_000_000

unfoldable pub within : ℤ → Bool
within z = le_z least z && le_z z most

-- ".. value, floor and ceiling lie within ±1,000,000,000, and floor is not above ceiling"
abbrev pub amounts_fit : ℤ → ℤ → ℤ → Bool
amounts_fit value floor ceiling = within value && within floor && within ceiling && le_z floor ceiling

-- "depth is 0 to 63, value, floor and ceiling lie within ±1,000,000,000, and floor is not above ceiling"
unfoldable pub in_range : ℕ → ℤ → ℤ → ℤ → Bool
in_range depth value floor ceiling = leb depth 63 && amounts_fit value floor ceiling

-- The floor and the ceiling of a record of length 10: "The default floor becomes 0; the ceiling stays at 1,000,000,000."
abbrev pub default_floor : ℤ
default_floor = pos 0

abbrev pub default_ceiling : ℤ
default_ceiling = pos 1_000_000_000

-- "The mill now prints a 32-bit batch number on each bag. An open record may have length 22: the 18 bytes, then the batch, unsigned"; reading answers "0
-- where the record has none".
abbrev pub batch_of : (len : ℕ) → List ℕ → ℕ
batch_of len s = cond (eqb len 22) (le_at 4 s 18) 0

-- The layouts: length at 0, kind at 2, depth at 4, then value, floor and ceiling, and the batch behind them.
abbrev pub open_of : (len : ℕ) → List ℕ → Fields
open_of len s = record { kind = kind.Open; length = len; depth = le_at 2 s 4; value = i32_at s 6; floor = i32_at s 10; ceiling = i32_at s 14; batch = batch_of len s }

abbrev pub full_open : List ℕ → Fields
full_open s = open_of 18 s

abbrev pub open_with_batch : List ℕ → Fields
open_with_batch s = open_of 22 s

-- The fields of a full open record, which has no batch, and of a short one; and below of a close.
abbrev pub full_fields : (depth : ℕ) → (value floor ceiling : ℤ) → Fields
full_fields depth value floor ceiling = record { kind = kind.Open; length = 18; depth = depth; value = value; floor = floor; ceiling = ceiling; batch = 0 }

abbrev pub short_fields : (depth : ℕ) → (value : ℤ) → Fields
short_fields depth value = record { kind = kind.Open; length = 10; depth = depth; value = value; floor = default_floor; ceiling = default_ceiling; batch = 0 }

abbrev pub short_open : List ℕ → Fields
short_open s = short_fields (le_at 2 s 4) (i32_at s 6)

abbrev pub close_fields : (depth : ℕ) → Fields
close_fields depth = record { kind = kind.Close; length = 6; depth = depth; value = pos 0; floor = pos 0; ceiling = pos 0; batch = 0 }

abbrev pub close : List ℕ → Fields
close s = close_fields (le_at 2 s 4)

-- The record f, if its fields are in range.
unfoldable pub accepted : Fields → Outcome Fields
accepted f = cond (in_range f.depth f.value f.floor f.ceiling) (granted f) (refused 3)

-- The record f at the start of s, if "all its bytes are there".
unfoldable pub whole : List ℕ → Fields → Outcome Fields
whole s f = cond (leb f.length (length s)) (accepted f) (refused 3)

-- The first record of s by its kind and its length: "readable if its length suits its kind", each pairing decided.
unfoldable pub by_shape : ℕ → ℕ → List ℕ → Outcome Fields
by_shape kind len s =
    cond (eqb kind 1)
    (cond (eqb len 18) (whole s (full_open s)) (cond (eqb len 10) (whole s (short_open s)) (cond (eqb len 22) (whole s (open_with_batch s)) (refused 3))))
    (cond (eqb kind 2) (cond (eqb len 6) (whole s (close s)) (refused 3)) (refused 3))

-- READING THE FIRST RECORD. A byte past the end counts 0, so a header that is cut short needs no test of its own: fewer bytes than
-- the shortest record has are never readable (law `read_short`).
unfoldable pub read_of : List ℕ → Outcome Fields
read_of s = by_shape (le_at 2 s 2) (le_at 2 s 0) s

-- f before the records of the rest, if those are readable.
abbrev pub before : Fields → Outcome (List Fields) → Outcome (List Fields)
before f (refused n) = refused n
before f (granted fs) = granted (f ∷ fs)

-- What was read, and then the rest.
abbrev pub and_then : Outcome Fields → (Fields → Outcome (List Fields)) → Outcome (List Fields)
and_then (refused n) rest = refused n
and_then (granted f) rest = before f (rest f)

-- The records of s, at most n of them: "after a readable record, the rest of the chunk is read as a chunk of its own".
unfoldable pub records_in : ℕ → List ℕ → Outcome (List Fields)
records_in zero [] = granted []
records_in zero (b ∷ s) = refused 3
records_in (suc n) [] = granted []
records_in (suc n) (b ∷ s) = and_then (read_of (b ∷ s)) (λ f. records_in n (drop f.length (b ∷ s)))

-- ALL RECORDS OF A CHUNK, or refusal 3. A chunk has no more records than bytes.
unfoldable pub records_of : List ℕ → Outcome (List Fields)
records_of s = records_in (length s) s

-- ---- a record's bytes

-- The first 18 bytes of an open record of length 18 or 22: length, kind 1, depth, value, floor, ceiling.
abbrev pub open_front : (len depth : ℕ) → (value floor ceiling : ℤ) → List ℕ
open_front len depth value floor ceiling =
    bytes_of 2 len ++ (bytes_of 2 1 ++ (bytes_of 2 depth ++ (bytes_of 4 (of_z w32 value) ++ (bytes_of 4 (of_z w32 floor) ++ bytes_of 4 (of_z w32 ceiling)))))

-- The bytes of each layout. They are read as that record (`read-open`, `read-with-batch`, `read-short-open`, `read-close`).
abbrev pub open_bytes : ℕ → ℤ → ℤ → ℤ → List ℕ
open_bytes depth value floor ceiling = open_front 18 depth value floor ceiling

abbrev pub batch_bytes : ℕ → ℤ → ℤ → ℤ → (batch : ℕ) → List ℕ
batch_bytes depth value floor ceiling batch = open_front 22 depth value floor ceiling ++ bytes_of 4 batch

abbrev pub short_bytes : ℕ → ℤ → List ℕ
short_bytes depth value = bytes_of 2 10 ++ (bytes_of 2 1 ++ (bytes_of 2 depth ++ bytes_of 4 (of_z w32 value)))

abbrev pub close_bytes : ℕ → List ℕ
close_bytes depth = bytes_of 2 6 ++ (bytes_of 2 2 ++ bytes_of 2 depth)

-- The bytes of a record that was read, from its fields. No byte of it is lost (`bytes-again`).
abbrev pub fields_bytes : Fields → List ℕ
fields_bytes f =
    cond (is_open f.kind)
    (cond (eqb f.length 18) (open_bytes f.depth f.value f.floor f.ceiling)
    (cond (eqb f.length 10) (short_bytes f.depth f.value) (batch_bytes f.depth f.value f.floor f.ceiling f.batch)))
    (close_bytes f.depth)

-- The bytes of records, one after the other.
abbrev pub chunk_bytes : List Fields → List ℕ
chunk_bytes [] = []
chunk_bytes (f ∷ fs) = fields_bytes f ++ chunk_bytes fs
