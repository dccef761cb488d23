-- The printed line at document 01's log D, at the ends of the range and for document 01's refused logs, by computation. The line for the bytes of
-- log D stands in crate claim, Table. Assumes nothing.
use Rattle.std.specs.Prelude.{◌≡◌, refl, List, [], ◌∷◌, ℕ, pos, negsuc}
use Rattle.gate.specs.Outcome.{refused, granted}
use Rattle.number.specs.Bytes.{le_at}
use Rattle.record.specs.Record.{within, in_range, accepted, whole, by_shape, read_of, records_in, records_of}
use Rattle.hill.specs.Verdict.{joint, count, ends}
use Rattle.text.specs.Decimal.{digits_in, digits_of, decimal_of}
use Rattle.chunk.specs.Chunk.{whole_log}
use Rattle.outcome.specs.Day.{day_outcome}
use Rattle.outcome.specs.Line.{ascii, line_text, day_line}

-- "log D gives `12 15 12 72`"
D-line : day_line (granted (record { net = pos 12; heaviest = pos 15; eaten = pos 12; stamp = pos 72 })) ≡ ascii "12 15 12 72\n"
unfolding digits_in digits_of decimal_of ascii line_text day_line
D-line = refl

refused-10 : day_line (refused 10) ≡ ascii "refused 10\n"
unfolding digits_in digits_of ascii line_text day_line
refused-10 = refl

-- the least and the greatest 64-bit number, 0 and -1
edges :
    day_line (granted (record { net = negsuc 9_223_372_036_854_775_807; heaviest = pos 9_223_372_036_854_775_807; eaten = pos 0; stamp = negsuc 0 })) ≡
    ascii "-9223372036854775808 9223372036854775807 0 -1\n"
unfolding digits_in digits_of decimal_of ascii line_text day_line
edges = refl

-- ---- whole logs

-- "No bytes: .. 10. \"close 1\" alone: 11. open 0, close 0 twice over: 8. open 0, open 0: 7." An open and two stray bytes: 3.
abbrev close0 : List ℕ → List ℕ
close0 s = 6 ∷ 0 ∷ 2 ∷ 0 ∷ 0 ∷ 0 ∷ s

abbrev open0 : List ℕ → List ℕ
open0 s = 10 ∷ 0 ∷ 1 ∷ 0 ∷ 0 ∷ 0 ∷ 7 ∷ 0 ∷ 0 ∷ 0 ∷ s

no_bytes : day_line (day_outcome []) ≡ ascii "refused 10\n"
unfolding le_at within in_range accepted whole by_shape read_of records_in records_of joint count ends digits_in digits_of ascii line_text day_line whole_log day_outcome
no_bytes = refl

close-alone : day_line (day_outcome (6 ∷ 0 ∷ 2 ∷ 0 ∷ 1 ∷ 0 ∷ [])) ≡ ascii "refused 11\n"
unfolding le_at within in_range accepted whole by_shape read_of records_in records_of joint count ends digits_in digits_of ascii line_text day_line whole_log day_outcome
close-alone = refl

twice-over : day_line (day_outcome (open0 (close0 (open0 (close0 []))))) ≡ ascii "refused 8\n"
unfolding le_at within in_range accepted whole by_shape read_of records_in records_of joint count ends digits_in digits_of ascii line_text day_line whole_log day_outcome
twice-over = refl

open-open : day_line (day_outcome (open0 (open0 []))) ≡ ascii "refused 7\n"
unfolding le_at within in_range accepted whole by_shape read_of records_in records_of joint count ends digits_in digits_of ascii line_text day_line whole_log day_outcome
open-open = refl

-- 3 comes before 7
stray-bytes : day_line (day_outcome (open0 (open0 (0 ∷ 0 ∷ [])))) ≡ ascii "refused 3\n"
unfolding le_at within in_range accepted whole by_shape read_of records_in records_of joint count ends digits_in digits_of ascii line_text day_line whole_log day_outcome
stray-bytes = refl
