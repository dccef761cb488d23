-- Document 02, L9: the sheet of log D in each mode, what is turned away, and a log of two pages, by computation. Assumes nothing.
use Rattle.std.specs.Prelude.{◌≡◌, refl, List, [], ◌∷◌, ℕ, zero, suc, pos}
use Rattle.gate.specs.Outcome.{refused, granted}
use Rattle.number.specs.Bytes.{le_at}
use Rattle.number.specs.Integer.{min_z, max_z, clamp, wrap}
use Rattle.record.specs.Record.{within, in_range, accepted, whole, by_shape, read_of, records_in, records_of}
use Rattle.record.proofs.Examples.{log_d}
use Rattle.modes.specs.FourModes.{Amounts, lift, line_of, eaten_of, store_held}
use Rattle.figure.specs.Stored.{amounts}
use Rattle.figure.specs.Mode.{mode_of, mode_in_use}
use Rattle.hill.specs.Verdict.{joint, count, ends}
use Rattle.hill.specs.Log.{Record, opening, closing}
use Rattle.text.specs.Decimal.{digits_in, digits_of, decimal_of}
use Rattle.text.specs.Columns.{right_aligned}
use Rattle.chunk.specs.Chunk.{figure_in, whole_log}
use Rattle.outcome.specs.Line.{ascii}
use Rattle.day_sheet.specs.Sheet.{sheet_line, page_text, sheet_outcome}

-- "log D gives `12 15 12 72`": the root's figures. The stamp of -3 is 2^32 - 3.
D-net : sheet_outcome log_d 1 0 81 ≡ granted (ascii "     0  0               12\n     1  1                5\n     2  1               -3\n")
unfolding le_at within in_range accepted whole by_shape read_of records_in records_of joint count ends whole_log figure_in mode_in_use mode_of digits_in digits_of decimal_of right_aligned ascii sheet_line page_text sheet_outcome
D-net = refl

D-heaviest : sheet_outcome log_d 2 0 81 ≡ granted (ascii "     0  0               15\n     1  1                5\n     2  1               -3\n")
unfolding le_at within in_range accepted whole by_shape read_of records_in records_of joint count ends whole_log figure_in mode_in_use mode_of max_z lift line_of store_held digits_in digits_of decimal_of right_aligned ascii sheet_line page_text sheet_outcome
D-heaviest = refl

D-eaten : sheet_outcome log_d 5 0 81 ≡ granted (ascii "     0  0               12\n     1  1                5\n     2  1               -3\n")
unfolding le_at within in_range accepted whole by_shape read_of records_in records_of joint count ends whole_log figure_in mode_in_use mode_of min_z max_z clamp lift eaten_of store_held digits_in digits_of decimal_of right_aligned ascii sheet_line page_text sheet_outcome
D-eaten = refl

D-stamp : sheet_outcome log_d 4 0 81 ≡ granted (ascii "     0  0               72\n     1  1                5\n     2  1       4294967293\n")
unfolding le_at within in_range accepted whole by_shape read_of records_in records_of joint count ends whole_log figure_in mode_in_use mode_of wrap digits_in digits_of decimal_of right_aligned ascii sheet_line page_text sheet_outcome
D-stamp = refl

-- ---- turned away

-- a byte short
D-short : sheet_outcome log_d 1 0 80 ≡ refused 12
unfolding le_at within in_range accepted whole by_shape read_of records_in records_of joint count ends whole_log figure_in mode_in_use mode_of digits_in digits_of decimal_of right_aligned sheet_line page_text sheet_outcome
D-short = refl

-- 18 comes before 12; also for page 2^30, whose product with 60 is 0 modulo 2^32, and for the last page that there could be
D-past : sheet_outcome log_d 1 1 0 ≡ refused 18
unfolding le_at within in_range accepted whole by_shape read_of records_in records_of joint count ends whole_log mode_in_use sheet_outcome
D-past = refl

D-wraps : sheet_outcome log_d 1 1_073_741_824 0 ≡ refused 18
unfolding le_at within in_range accepted whole by_shape read_of records_in records_of joint count ends whole_log mode_in_use sheet_outcome
D-wraps = refl

D-last : sheet_outcome log_d 1 4_294_967_295 0 ≡ refused 18
unfolding le_at within in_range accepted whole by_shape read_of records_in records_of joint count ends whole_log mode_in_use sheet_outcome
D-last = refl

-- the log's faults come before 18, and the mode before these
no_record : sheet_outcome [] 1 7 0 ≡ refused 10
unfolding records_in records_of whole_log mode_in_use sheet_outcome
no_record = refl

mode-3 : sheet_outcome [] 3 7 0 ≡ refused 1
unfolding mode_in_use sheet_outcome
mode-3 = refl

-- ---- two pages

-- n records of value 7, one after another, and the root's close
abbrev sevens : (n : ℕ) → List (Record Amounts)
sevens zero = closing 0 ∷ []
sevens (suc n) = opening 1 (amounts (pos 7) (pos 0) (pos 9)) ∷ closing 1 ∷ sevens n

-- A root that holds 60: one line is left for page 1, and none for page 2.
second-page : page_text 1 1 (opening 0 (amounts (pos 0) (pos 0) (pos 9)) ∷ sevens 60) ≡ ascii "    60  1                7\n"
unfolding figure_in mode_of digits_in digits_of decimal_of right_aligned ascii sheet_line page_text
second-page = refl

no-third-page : page_text 1 2 (opening 0 (amounts (pos 0) (pos 0) (pos 9)) ∷ sevens 60) ≡ []
unfolding page_text
no-third-page = refl
