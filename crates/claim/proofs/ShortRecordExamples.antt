-- A short record over a negative sum: 5 g that hold -8 g, both of length 10. It is cut after its first record, of which a summary was sent before L8, and a
-- summary of the rest since. By computation. Assumes nothing.
use Rattle.std.specs.Prelude.{◌≡◌, refl, List, [], ◌∷◌, ◌++◌, ℕ, pos, negsuc}
use Rattle.std.proofs.Common.{◌∙◌, lit≤}
use Rattle.gate.specs.Outcome.{granted}
use Rattle.number.specs.Bytes.{AllBytes, le_at, bytes_of}
use Rattle.number.specs.FieldLaws.{bytes-append}
use Rattle.number.specs.Integer.{min_z, max_z, clamp}
use Rattle.row.specs.Row.{end_to_end}
use Rattle.record.specs.Record.{default_floor, within, in_range, accepted, whole, by_shape, read_of, records_in, records_of, short_bytes, close_bytes}
use Rattle.record.proofs.Encoding.{short-bytes, close-bytes}
use Rattle.modes.specs.FourModes.{lift, eaten_of, store_held, read_held, is_stamp}
use Rattle.figure.specs.Mode.{mode_of, mode_in_use}
use Rattle.hill.specs.Verdict.{joint, count, cut, ends}
use Rattle.hill.specs.Row.{Call, Proper, replay, on_result}
use Rattle.summary.specs.Layout.{encode}
use Rattle.summary.specs.Judge.{sum_to, nothing_in, counted}
use Rattle.summary.specs.Decode.{decode}
use Rattle.summary.specs.Decide.{all_to, layout_fits, spoilt_fits, levels_fit, opened_fits, middle_fits, records_fit, values_fit, hill_fits, is_summary}
use Rattle.summary.specs.Outcomes.{summary_bytes, merge_bytes, merge_outcome, finish_outcome, log_outcome}
use Rattle.outcome.specs.Outcomes.{work_outcome}
use Rattle.claim.specs.Claim.{fields_read, log_says, Lent, to_merge, Neighbours, by_calls, told}
use Rattle.claim.specs.ShortRecords.{Sent, old_floor, read_then, read_then_in, records_then, sent_bytes, said_then, AllSent, in_full, full_log, sent_row, KeepMeaning}
use Rattle.claim.proofs.SentLaws.{keep-meaning}

abbrev opened : List ℕ
opened = short_bytes 0 (pos 5)

abbrev rest : List ℕ
rest = short_bytes 1 (negsuc 7) ++ (close_bytes 1 ++ close_bytes 0)

-- -3 is raised to 0, and was not before.
eaten-now : log_says 5 (opened ++ rest) ≡ granted (pos 0)
unfolding le_at bytes_of min_z max_z clamp within in_range accepted whole by_shape read_of records_in records_of lift eaten_of store_held mode_of joint count ends log_outcome log_says
eaten-now = refl

eaten-then : said_then 5 (record { chunk = opened ++ rest; floor = old_floor }) ≡ granted (negsuc 2)
unfolding le_at bytes_of min_z max_z clamp within in_range accepted whole by_shape read_of lift eaten_of store_held mode_of joint count ends log_outcome read_then read_then_in records_then
eaten-then = refl

-- The summary of the first record, as it was sent and as it is now: value 5, the floor, ceiling 1,000,000,000, and nothing held so far.
abbrev hill_bytes : List ℕ → List ℕ
hill_bytes floor =
    44 ∷ 0 ∷ 18 ∷ 0 ∷ 5 ∷ 0 ∷ 0 ∷ 0 ∷ 0 ∷ 0 ∷ 1 ∷ 0 ∷ 1 ∷ 0 ∷ 0 ∷ 0 ∷
    0 ∷ 0 ∷ 0 ∷ 0 ∷ 0 ∷ 0 ∷ 0 ∷ 128 ∷
    5 ∷ 0 ∷ 0 ∷ 0 ∷ (floor ++ (0 ∷ 202 ∷ 154 ∷ 59 ∷ 0 ∷ 0 ∷ 0 ∷ 0 ∷ 0 ∷ 0 ∷ 0 ∷ 128 ∷ []))

sent-then : sent_bytes 5 (record { chunk = opened; floor = old_floor }) ≡ hill_bytes (0 ∷ 54 ∷ 101 ∷ 196 ∷ [])
unfolding le_at bytes_of within in_range accepted whole by_shape read_of store_held mode_of joint count cut encode summary_bytes read_then read_then_in records_then
sent-then = refl

sent-today : sent_bytes 5 (record { chunk = opened; floor = default_floor }) ≡ hill_bytes (0 ∷ 0 ∷ 0 ∷ 0 ∷ [])
unfolding le_at bytes_of within in_range accepted whole by_shape read_of store_held mode_of joint count cut encode summary_bytes read_then read_then_in records_then
sent-today = refl

-- The row, and one merge of it, into a buffer that just fits.
abbrev row : List Sent
row = record { chunk = opened; floor = old_floor } ∷ record { chunk = rest; floor = default_floor } ∷ []

abbrev merges : List (Call Lent)
merges = record { place = 0; many = 2; lent = to_merge (bytes_of 24 0) } ∷ []

all-sent : AllSent row
unfolding le_at bytes_of within in_range accepted whole by_shape read_of read_then read_then_in
all-sent = (
  record { bytes = short-bytes 0 (pos 5); readable = (_, refl); floor-fits = refl },
  (record { bytes = rest-bytes; readable = (_, refl); floor-fits = refl }, tt),
)
  where
    rest-bytes : AllBytes rest
    rest-bytes = bytes-append (short_bytes 1 (negsuc 7)) (close_bytes 1 ++ close_bytes 0) (short-bytes 1 (negsuc 7)) (bytes-append (close_bytes 1) (close_bytes 0) (close-bytes 1) (close-bytes 0))

one_merge : Proper by_calls Neighbours merges (sent_row 5 row)
one_merge = (record { takes = refl; inside = lit≤ tt }, tt)

keeps : KeepMeaning 5 row merges
unfolding mode_in_use
keeps = keep-meaning 5 refl row all-sent merges one_merge

-- The merge is told 24, and one piece is left: a hill of the whole log, with -3.
was-told : told merges (sent_row 5 row) ≡ granted 24 ∷ []
unfolding le_at bytes_of min_z max_z clamp within in_range accepted whole by_shape read_of lift eaten_of store_held read_held mode_of mode_in_use joint count cut encode decode sum_to nothing_in counted is_stamp all_to layout_fits spoilt_fits levels_fit opened_fits middle_fits records_fit values_fit hill_fits is_summary summary_bytes merge_bytes merge_outcome read_then read_then_in records_then
was-told = refl

abbrev left : List ℕ
left = 24 ∷ 0 ∷ 18 ∷ 0 ∷ 5 ∷ 0 ∷ 0 ∷ 0 ∷ 0 ∷ 0 ∷ 0 ∷ 0 ∷ 2 ∷ 0 ∷ 0 ∷ 0 ∷ 253 ∷ 255 ∷ 255 ∷ 255 ∷ 255 ∷ 255 ∷ 255 ∷ 255 ∷ []

one_left : replay by_calls merges (sent_row 5 row) ≡ left ∷ []
unfolding le_at bytes_of min_z max_z clamp within in_range accepted whole by_shape read_of lift eaten_of store_held read_held mode_of mode_in_use joint count cut encode decode sum_to nothing_in counted is_stamp all_to layout_fits spoilt_fits levels_fit opened_fits middle_fits records_fit values_fit hill_fits is_summary summary_bytes merge_bytes merge_outcome read_then read_then_in records_then
one_left = refl

-- Finished, it is -3, by the floor that the first summary carries; so is the work along the plan. Today's two summaries come to 0: `eaten-now`.
full-says : log_says 5 (full_log row) ≡ granted (negsuc 2)
unfolding le_at bytes_of min_z max_z clamp within in_range accepted whole by_shape read_of records_in records_of lift eaten_of store_held mode_of joint count ends log_outcome log_says fields_read in_full
full-says = refl

finished : finish_outcome left ≡ granted (negsuc 2)
finished = keeps.finished left one_left ∙ full-says

worked : on_result (λ w. w.figure) (work_outcome (end_to_end (sent_row 5 row))) ≡ granted (negsuc 2)
worked = keeps.worked (lit≤ tt, lit≤ tt) ∙ full-says
