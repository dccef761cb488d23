-- Document 01's log D cut after record 2, on bytes, by computation. Assumes nothing.
use Rattle.std.specs.Prelude.{◌≡◌, refl, true, false, List, [], ◌∷◌, ℕ, take, drop, pos}
use Rattle.gate.specs.Outcome.{refused, granted}
use Rattle.number.specs.Bytes.{le_at, bytes_of}
use Rattle.record.specs.Record.{within, in_range, accepted, whole, by_shape, read_of, records_in, records_of}
use Rattle.record.proofs.Examples.{log_d}
use Rattle.modes.specs.FourModes.{is_stamp}
use Rattle.figure.specs.Mode.{mode_of, mode_in_use}
use Rattle.hill.specs.Verdict.{joint, count, cut, ends}
use Rattle.summary.specs.Layout.{encode}
use Rattle.summary.specs.Judge.{sum_to, nothing_in, counted}
use Rattle.summary.specs.Decode.{decode}
use Rattle.summary.specs.Decide.{all_to, layout_fits, spoilt_fits, levels_fit, opened_fits, middle_fits, records_fit, values_fit, hill_fits, is_summary}
use Rattle.summary.specs.Outcomes.{summary_bytes, merge_bytes, summarise_outcome, merge_outcome, finish_outcome}

left_d : List ℕ
left_d =
    64 ∷ 0 ∷ 18 ∷ 0 ∷ 1 ∷ 0 ∷ 0 ∷ 0 ∷ 0 ∷ 0 ∷ 2 ∷ 0 ∷ 2 ∷ 0 ∷ 0 ∷ 0 ∷
    0 ∷ 0 ∷ 0 ∷ 0 ∷ 0 ∷ 0 ∷ 0 ∷ 0 ∷
    10 ∷ 0 ∷ 0 ∷ 0 ∷ 0 ∷ 0 ∷ 0 ∷ 0 ∷ 100 ∷ 0 ∷ 0 ∷ 0 ∷ 0 ∷ 0 ∷ 0 ∷ 0 ∷ 0 ∷ 0 ∷ 0 ∷ 0 ∷
    5 ∷ 0 ∷ 0 ∷ 0 ∷ 0 ∷ 0 ∷ 0 ∷ 0 ∷ 4 ∷ 0 ∷ 0 ∷ 0 ∷ 0 ∷ 0 ∷ 0 ∷ 0 ∷ 0 ∷ 0 ∷ 0 ∷ 0 ∷ []

right_d : List ℕ
right_d =
    40 ∷ 0 ∷ 18 ∷ 0 ∷ 1 ∷ 0 ∷ 2 ∷ 0 ∷ 0 ∷ 0 ∷ 0 ∷ 0 ∷ 1 ∷ 0 ∷ 0 ∷ 0 ∷
    0 ∷ 0 ∷ 0 ∷ 0 ∷ 0 ∷ 0 ∷ 0 ∷ 0 ∷ 253 ∷ 255 ∷ 255 ∷ 255 ∷ 255 ∷ 255 ∷ 255 ∷ 255 ∷
    0 ∷ 0 ∷ 0 ∷ 0 ∷ 0 ∷ 0 ∷ 0 ∷ 0 ∷ []

left-summary : summarise_outcome (take 36 log_d) 1 64 ≡ granted left_d
unfolding left_d le_at bytes_of within in_range accepted whole by_shape read_of records_in records_of mode_in_use mode_of joint count cut ends encode summary_bytes summarise_outcome
left-summary = refl

right-summary : summarise_outcome (drop 36 log_d) 1 40 ≡ granted right_d
unfolding right_d le_at bytes_of within in_range accepted whole by_shape read_of records_in records_of mode_in_use mode_of joint count cut ends encode summary_bytes summarise_outcome
right-summary = refl

accepted-D : (is_summary left_d ≡ true) × (is_summary right_d ≡ true)
unfolding left_d right_d le_at within in_range mode_in_use sum_to nothing_in counted is_stamp all_to layout_fits spoilt_fits levels_fit opened_fits middle_fits records_fit values_fit hill_fits is_summary
accepted-D = (refl, refl)

-- The two merged are D's summary, and finish answers D's net.
whole_d : List ℕ
whole_d = 24 ∷ 0 ∷ 18 ∷ 0 ∷ 1 ∷ 0 ∷ 0 ∷ 0 ∷ 0 ∷ 0 ∷ 0 ∷ 0 ∷ 3 ∷ 0 ∷ 0 ∷ 0 ∷ 12 ∷ 0 ∷ 0 ∷ 0 ∷ 0 ∷ 0 ∷ 0 ∷ 0 ∷ []

merged-D : merge_outcome left_d right_d 24 ≡ granted whole_d
unfolding left_d right_d whole_d le_at bytes_of within in_range mode_in_use mode_of joint count cut encode decode sum_to nothing_in counted is_stamp all_to layout_fits spoilt_fits levels_fit opened_fits middle_fits records_fit values_fit hill_fits is_summary merge_bytes merge_outcome
merged-D = refl

finish-D : (finish_outcome whole_d ≡ granted (pos 12)) × (finish_outcome right_d ≡ refused 11)
unfolding right_d whole_d le_at within in_range mode_in_use mode_of ends decode sum_to nothing_in counted is_stamp all_to layout_fits spoilt_fits levels_fit opened_fits middle_fits records_fit values_fit hill_fits is_summary finish_outcome
finish-D = (refl, refl)

-- A flat hill in mode 2 whose middle is nothing is accepted, and finish answers -2^63; with 100,001 opened it is none.
flat : ℕ → List ℕ
flat low = 24 ∷ 0 ∷ 18 ∷ 0 ∷ 2 ∷ 0 ∷ 3 ∷ 0 ∷ 3 ∷ 0 ∷ 3 ∷ 0 ∷ low ∷ 134 ∷ 1 ∷ 0 ∷ 0 ∷ 0 ∷ 0 ∷ 0 ∷ 0 ∷ 0 ∷ 0 ∷ 128 ∷ []

edge-opened : (is_summary (flat 160) ≡ true) × (is_summary (flat 161) ≡ false)
unfolding flat le_at within in_range mode_in_use sum_to nothing_in counted is_stamp all_to layout_fits spoilt_fits levels_fit opened_fits middle_fits records_fit values_fit hill_fits is_summary
edge-opened = (refl, refl)
