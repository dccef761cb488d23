-- Edges of the calls on a row, each by computation. Assumes nothing.
use Rattle.std.specs.Prelude.{◌≡◌, refl, ℕ, zero, suc, ℤ, pos}
use mathlib.Core.List.{List, [], ◌∷◌, ◌++◌, flat_map}
use Rattle.algebra.specs.Run.{step, through, run_on}
use Rattle.gate.specs.Outcome.{refused, granted}
use Rattle.number.specs.Bytes.{le_at, bytes_of}
use Rattle.number.specs.Integer.{min_z, max_z, clamp}
use Rattle.row.specs.Row.{first_length, pieces_in, row_pieces}
use Rattle.record.specs.Record.{within, in_range}
use Rattle.modes.specs.FourModes.{Amounts, lift, line_of, eaten_of, store_held, read_held, is_stamp}
use Rattle.modes.specs.declared.Held.TheVariants.{Nothing, Figure}
use Rattle.modes.specs.Run.{at_least}
use Rattle.modes.specs.Runs.{moved}
use Rattle.figure.specs.Mode.{mode_of, mode_in_use}
use Rattle.hill.specs.Verdict.{joint, count, ends}
use Rattle.hill.specs.Summary.{Summary, hill, blank, part, spoilt, whole}
use Rattle.summary.specs.Layout.{layout, encode}
use Rattle.summary.specs.Judge.{sum_to, nothing_in, counted}
use Rattle.summary.specs.Decode.{decode}
use Rattle.summary.specs.Decide.{all_to, layout_fits, spoilt_fits, levels_fit, opened_fits, middle_fits, records_fit, values_fit, hill_fits, is_summary}
use Rattle.join_plan.specs.Plan.{left_open, up_to, down_from, select, depths_joined, line_for, plan_of, folded}
use Rattle.plan_work.specs.Runs.{levels_down, run_levels, runs_along}
use Rattle.plan_work.specs.Work.{middles_at, outcomes_at, given, worked}
use Rattle.outcome.specs.Outcomes.{two_to64, ask_row, ask_log, merged_bytes, line_bytes, plan_bytes, run_length, run_bytes, runs_bytes, work_along, merge_row_outcome, plan_outcome, runs_outcome, work_outcome}

-- n blanks of mode m, end to end
blanks : ℕ → ℕ → List ℕ
blanks m zero = []
blanks m (suc n) = 6 ∷ 0 ∷ 16 ∷ 0 ∷ m ∷ 0 ∷ blanks m n

-- "One summary to the plan 4, two taken, 64 taken, 65 gives 4": blanks that are taken get 10. A stray byte is a piece.
counted-pieces : (plan_outcome (blanks 1 1) 0 ≡ refused 4)
    × (plan_outcome (blanks 1 2) 0 ≡ refused 10)
    × (plan_outcome (blanks 1 64) 0 ≡ refused 10)
    × (plan_outcome (blanks 1 65) 0 ≡ refused 4)
    × (plan_outcome (blanks 1 64 ++ (0 ∷ [])) 0 ≡ refused 4)
    × (plan_outcome [] 0 ≡ refused 4)
unfolding blanks le_at bytes_of first_length pieces_in row_pieces mode_in_use mode_of decode layout_fits is_summary left_open up_to down_from select depths_joined line_for plan_of flat_map two_to64 ask_row ask_log plan_bytes plan_outcome
counted-pieces = (refl, refl, refl, refl, refl, refl)

-- A stray byte is no summary: 5, also beside two modes; two modes: 6. Blanks merged are blank, and 12 comes last.
merged-blanks : (merge_row_outcome (blanks 1 1 ++ (0 ∷ [])) 6 ≡ refused 5)
    × (merge_row_outcome (blanks 1 1 ++ (blanks 2 1 ++ (0 ∷ []))) 6 ≡ refused 5)
    × (merge_row_outcome (blanks 1 1 ++ blanks 2 1) 0 ≡ refused 6)
    × (merge_row_outcome (blanks 2 3) 5 ≡ refused 12)
    × (merge_row_outcome (blanks 2 3) 6 ≡ granted (blanks 2 1))
unfolding blanks le_at bytes_of first_length pieces_in row_pieces mode_in_use mode_of encode decode layout_fits is_summary two_to64 ask_row merged_bytes merge_row_outcome
merged-blanks = (refl, refl, refl, refl, refl)

ten : Amounts
ten = record { value = pos 10; floor = pos 0; ceiling = pos 100 }

-- The bytes of two summaries in mode m, end to end.
two : {Fig : Type 0} → (Fig → ℤ) → (m : ℕ) → (a b : Summary Fig Amounts) → List ℕ
two store m a b = layout store m a ++ layout store m b

-- A record left open, and a piece that starts at level 2: 7, although the row ends at level 2, which is 11. Of two spoilt ones the lower fault. A row that
-- has a join and ends at level 1, with a buffer too short for the run: 11, not 12.
lowest-fault : (work_outcome (two (λ z. z) 1 (part (whole 0 1 (hill [] (pos 0) ((ten, pos 0) ∷ [])))) (part (whole 2 1 (hill [] (pos 3) [])))) ≡ refused 7)
    × (work_outcome (two (λ z. z) 1 (part (whole 0 1 (hill [] (pos 0) ((ten, pos 0) ∷ [])))) blank) ≡ refused 11)
    × (work_outcome (two (λ z. z) 1 (part (spoilt 8 0 0 2)) (part (spoilt 7 1 2 2))) ≡ refused 7)
    × (runs_outcome (two (λ z. z) 1 (part (whole 0 2 (hill [] (pos 0) ((ten, pos 0) ∷ (ten, pos 0) ∷ [])))) (part (whole 1 0 (hill (pos 0 ∷ []) (pos 0) [])))) 0 ≡ refused 11)
unfolding ten two le_at bytes_of first_length pieces_in row_pieces within in_range mode_in_use mode_of joint count ends encode decode sum_to nothing_in counted is_stamp all_to layout_fits spoilt_fits levels_fit opened_fits middle_fits records_fit values_fit hill_fits is_summary left_open up_to down_from select depths_joined line_for plan_of flat_map folded levels_down run_levels runs_along run_on middles_at outcomes_at given worked step through two_to64 ask_row ask_log run_length run_bytes runs_bytes work_along runs_outcome work_outcome
lowest-fault = (refl, refl, refl, refl)

-- open 0 value 10, open 1 value 10, cut, close 1, close 0: one line, two levels. In mode 2 there is no other figure on the way, and nothing is stored as
-- -2^63.
opened-closed : List ℕ
opened-closed =
    two store_held 2 (part (whole 0 2 (hill [] Nothing ((ten, Nothing) ∷ (ten, Nothing) ∷ [])))) (part (whole 0 0 (hill (Nothing ∷ Nothing ∷ []) Nothing [])))

nothing-in-run : (plan_outcome opened-closed 12 ≡ granted (12 ∷ 0 ∷ 19 ∷ 0 ∷ 0 ∷ 0 ∷ 1 ∷ 0 ∷ 0 ∷ 0 ∷ 1 ∷ 0 ∷ []))
    × (plan_outcome opened-closed 11 ≡ refused 12)
    × (runs_outcome opened-closed 30 ≡ granted (30 ∷ 0 ∷ 20 ∷ 0 ∷ 2 ∷ 0 ∷ 20 ∷ 0 ∷ 0 ∷ 0 ∷ 0 ∷ 0 ∷ 0 ∷ 0 ∷ 0 ∷ 0 ∷ 0 ∷ 0 ∷ 0 ∷ 0 ∷ 0 ∷ 128 ∷ 20 ∷ 0 ∷ 0 ∷ 0 ∷ 0 ∷ 0 ∷ 0 ∷ 0 ∷ []))
    × (runs_outcome opened-closed 29 ≡ refused 12)
    × (work_outcome opened-closed ≡ granted (record { figure = pos 20; joins = 1; levels = 2 }))
unfolding ten two opened-closed le_at bytes_of max_z lift line_of store_held read_held at_least moved run_on first_length pieces_in row_pieces within in_range mode_in_use mode_of joint count ends encode decode sum_to nothing_in counted is_stamp all_to layout_fits spoilt_fits levels_fit opened_fits middle_fits records_fit values_fit hill_fits is_summary left_open up_to down_from select depths_joined line_for plan_of flat_map folded levels_down run_levels runs_along middles_at outcomes_at given worked step through two_to64 ask_row ask_log line_bytes plan_bytes run_length run_bytes runs_bytes work_along plan_outcome runs_outcome work_outcome
nothing-in-run = (refl, refl, refl, refl, refl)

-- open 0 value 10, open 1 value 5 ceiling 4, open 2 value 3, close 2, cut, close 1, close 0. In mode 5 the one at depth 1 holds 3 and is bound with nothing
-- inside: 4, and 14 for both; with x inside they add 18, held between 10 and 14. 38 bytes.
holds-3 : List ℕ
holds-3 =
    two store_held 5 (part (whole 0 3 (hill [] Nothing ((record { value = pos 5; floor = pos 0; ceiling = pos 4 }, Figure (pos 3)) ∷ (ten, Nothing) ∷ [])))) (part (whole 0 0 (hill (Nothing ∷ Nothing ∷ []) Nothing [])))

four-numbers : (runs_outcome holds-3 38 ≡ granted (38 ∷ 0 ∷ 20 ∷ 0 ∷ 5 ∷ 0 ∷ 14 ∷ 0 ∷ 0 ∷ 0 ∷ 0 ∷ 0 ∷ 0 ∷ 0 ∷ 18 ∷ 0 ∷ 0 ∷ 0 ∷ 0 ∷ 0 ∷ 0 ∷ 0 ∷ 10 ∷ 0 ∷ 0 ∷ 0 ∷ 0 ∷ 0 ∷ 0 ∷ 0 ∷ 14 ∷ 0 ∷ 0 ∷ 0 ∷ 0 ∷ 0 ∷ 0 ∷ 0 ∷ []))
    × (runs_outcome holds-3 37 ≡ refused 12)
    × (work_outcome holds-3 ≡ granted (record { figure = pos 14; joins = 1; levels = 2 }))
unfolding ten two holds-3 le_at bytes_of min_z max_z clamp lift eaten_of store_held read_held run_on first_length pieces_in row_pieces within in_range mode_in_use mode_of joint count ends encode decode sum_to nothing_in counted is_stamp all_to layout_fits spoilt_fits levels_fit opened_fits middle_fits records_fit values_fit hill_fits is_summary left_open up_to down_from select depths_joined line_for plan_of flat_map folded levels_down run_levels runs_along middles_at outcomes_at given worked step through two_to64 ask_row ask_log run_length run_bytes runs_bytes work_along runs_outcome work_outcome
four-numbers = (refl, refl, refl)
