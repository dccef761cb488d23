-- Question 5 as a test of the bytes: what the code computes. Definitions only.
use Rattle.std.specs.Prelude.{Bool, true, cond, not, ◌&&◌, ◌||◌, List, ℕ, zero, suc, ◌+◌, ◌*◌, leb, eqb, length}
use Rattle.number.specs.Integer.{same}
use Rattle.record.specs.Record.{in_range}
use Rattle.modes.specs.FourModes.{limit, is_stamp}
use Rattle.figure.specs.Mode.{mode_in_use}
use Rattle.summary.specs.Judge.{length_at, kind_at, mode_at, fault_at, spoilt_start_at, start_at, peak_at, end_at, opened_at, rise_at, fall_at, left_at, middle_at, value_at, floor_at, ceiling_at, held_at, nothing_in, absolute_values}

-- f 0 to f (n - 1) all pass
unfoldable pub all_to : ℕ → (ℕ → Bool) → Bool
all_to zero f = true
all_to (suc n) f = all_to n f && f n

unfoldable pub layout_fits : List ℕ → ℕ → ℕ → Bool
layout_fits b kind bytes = eqb (kind_at b) kind && eqb (length b) bytes && eqb (length_at b) (length b) && mode_in_use (mode_at b)

unfoldable pub spoilt_fits : List ℕ → Bool
spoilt_fits b =
    leb 7 (fault_at b) && leb (fault_at b) 9 && leb (spoilt_start_at b) 64 && leb (end_at b) 64 && leb (opened_at b) 100_001 && (not (eqb (fault_at b) 9) || eqb (opened_at b) 100_001)

unfoldable pub levels_fit : List ℕ → Bool
levels_fit b =
    leb (start_at b) 64 && leb (end_at b) 64 && leb (peak_at b) (start_at b) && leb (peak_at b) (end_at b) && (not (eqb (peak_at b) 0) || (eqb (start_at b) 0 || eqb (end_at b) 0))

unfoldable pub opened_fits : List ℕ → Bool
opened_fits b = leb (opened_at b) 100_000 && (not (eqb (start_at b) (peak_at b)) || (not (eqb (peak_at b) (end_at b)) || not (eqb (opened_at b) 0)))

unfoldable pub middle_fits : List ℕ → Bool
middle_fits b =
    not (eqb (peak_at b) 0) || (eqb (start_at b) 0 && eqb (end_at b) 0 || same (middle_at b) (nothing_in (mode_at b)))

unfoldable pub records_fit : List ℕ → Bool
records_fit b = all_to (fall_at b) (λ j. in_range (peak_at b + j) (value_at b j) (floor_at b j) (ceiling_at b j))

unfoldable pub values_fit : List ℕ → Bool
values_fit b =
    cond (eqb (mode_at b) 4)
    (all_to (rise_at b) (λ i. is_stamp (left_at b i)) && is_stamp (middle_at b) && all_to (fall_at b) (λ j. is_stamp (held_at b j)) && leb (fall_at b) (opened_at b))
    (leb (limit * fall_at b + absolute_values b) (limit * opened_at b))

unfoldable pub hill_fits : List ℕ → Bool
hill_fits b = levels_fit b && opened_fits b && middle_fits b && records_fit b && values_fit b

-- By the kind; `decide-summary` says that it tells IsSummary.
unfoldable pub is_summary : List ℕ → Bool
is_summary b =
    cond (eqb (kind_at b) 16) (layout_fits b 16 6)
    (cond (eqb (kind_at b) 17) (layout_fits b 17 16 && spoilt_fits b) (layout_fits b 18 (24 + 8 * rise_at b + 20 * fall_at b) && hill_fits b))
