-- Multipliers and their inverses, log D's runs, and the edges of each clause of 15, 16 and 17, each by computation. Assumes nothing.
use Rattle.std.specs.Prelude.{◌≡◌, refl, List, [], ◌∷◌, ◌++◌, ℕ, ◌%◌, ◌^◌, ℤ, pos, negsuc, take}
use Rattle.gate.specs.Outcome.{Outcome, refused, granted}
use Rattle.number.specs.Bytes.{le_at, bytes_of}
use Rattle.modes.specs.FourModes.{is_stamp, nothing}
use Rattle.figure.specs.Mode.{mode_in_use}
use Rattle.summary.specs.Layout.{i64_bytes}
use Rattle.summary.specs.Decide.{layout_fits}
use Rattle.outcome.specs.Outcomes.{run_length, run_bytes}
use Rattle.run_back.specs.Decide.{net_fits, heaviest_fits, stamp_fits, eaten_fits, numbers_fit, is_run_bytes}
use Rattle.run_back.specs.Inverse.{newton, inverse}
use Rattle.run_back.specs.Backwards.{inner_of, outer_fits, backwards_outcome}

-- "For one level the way back multiplies by 3,186,588,639"; of no level, of 63 and of 64; and of the greatest multiplier.
inverses : (inverse 1 ≡ 1) × (inverse 31 ≡ 3_186_588_639) × (inverse (31 ^ 63 % 2 ^ 32) ≡ 1_435_531_295) × (inverse (31 ^ 64 % 2 ^ 32) ≡ 4_202_727_425) × (inverse 4_294_967_295 ≡ 4_294_967_295)
unfolding newton inverse
inverses = (refl, refl, refl, refl, refl)

-- From y back through a run of a mode with these numbers.
abbrev back : (mode : ℕ) (first second third : ℤ) (y : ℤ) → Outcome ℤ
back m a b c y = backwards_outcome (run_bytes m (record { first = a; second = b; third = c; fourth = pos 0 })) y

abbrev back5 : (z a l h : ℤ) (y : ℤ) → Outcome ℤ
back5 z a l h y = backwards_outcome (run_bytes 5 (record { first = z; second = a; third = l; fourth = h })) y

-- 10^14 and -10^14; one beyond each.
abbrev far : ℤ
far = pos 100_000_000_000_000

abbrev -far : ℤ
-far = negsuc 99_999_999_999_999

abbrev beyond : ℤ
beyond = pos 100_000_000_000_001

abbrev -beyond : ℤ
-beyond = negsuc 100_000_000_000_000

-- Log D's runs, from what 1 leads to where there is a way back.
D-back : (back 1 (pos 12) (pos 0) (pos 0) (pos 13) ≡ granted (pos 1)) × (back 4 (pos 961) (pos 72) (pos 0) (pos 1033) ≡ granted (pos 1))
    × (back 2 (pos 15) (pos 7) (pos 15) (pos 16) ≡ refused 16) × (back5 (pos 12) (pos 12) (pos 7) (pos 11) (pos 11) ≡ refused 16)
unfolding le_at bytes_of is_stamp mode_in_use layout_fits run_length run_bytes net_fits heaviest_fits stamp_fits eaten_fits numbers_fit is_run_bytes newton inverse inner_of outer_fits backwards_outcome
D-back = (refl, refl, refl, refl)

-- y and a at the ends of what 17 and 15 let through, and one beyond each.
net-edges : (back 1 far (pos 0) (pos 0) -far ≡ granted (negsuc 199_999_999_999_999)) × (back 1 -far (pos 0) (pos 0) far ≡ granted (pos 200_000_000_000_000))
    × (back 1 far (pos 0) (pos 0) beyond ≡ refused 17) × (back 1 far (pos 0) (pos 0) -beyond ≡ refused 17)
    × (back 1 beyond (pos 0) (pos 0) (pos 0) ≡ refused 15) × (back 1 -beyond (pos 0) (pos 0) (pos 0) ≡ refused 15)
unfolding le_at bytes_of is_stamp mode_in_use layout_fits run_length run_bytes net_fits numbers_fit is_run_bytes inner_of outer_fits backwards_outcome
net-edges = (refl, refl, refl, refl, refl, refl)

-- "Unused numbers not 0": two of mode 1, one of mode 4.
unused-edges : (back 1 (pos 0) (pos 1) (pos 0) (pos 0) ≡ refused 15) × (back 1 (pos 0) (pos 0) (negsuc 0) (pos 0) ≡ refused 15) × (back 4 (pos 31) (pos 0) (pos 1) (pos 0) ≡ refused 15)
unfolding le_at bytes_of is_stamp mode_in_use layout_fits run_length run_bytes net_fits stamp_fits numbers_fit is_run_bytes inner_of outer_fits backwards_outcome
unused-edges = (refl, refl, refl)

-- An even multiplier; m, q and y at 2^32 - 1 and at 2^32, and below 0.
stamp-edges : (back 4 (pos 30) (pos 0) (pos 0) (pos 0) ≡ refused 15) × (back 4 (pos 4_294_967_295) (pos 4_294_967_295) (pos 0) (pos 4_294_967_295) ≡ granted (pos 0))
    × (back 4 (pos 4_294_967_297) (pos 0) (pos 0) (pos 0) ≡ refused 15) × (back 4 (negsuc 30) (pos 0) (pos 0) (pos 0) ≡ refused 15)
    × (back 4 (pos 1) (pos 4_294_967_296) (pos 0) (pos 0) ≡ refused 15) × (back 4 (pos 1) (negsuc 0) (pos 0) (pos 0) ≡ refused 15)
    × (back 4 (pos 1) (pos 0) (pos 0) (pos 4_294_967_296) ≡ refused 17) × (back 4 (pos 1) (pos 0) (pos 0) (negsuc 0) ≡ refused 17)
unfolding le_at bytes_of is_stamp mode_in_use layout_fits run_length run_bytes stamp_fits numbers_fit is_run_bytes newton inverse inner_of outer_fits backwards_outcome
stamp-edges = (refl, refl, refl, refl, refl, refl, refl, refl)

-- "The -2^63 allowed for A in mode 2", and for no other number. There is no way back, whatever y is: 16 before 17.
heaviest-edges : (back 2 far nothing -far nothing ≡ refused 16) × (back 2 nothing (pos 0) (pos 0) (pos 0) ≡ refused 15) × (back 2 (pos 0) (pos 0) nothing (pos 0) ≡ refused 15)
    × (back 2 beyond (pos 0) (pos 0) nothing ≡ refused 15) × (back 2 (pos 0) -beyond (pos 0) (pos 0) ≡ refused 15) × (back 2 (pos 0) (pos 0) beyond (pos 0) ≡ refused 15)
unfolding le_at bytes_of is_stamp mode_in_use layout_fits run_length run_bytes heaviest_fits numbers_fit is_run_bytes inner_of outer_fits backwards_outcome
heaviest-edges = (refl, refl, refl, refl, refl, refl)

-- Each of the four numbers, and "l above h". z may lie outside l to h.
eaten-edges : (back5 far -far -far far beyond ≡ refused 16) × (back5 beyond (pos 0) (pos 0) (pos 0) (pos 0) ≡ refused 15) × (back5 (pos 0) -beyond (pos 0) (pos 0) (pos 0) ≡ refused 15)
    × (back5 (pos 0) nothing (pos 0) (pos 0) (pos 0) ≡ refused 15) × (back5 (pos 0) (pos 0) -beyond (pos 0) (pos 0) ≡ refused 15) × (back5 (pos 0) (pos 0) (pos 0) beyond (pos 0) ≡ refused 15)
    × (back5 (pos 12) (pos 12) (pos 7) (pos 7) (pos 0) ≡ refused 16) × (back5 (pos 12) (pos 12) (pos 7) (pos 6) (pos 0) ≡ refused 15)
unfolding le_at bytes_of is_stamp mode_in_use layout_fits run_length run_bytes eaten_fits numbers_fit is_run_bytes inner_of outer_fits backwards_outcome
eaten-edges = (refl, refl, refl, refl, refl, refl, refl, refl)

-- A head, and as many numbers as three, or four, that are all 0.
three : (length kind mode : ℕ) → List ℕ
three l k m = bytes_of 2 l ++ bytes_of 2 k ++ bytes_of 2 m ++ i64_bytes (pos 0) ++ i64_bytes (pos 0) ++ i64_bytes (pos 0)

four : (length kind mode : ℕ) → List ℕ
four l k m = three l k m ++ i64_bytes (pos 0)

-- "Layout": 30 bytes, or 38 in mode 5, and the field says so; kind 20. "A mode out of use". A byte too many, one too few, and none.
layout-edges : (backwards_outcome (three 30 20 1) (pos 0) ≡ granted (pos 0)) × (backwards_outcome (three 30 20 5) (pos 0) ≡ refused 15) × (backwards_outcome (four 38 20 5) (pos 0) ≡ refused 16)
    × (backwards_outcome (four 38 20 1) (pos 0) ≡ refused 15) × (backwards_outcome (three 31 20 1) (pos 0) ≡ refused 15) × (backwards_outcome (three 30 19 1) (pos 0) ≡ refused 15)
    × (backwards_outcome (three 30 20 3) (pos 0) ≡ refused 15) × (backwards_outcome (three 30 20 257) (pos 0) ≡ refused 15)
    × (backwards_outcome (three 31 20 1 ++ (0 ∷ [])) (pos 0) ≡ refused 15) × (backwards_outcome (take 29 (three 29 20 1)) (pos 0) ≡ refused 15) × (backwards_outcome [] (pos 0) ≡ refused 15)
unfolding three four le_at bytes_of is_stamp mode_in_use layout_fits run_length net_fits eaten_fits numbers_fit is_run_bytes inner_of outer_fits backwards_outcome
layout-edges = (refl, refl, refl, refl, refl, refl, refl, refl, refl, refl, refl)
