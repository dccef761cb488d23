-- Slips that document 01 has seen drawn on paper, and document 02's negative record, by computation. Assumes nothing.
use Rattle.std.specs.Prelude.{◌≡◌, pos, negsuc, ◌+ℤ◌, refl}
use Rattle.number.specs.Integer.{min_z, max_z, clamp}
use Rattle.modes.specs.FourModes.{Amounts, lift, line_of, eaten_of, nothing, store_held, read_held}
use Rattle.modes.specs.Run.{EatenNumbers, eaten_along, read_eaten_run}
use Rattle.figure.specs.Mode.{mode_of}
use Rattle.figure.specs.Stored.{amounts, none, passed, level_run, run_after}
use Rattle.modes.specs.declared.Held.TheVariants.{Nothing, Figure}

-- "open 0 value 10 floor 0 ceiling 100; open 1 value 5 floor 0 ceiling 4; ..; open 1 value -3 floor 0 ceiling 100; .."
abbrev first : Amounts
first = amounts (pos 10) (pos 0) (pos 100)

abbrev second : Amounts
second = amounts (pos 5) (pos 0) (pos 4)

abbrev third : Amounts
third = amounts (negsuc 2) (pos 0) (pos 100)

-- "10 over -3 is 7, not 10", and nothing held is -2^63 in mode 2
pub ten-over : (passed (mode_of 2) first (passed (mode_of 2) third (none (mode_of 2))) ≡ pos 7) × (none (mode_of 2) ≡ negsuc 9223372036854775807)
unfolding passed none mode_of store_held read_held line_of
ten-over = (refl, refl)

-- "A negative record that holds nothing, with a floor of 0" counts -3, and one over its ceiling counts 5; where they hold a record of 1 they are bound: 0 and 4
pub drop-as-it-is :
    (passed (mode_of 5) third (none (mode_of 5)) ≡ negsuc 2) × (passed (mode_of 5) second (none (mode_of 5)) ≡ pos 5) × (passed (mode_of 5) third (pos 1) ≡ pos 0)
    × (passed (mode_of 5) second (pos 1) ≡ pos 4) × (none (mode_of 5) ≡ nothing)
unfolding passed none mode_of store_held read_held eaten_of clamp min_z max_z
drop-as-it-is = (refl, refl, refl, refl, refl)

-- A level that holds 3 before the inner part is bound even with nothing inside: 4, though 8 is added
pub bound-by-its-sides : level_run (mode_of 5) second (pos 3) nothing ≡ record { first = pos 4; second = pos 8; third = pos 0; fourth = pos 4 }
unfolding level_run mode_of store_held read_held lift eaten_of clamp min_z max_z
bound-by-its-sides = refl

-- Mode 5's run of D cut after record 2: the first record, which holds the third behind, around the second. "(12,12,7,11)"
abbrev D-run : EatenNumbers
D-run = read_eaten_run (run_after (mode_of 5) (level_run (mode_of 5) first nothing (negsuc 2)) (level_run (mode_of 5) second nothing nothing))

-- "The floor and ceiling applied once to a whole run": with 3 inside it gives 11, not 15 (and with nothing inside 12, which no number inside gives)
pub once-a-level : (eaten_along D-run (Figure (pos 3)) ≡ pos 11) × (clamp (pos 3 +ℤ D-run.some.add) first.floor first.ceiling ≡ pos 15) × (eaten_along D-run Nothing ≡ pos 12)
unfolding run_after level_run mode_of store_held read_held lift eaten_of eaten_along clamp min_z max_z
once-a-level = (refl, refl, refl)
