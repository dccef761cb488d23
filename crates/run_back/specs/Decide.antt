-- Question 15 as a test of the bytes: what the code computes. Definitions only.
use Rattle.std.specs.Prelude.{Bool, false, cond, ◌&&◌, ◌||◌, List, ℕ, ◌%◌, leb, eqb, ℤ, pos, nat_abs}
use Rattle.std.specs.Int.Signed.{le_z}
use Rattle.number.specs.Integer.{same}
use Rattle.modes.specs.FourModes.{nothing, is_stamp}
use Rattle.modes.specs.declared.Run.{Run}
use Rattle.summary.specs.Judge.{mode_at}
use Rattle.summary.specs.Decide.{layout_fits}
use Rattle.outcome.specs.Outcomes.{run_length}
use Rattle.run_back.specs.Judge.{run_at}

abbrev pub near : ℤ → Bool
near z = leb (nat_abs z) 100_000_000_000_000

abbrev pub is_odd : ℤ → Bool
is_odd z = eqb (nat_abs z % 2) 1

unfoldable pub net_fits : Run → Bool
net_fits k = near k.first && same k.second (pos 0) && same k.third (pos 0)

unfoldable pub heaviest_fits : Run → Bool
heaviest_fits k = near k.first && (near k.second || same k.second nothing) && near k.third

unfoldable pub stamp_fits : Run → Bool
stamp_fits k = is_stamp k.first && is_stamp k.second && same k.third (pos 0) && is_odd k.first

unfoldable pub eaten_fits : Run → Bool
eaten_fits k = near k.first && near k.second && near k.third && near k.fourth && le_z k.third k.fourth

unfoldable pub numbers_fit : ℕ → Run → Bool
numbers_fit m k = cond (eqb m 1) (net_fits k) (cond (eqb m 2) (heaviest_fits k) (cond (eqb m 4) (stamp_fits k) (cond (eqb m 5) (eaten_fits k) false)))

-- `decide-run` says that it tells IsRunBytes.
unfoldable pub is_run_bytes : List ℕ → Bool
is_run_bytes b = layout_fits b 20 (run_length (mode_at b)) && numbers_fit (mode_at b) (run_at b)
