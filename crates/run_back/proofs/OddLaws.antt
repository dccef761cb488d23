-- The test of odd numbers tells which are odd. Assumes nothing.
use Rattle.std.specs.Prelude.{◌≡◌, ◌%◌, ℤ, nat_abs}
use Rattle.summary.proofs.Tests.{Tells, tells-eq}
use Rattle.run_back.specs.Decide.{is_odd}

pub tells-odd : (z : ℤ) → Tells (nat_abs z % 2 ≡ 1) (is_odd z)
tells-odd z = tells-eq (nat_abs z % 2) 1
