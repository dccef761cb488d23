-- The greater of two numbers, by another test.
use Rattle.std.proofs.Common.{arith, to_z-of_z}
use Rattle.number.specs.IntegerLaws.{int_max-max_z}
use Rattle.number.proofs.max.Goals as goal

pub returns : goal.returns
returns c = grind (arith, to_z-of_z, int_max-max_z)
