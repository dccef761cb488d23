-- The digits, and one byte for a minus.
use Rattle.std.proofs.Common.{length, ap, arith, to_z-of_z}
use Rattle.text.proofs.DecimalLaws.{digits-length}
use Rattle.text.proofs.Magnitude.{plain, minus}
use Rattle.text.proofs.decimal_length.Goals as goal

pub overflow_add-result : goal.overflow_add-result
overflow_add-result c = record { fits = omega (arith, digits-length 19 c.unsigned_abs.result (omega arith)) }

pub returns-then-x-lt0 : goal.returns-then-x-lt0
returns-then-x-lt0 c =
    omega (arith, ap length (minus c.args.x (to_z-of_z c.ranges.x) c.unsigned_abs.ensures.value c.if-x-lt0.true))

pub returns-else-x-lt0 : goal.returns-else-x-lt0
returns-else-x-lt0 c =
    omega (arith, ap length (plain c.args.x (to_z-of_z c.ranges.x) c.unsigned_abs.ensures.value c.if-x-lt0.false))
