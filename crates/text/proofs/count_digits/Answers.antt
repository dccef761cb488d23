-- `text::count_digits` meets its contract: what is counted, with the digits of the rest, is all digits and one more.
use native.Mathlib.Omega.{arith}
use Rattle.text.proofs.DecimalLaws.{digits-some, digits-length}
use Rattle.text.proofs.Loops.{count_next, count-end}
use Rattle.text.proofs.count_digits.Goals as goal

pub overflow_add-count : goal.overflow_add-count
overflow_add-count c =
    record { fits = omega (arith, digits-some c.loop-left.left, digits-length 19 c.args.n (omega arith)) }

pub loop-left-preserved : goal.loop-left-preserved
loop-left-preserved c = count_next c.loop-left.invariant (omega arith)

pub returns : goal.returns
returns c = count-end c.loop-left.invariant (omega arith)
