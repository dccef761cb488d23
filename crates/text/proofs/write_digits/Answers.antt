-- `text::write_digits` meets its contract: the digits of the rest, stored over what is written, give the whole.
use mathlib.Core.Path.{refl}
use Prim.Native.Nat.{◌/◌}
use native.Mathlib.Omega.{arith}
use Rattle.text.proofs.DecimalLaws.{digits-some}
use Rattle.text.proofs.Loops.{more-digits, write-next, write-end}
use Rattle.text.proofs.write_digits.Goals as goal

pub overflow_sub-i : goal.overflow_sub-i
overflow_sub-i c = omega (arith, digits-some c.args.n)

pub loop-rest-init : goal.loop-rest-init
loop-rest-init c =
    let some = digits-some c.args.n in
    record { place = omega arith; within = omega arith; same = refl; is = refl }

pub overflow_sub-i-in-loop-rest : goal.overflow_sub-i-in-loop-rest
overflow_sub-i-in-loop-rest c = omega (arith, more-digits c.loop-rest.rest (omega arith), digits-some (c.loop-rest.rest / 10))

pub loop-rest-preserved : goal.loop-rest-preserved
loop-rest-preserved c = write-next c.loop-rest.invariant (omega arith)

pub returns : goal.returns
returns c = record { answer = omega arith; buffer = write-end c.loop-rest.invariant (omega arith) }
