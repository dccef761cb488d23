-- `text::write_digits` meets its contract: the digits of the rest, stored over what is written, give the whole.
use Rattle.text.proofs.Loops.{Writing}
use Rattle.text.proofs.write_digits.Given as goal

abbrev pub invariant-loop-rest : goal.invariant-loop-rest
invariant-loop-rest l = Writing l.initial.out l.at l.n l.out l.i l.rest

abbrev pub decreases-loop-rest : goal.decreases-loop-rest
decreases-loop-rest l = l.rest
