-- `text::count_digits` meets its contract: what is counted, with the digits of the rest, is all digits and one more.
use Rattle.text.proofs.Loops.{Counted}
use Rattle.text.proofs.count_digits.Given as goal

abbrev pub invariant-loop-left : goal.invariant-loop-left
invariant-loop-left l = Counted l.n l.left l.count

abbrev pub decreases-loop-left : goal.decreases-loop-left
decreases-loop-left l = l.left
