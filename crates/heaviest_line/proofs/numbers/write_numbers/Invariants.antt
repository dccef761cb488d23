-- The reader cannot refuse, and the end of the line is met.
use lib.ListN.{length}
use Rattle.heaviest_line.specs.NumberingLaws.{NumberingTo}
use Rattle.heaviest_line.proofs.numbers.write_numbers.Given as goal

abbrev pub invariant-loop-number : goal.invariant-loop-number
invariant-loop-number l = NumberingTo l.log l.rest l.upto l.depth l.initial.out l.number l.out

abbrev pub decreases-loop-number : goal.decreases-loop-number
decreases-loop-number l = length l.rest
