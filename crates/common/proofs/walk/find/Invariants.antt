-- The reader cannot refuse, and what is found is the record in common.
use lib.ListN.{length}
use Rattle.common.specs.WalkLaws.{Walking}
use Rattle.common.proofs.walk.find.Given as goal

abbrev pub invariant-loop-s : goal.invariant-loop-s
invariant-loop-s l = Walking l.log l.rest l.earlier l.later l.s l.numbers

abbrev pub decreases-loop-s : goal.decreases-loop-s
decreases-loop-s l = length l.rest
