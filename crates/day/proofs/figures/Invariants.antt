-- Of the log some records are read, and the arrays stand for their hills, as long as there is no fault: specs/Loop.antt.
use Rattle.std.proofs.Common.{length}
use Rattle.day.specs.Loop.{Inv}
use Rattle.day.proofs.figures.Given as goal

abbrev pub invariant-loop-rest : goal.invariant-loop-rest
invariant-loop-rest l = Inv l.log l.rest l.t l.mid l.amounts l.held

abbrev pub decreases-loop-rest : goal.decreases-loop-rest
decreases-loop-rest l = length l.rest
