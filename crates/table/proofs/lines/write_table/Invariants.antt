-- The log is read up to `rest`, and the lines of what was read stand in the buffer.
use lib.ListN.{length}
use Rattle.table.specs.LoopLaws.{TableSoFar}
use Rattle.table.proofs.lines.write_table.Given as goal

abbrev pub invariant-loop-rest : goal.invariant-loop-rest
invariant-loop-rest l = TableSoFar l.log l.rest l.initial.out l.at l.out

abbrev pub decreases-loop-rest : goal.decreases-loop-rest
decreases-loop-rest l = length l.rest
