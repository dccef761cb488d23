-- The reader cannot refuse, and each record is noted as it is read.
use lib.ListN.{length}
use Rattle.heaviest_line.specs.SearchLaws.{Searching}
use Rattle.heaviest_line.proofs.ends.find_end.Given as goal

abbrev pub invariant-loop-rest : goal.invariant-loop-rest
invariant-loop-rest l = Searching l.log l.rest l.s l.sums

abbrev pub decreases-loop-rest : goal.decreases-loop-rest
decreases-loop-rest l = length l.rest
