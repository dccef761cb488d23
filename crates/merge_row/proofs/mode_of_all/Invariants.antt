-- Each turn passes one piece.
use Rattle.merge_row.specs.RowAsks.{Passed}
use lib.ListN.{length}
use Rattle.merge_row.proofs.mode_of_all.Given as goal

abbrev pub invariant-loop-rest : goal.invariant-loop-rest
invariant-loop-rest l = Passed l.pieces l.rest l.mode l.same

abbrev pub decreases-loop-rest : goal.decreases-loop-rest
decreases-loop-rest l = length l.rest
