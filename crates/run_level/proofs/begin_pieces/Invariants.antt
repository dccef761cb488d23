-- `run_level::begin_pieces` meets its contract: each turn notes where the next piece begins.
use Rattle.run_level.specs.Laws.{Beginning}
use Rattle.run_level.proofs.begin_pieces.Given as goal

abbrev pub invariant-loop-k : goal.invariant-loop-k
invariant-loop-k l = Beginning l.row l.ats l.at l.k
