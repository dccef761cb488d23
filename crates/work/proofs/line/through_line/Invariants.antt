-- `work::line::through_line` meets its contract: each turn goes through one level, the deepest first.
use Rattle.work.specs.LineLaws.{Going}
use Rattle.work.proofs.line.through_line.Given as goal

abbrev pub invariant-loop-depth : goal.invariant-loop-depth
invariant-loop-depth l = Going l.row l.mode l.opener l.closer l.low l.high l.x l.y l.depth

abbrev pub decreases-loop-depth : goal.decreases-loop-depth
decreases-loop-depth l = l.depth
