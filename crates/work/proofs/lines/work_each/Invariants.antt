-- `work::lines::work_each` meets its contract: one line more at each turn.
use Rattle.work.specs.LinesLaws.{Working}
use Rattle.work.proofs.lines.work_each.Given as goal

abbrev pub invariant-loop-k : goal.invariant-loop-k
invariant-loop-k l = Working l.hills.row.now l.hills.mode l.lines l.outs l.k
