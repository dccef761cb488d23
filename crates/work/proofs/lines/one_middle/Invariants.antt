-- `work::lines::one_middle` meets its contract: blanks are passed, up to the first hill.
use Rattle.work.specs.LinesLaws.{Seeking}
use Rattle.work.proofs.lines.one_middle.Given as goal

abbrev pub invariant-loop-k : goal.invariant-loop-k
invariant-loop-k l = Seeking l.hills.row.now l.hills.count l.hills.mode l.k
