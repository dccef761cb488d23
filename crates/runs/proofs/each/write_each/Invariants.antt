-- `runs::each::write_each` meets its contract: one run more at each turn.
use Rattle.runs.specs.EachLaws.{Written}
use Rattle.runs.proofs.each.write_each.Given as goal

abbrev pub invariant-loop-k : goal.invariant-loop-k
invariant-loop-k l = Written l.hills.row.now l.hills.mode l.lines l.initial.out l.out l.k
