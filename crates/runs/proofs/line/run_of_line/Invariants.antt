-- `runs::line::run_of_line` meets its contract: one level more around the run at each turn.
use Rattle.runs.specs.LineLaws.{Passed}
use Rattle.runs.proofs.line.run_of_line.Given as goal

abbrev pub invariant-loop-depth : goal.invariant-loop-depth
invariant-loop-depth l = Passed l.row l.mode l.opener l.closer l.low l.high l.run l.depth
