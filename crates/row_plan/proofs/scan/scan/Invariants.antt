-- `row_plan::scan::scan` meets its contract: the lines of the chunks passed are kept, and the depths that they leave open are noted.
use Rattle.row_plan.specs.Arrays.{levels_at, DepthsNoted}
use Rattle.row_plan.specs.ScanLaws.{Scanning}
use Rattle.row_plan.proofs.scan.scan.Given as goal

abbrev pub invariant-loop-j : goal.invariant-loop-j
invariant-loop-j l = Scanning (levels_at l.notes) l.lines l.n l.j × DepthsNoted l.notes l.depths l.j
