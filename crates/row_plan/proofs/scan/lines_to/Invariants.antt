-- `row_plan::scan::lines_to` meets its contract: what is kept, with the lines still to come, stays the same.
use Rattle.std.proofs.Common.{◌++◌, ◌≤◌, take}
use Rattle.row_gate.specs.Notes.{no_peak}
use Rattle.row_plan.specs.Arrays.{lines_in, lines_to_at}
use Rattle.row_plan.specs.ScanLaws.{Walking}
use Rattle.row_plan.proofs.scan.lines_to.Given as goal

abbrev pub invariant-loop-i : goal.invariant-loop-i
invariant-loop-i l = Walking l.notes l.j (lines_in (take l.n l.initial.lines) ++ lines_to_at l.notes l.j) l.lines l.hill.peak l.m l.i l.k × (l.m ≤ no_peak)
