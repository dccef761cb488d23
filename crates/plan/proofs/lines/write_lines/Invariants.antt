-- `plan::lines::write_lines` meets its contract: one line more at each turn.
use Rattle.std.proofs.Common.{◌≡◌, take}
use Rattle.std.proofs.lemmas.List.Edits.{sets}
use Rattle.outcome.specs.Outcomes.{lines_bytes}
use Rattle.row_plan.specs.Arrays.{lines_in}
use Rattle.plan.proofs.lines.write_lines.Given as goal

abbrev pub invariant-loop-k : goal.invariant-loop-k
invariant-loop-k l = l.out ≡ sets l.initial.out 0 (lines_bytes (lines_in (take l.k l.lines)))
