-- `plan::lines::write_lines` meets its contract: one line more at each turn.
use Rattle.std.proofs.Common.{arith}
use Rattle.plan.specs.LinesLaws.{lines_next}
use Rattle.plan.proofs.lines.write_lines.Goals as goal

pub loop-k-preserved : goal.loop-k-preserved
loop-k-preserved c =
    let l = c.loop-k in
    lines_next c.args.lines.now l.k (omega arith) _ c.args.out.now l.out _ l.invariant c.write_line.ensures
