-- `work::lines::work_each` meets its contract: one line more at each turn.
use Rattle.std.proofs.Common.{refl, arith}
use mir.Syntax.{w64}
use Rattle.number.specs.Word.{back}
use Rattle.work.specs.LinesLaws.{working-start, line-works, working-next}
use Rattle.work.proofs.lines.work_each.Goals as goal

pub loop-k-init : goal.loop-k-init
loop-k-init c = working-start _ _ c.args.lines.now c.args.outs.now (omega arith)

pub work_line-requires : goal.work_line-requires
work_line-requires c = let l = c.loop-k in line-works c.requires l.outs l.k l.invariant (omega arith) _ refl

pub loop-k-preserved : goal.loop-k-preserved
loop-k-preserved c = let l = c.loop-k in working-next c.requires l.outs l.k l.invariant (omega arith) _ refl _ _ (back w64 _ c.work_line.type_inv) c.work_line.ensures
