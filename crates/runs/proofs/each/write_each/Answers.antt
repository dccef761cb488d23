-- `runs::each::write_each` meets its contract: one run more at each turn.
use Rattle.std.proofs.Common.{ℕ, ◌*◌, ap, refl, arith}
use Rattle.runs.specs.EachLaws.{none_written, one_written, all_written}
use Rattle.runs.proofs.each.write_each.Goals as goal

pub loop-k-init : goal.loop-k-init
loop-k-init c = none_written _ _ _ _

pub one_run-requires : goal.one_run-requires
one_run-requires c = record { lines = c.args.lines.now; whole = c.requires.lines; k = c.loop-k.k; inside = omega arith; is = refl }

pub loop-k-preserved : goal.loop-k-preserved
loop-k-preserved c =
    let a = c.args in
    let l = c.loop-k in
    one_written a.hills.row.now a.hills.mode a.lines.now l.k (omega arith) _ a.out.now l.out _ _ _ l.invariant c.one_run.ensures (ap (λ (b : ℕ). b * l.k) c.run_length-bytes.ensures) c.write_run.ensures

pub returns : goal.returns
returns c = all_written _ _ _ _ _ _ c.loop-k.invariant (omega arith)
