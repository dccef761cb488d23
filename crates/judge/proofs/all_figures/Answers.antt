-- Each turn judges one value.
use mathlib.Core.Path.{ap, ◌∙◌}
use lib.IntN.{ℤ}
use mir.Syntax.{w64}
use Rattle.number.specs.Word.{back}
use Rattle.figure.specs.Mode.{mode_of}
use Rattle.judge.proofs.Loops.{all_start, all-next}
use Rattle.judge.proofs.all_figures.Goals as goal

pub loop-i-init : goal.loop-i-init
loop-i-init c = all_start _ _

pub loop-i-preserved : goal.loop-i-preserved
loop-i-preserved c =
    let s = c in
    let i = c.loop-i.i in
    let z = c.read_i64 in
    all-next _ _ i c.loop-i.invariant c.loop-i-test.true (c.is_figure-all.ensures ∙ ap (λ (x : ℤ). (mode_of s.args.mode).is_figure x) (back w64 z.result z.type_inv ∙ z.ensures))
