-- Each turn adds one size, cut to the cap.
use mathlib.Core.Path.{◌≡◌, ap, ◌∙◌}
use native.Mathlib.Omega.{arith}
use mir.Syntax.{w64}
use Rattle.number.specs.Word.{back}
use Rattle.figure.specs.Mode.{mode_of}
use Rattle.figure.specs.Stored.{size_of}
use Rattle.judge.specs.Laid.{value_in}
use Rattle.judge.proofs.Loops.{sum-start, sum-next, capped_small}
use Rattle.judge.proofs.capped_sizes.Goals as goal

pub loop-i-init : goal.loop-i-init
loop-i-init c = sum-start _ _

pub overflow_add-sum : goal.overflow_add-sum
overflow_add-sum c =
    let s = c in
    omega (arith, capped_small s.args.cap (λ k. size_of (mode_of s.args.mode) (value_in s.args.b.now s.args.at s.args.step k)) s.requires.room.each c.loop-i.i)

pub loop-i-preserved : goal.loop-i-preserved
loop-i-preserved c =
    let s = c in
    let i = c.loop-i.i in
    let z = c.read_i64 in
    let size : c.size.result ≡ size_of (mode_of s.args.mode) (value_in s.args.b.now s.args.at s.args.step i) = c.size.ensures ∙ ap (size_of (mode_of s.args.mode)) (back w64 z.result z.type_inv ∙ z.ensures) in
    sum-next _ _ i c.loop-i.invariant c.loop-i-test.true (omega (arith, c.min-sum.ensures, size))
