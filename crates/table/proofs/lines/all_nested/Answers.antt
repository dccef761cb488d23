-- What is left to ask are the lines after one of depth `before`.
use mathlib.Core.Path.{sym, ap, ◌∙◌}
use native.Mathlib.Omega.{arith}
use lib.ListN.{length}
use Rattle.table.specs.LoopLaws.{cut, nested-none, nested-not, nested-first, after_none, after-not, after_first}
use Rattle.table.proofs.lines.all_nested.Goals as goal

pub returns-in_default : goal.returns-in_default
returns-in_default c =
    let n = c.chunks_exact-lines.ensures in
    sym (nested-none _ (omega (arith, c.in_default.ensures.steps.1.0, ap length n.rest, n.size)))

pub returns-then-read_u16-ne0 : goal.returns-then-read_u16-ne0
returns-then-read_u16-ne0 c =
    let n = c.chunks_exact-lines.ensures in
    let e = c.in-Some.ensures.steps in
    sym (nested-not (cut (sym n.rest ∙ e.1.0) e.1.1 n.size) (λ z. c.if-read_u16-ne0.true (c.read_u16.ensures ∙ z)))

pub loop-line-init : goal.loop-line-init
loop-line-init c =
    let n = c.chunks_exact-lines.ensures in
    let e = c.in-Some.ensures.steps in
    rw c.into_iter-line-iterator.ensures.into_iter_gives
    record { lines = nested-first (cut (sym n.rest ∙ e.1.0) e.1.1 n.size) (sym c.read_u16.ensures ∙ c.if-read_u16-ne0.false); size = e.0 ∙ n.size; low = omega arith }

pub returns-then-not-depth-before : goal.returns-then-not-depth-before
returns-then-not-depth-before c =
    let i = c.loop-line.invariant in
    let e = c.in-Some-line.ensures.steps in
    sym (i.lines ∙ after-not (cut e.1.0 e.1.1 i.size) _ _ (c.from-depth.ensures ∙ c.read_u16-in-loop-line.ensures) c.if-not-depth-before.true)

pub loop-line-preserved : goal.loop-line-preserved
loop-line-preserved c =
    let i = c.loop-line.invariant in
    let e = c.in-Some-line.ensures.steps in
    record { lines = i.lines ∙ after_first (cut e.1.0 e.1.1 i.size) _ _ (c.from-depth.ensures ∙ c.read_u16-in-loop-line.ensures) c.if-not-depth-before.false; size = e.0 ∙ i.size; low = omega (arith, c.from-depth.ensures, c.read_u16-in-loop-line.type_inv) }

pub returns : goal.returns
returns c = let i = c.loop-line.invariant in let e = c.in-None.ensures.steps in sym (i.lines ∙ after_none _ (omega (arith, e.1.0, i.size)) _)
