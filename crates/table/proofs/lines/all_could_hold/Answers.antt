-- What is left to ask are the lines still to come.
use mathlib.Core.Path.{sym, ◌∙◌}
use native.Mathlib.Omega.{arith}
use Rattle.table.specs.LoopLaws.{cut, readable-none, readable-first, readable-not}
use Rattle.table.proofs.lines.all_could_hold.Goals as goal

pub returns-then-not-could_hold : goal.returns-then-not-could_hold
returns-then-not-could_hold c =
    let i = c.loop-line.invariant in
    let e = c.in-Some.ensures.steps in
    sym (i.lines ∙ readable-not (cut e.1.0 e.1.1 i.size) (sym c.could_hold.ensures ∙ c.if-not-could_hold.true))

pub loop-line-preserved : goal.loop-line-preserved
loop-line-preserved c =
    let i = c.loop-line.invariant in
    let e = c.in-Some.ensures.steps in
    record { lines = i.lines ∙ readable-first (cut e.1.0 e.1.1 i.size) (sym c.could_hold.ensures ∙ c.if-not-could_hold.false); size = e.0 ∙ i.size }

pub returns : goal.returns
returns c = let i = c.loop-line.invariant in let e = c.in-None.ensures.steps in sym (i.lines ∙ readable-none _ (omega (arith, e.1.0, i.size)))
