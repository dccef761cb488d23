-- `row_gate::faults::row_fault` meets its contract: one piece more is passed at each turn.
use Rattle.std.proofs.Common.{◌∙◌, arith}
use Rattle.row_gate.specs.ToldLaws.{span-start, span-blank, few-opened, span-next, span-end}
use Rattle.row_gate.proofs.faults.row_fault.Goals as goal

pub loop-note-init : goal.loop-note-init
loop-note-init c = span-start _

pub loop-note-preserved-in_default : goal.loop-note-preserved-in_default
loop-note-preserved-in_default c = span-blank _ _ _ c.loop-note.invariant c.loop-note-test.true c.in_default.is

pub pass-requires : goal.pass-requires
pass-requires c = omega (arith, c.loop-note.invariant.light, few-opened _ _ _ c.loop-note.invariant _ c.requires.few c.in-Some.is)

pub loop-note-preserved : goal.loop-note-preserved
loop-note-preserved c = span-next _ _ _ c.loop-note.invariant _ _ c.requires.few c.loop-note-test.true c.in-Some.is c.pass.ensures

pub returns : goal.returns
returns c = c.lowest.ensures ∙ span-end _ _ _ c.loop-note.invariant (omega arith)
