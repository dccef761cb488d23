-- The reader cannot refuse, and each record is noted as it is read.
use Rattle.std.proofs.Common.{refl, sym, ◌∙◌, arith, w64}
use Rattle.number.specs.Word.{back}
use Rattle.record.proofs.Laws.{sound}
use Rattle.whole_log.specs.Second as second
use Rattle.sheet.specs.PrintingLaws.{pass-start-none, pass-ready, pass-next, pass-end}
use Rattle.sheet.proofs.page.print.Goals as goal

pub loop-rest-init : goal.loop-rest-init
loop-rest-init c = pass-start-none c.requires refl (back w64 c.nothing.result c.nothing.type_inv ∙ c.nothing.ensures)

pub returns-in_default : goal.returns-in_default
returns-in_default c xs i =
    absurd (second.not-refused c.loop-rest.invariant.second c.loop-rest-test.true (sym c.in_default.ensures))

pub note-s-requires : goal.note-s-requires
note-s-requires c = pass-ready c.loop-rest.invariant (sym c.in-Some.ensures)

pub slice_bounds-rest-count : goal.slice_bounds-rest-count
slice_bounds-rest-count c = (sound _ _ (sym c.in-Some.ensures)).inside

pub slice_bounds-rest-start : goal.slice_bounds-rest-start
slice_bounds-rest-start c = (sound _ _ (sym c.in-Some.ensures)).inside

pub loop-rest-smaller : goal.loop-rest-smaller
loop-rest-smaller c = omega (arith, sound _ _ (sym c.in-Some.ensures))

pub loop-rest-preserved : goal.loop-rest-preserved
loop-rest-preserved c = pass-next c.loop-rest.invariant (sym c.in-Some.ensures) c.note-s.ensures

pub returns : goal.returns
returns c xs i = pass-end c.loop-rest.invariant c.loop-rest-test.false xs i
