-- The reader cannot refuse, and each record is noted as it is read.
use mathlib.Core.Path.{refl, sym}
use native.Mathlib.Omega.{arith}
use lib.ListN.{length-drop}
use Rattle.number.specs.Laws.{part-rest}
use Rattle.record.proofs.Laws.{sound}
use Rattle.whole_log.specs.Second as second
use Rattle.heaviest_line.specs.SearchLaws.{searching-start, can-note, searching-next, found}
use Rattle.heaviest_line.proofs.ends.find_end.Goals as goal

pub loop-rest-init : goal.loop-rest-init
loop-rest-init c = searching-start c.requires _ refl refl refl

pub returns-in_default : goal.returns-in_default
returns-in_default c xs i =
    let l = c.loop-rest in
    absurd (second.not-refused l.invariant.second c.loop-rest-test.true (sym c.in_default.ensures))

pub note-s-requires : goal.note-s-requires
note-s-requires c = can-note c.loop-rest.invariant (sym c.in-Some.ensures)

pub slice_bounds-rest-count : goal.slice_bounds-rest-count
slice_bounds-rest-count c = (sound _ _ (sym c.in-Some.ensures)).inside

pub slice_bounds-rest-start : goal.slice_bounds-rest-start
slice_bounds-rest-start c = (sound _ _ (sym c.in-Some.ensures)).inside

pub loop-rest-smaller : goal.loop-rest-smaller
loop-rest-smaller c =
    let l = c.loop-rest in
    let f = c.in-Some.f in
    rw (part-rest f.length l.rest.now) (omega (arith, length-drop f.length l.rest.now, sound _ _ (sym c.in-Some.ensures)))

pub loop-rest-preserved : goal.loop-rest-preserved
loop-rest-preserved c =
    let l = c.loop-rest in
    searching-next l.invariant (sym c.in-Some.ensures) c.note-s.ensures

pub returns : goal.returns
returns c xs i = let l = c.loop-rest in found l.invariant c.loop-rest-test.false xs i
