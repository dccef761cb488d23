-- The reader cannot refuse, and what is found is the record in common.
use mathlib.Core.Path.{refl, sym}
use native.Mathlib.Omega.{arith}
use lib.ListN.{length-drop}
use Rattle.number.specs.Laws.{part-rest}
use Rattle.record.proofs.Laws.{sound}
use Rattle.whole_log.specs.Second as second
use Rattle.common.specs.WalkLaws.{walking_start, some_left, can-note, walking-next, found, found-common}
use Rattle.common.proofs.walk.find.Goals as goal

pub loop-s-init : goal.loop-s-init
loop-s-init c = walking_start c.requires refl refl

pub returns-in_default : goal.returns-in_default
returns-in_default c xs i =
    let l = c.loop-s in
    absurd (second.not-refused l.invariant.second (some_left l.invariant c.loop-s-test.true) (sym c.in_default.ensures))

pub note-s-requires : goal.note-s-requires
note-s-requires c = can-note c.loop-s.invariant c.loop-s-test.true (sym c.in-Some.ensures)

pub slice_bounds-rest-count : goal.slice_bounds-rest-count
slice_bounds-rest-count c = (sound _ _ (sym c.in-Some.ensures)).inside

pub slice_bounds-rest-start : goal.slice_bounds-rest-start
slice_bounds-rest-start c = (sound _ _ (sym c.in-Some.ensures)).inside

pub loop-s-smaller : goal.loop-s-smaller
loop-s-smaller c =
    let l = c.loop-s in
    let f = c.in-Some.f in
    rw (part-rest f.length l.rest.now) (omega (arith, length-drop f.length l.rest.now, sound _ _ (sym c.in-Some.ensures)))

pub loop-s-preserved : goal.loop-s-preserved
loop-s-preserved c =
    let l = c.loop-s in
    walking-next l.invariant c.loop-s-test.true (sym c.in-Some.ensures) c.note-s.ensures

pub overflow_sub-deepest : goal.overflow_sub-deepest
overflow_sub-deepest c = (found c.loop-s.invariant c.loop-s-test.false).some

pub bounds-numbers-deepest : goal.bounds-numbers-deepest
bounds-numbers-deepest c = let w = found c.loop-s.invariant c.loop-s-test.false in omega (arith, w.some, w.few)

pub returns : goal.returns
returns c xs i = let l = c.loop-s in found-common l.invariant c.loop-s-test.false xs i
