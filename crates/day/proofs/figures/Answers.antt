-- Each goal is a law of specs/Loop.antt: how the pass begins, goes on, is stopped, and ends.
use Rattle.std.proofs.Common.{sym, ◌∙◌, arith}
use Rattle.record.proofs.Laws.{sound}
use Rattle.chunk.specs.Chunk.{chunk_of}
use Rattle.whole_log.specs.Pass as pass
use Rattle.day.specs.DayLaws.{too_long}
use Rattle.day.specs.Loop as laws
use Rattle.day.proofs.figures.Goals as goal

pub returns-then-log-gt65536 : goal.returns-then-log-gt65536
returns-then-log-gt65536 c = sym (too_long c.args.log.now c.if-log-gt65536.true)

pub loop-rest-init : goal.loop-rest-init
loop-rest-init c = laws.begin-none c.if-log-gt65536.false c.fresh-t.ensures c.no_figures-mid.ensures

pub returns-in_default : goal.returns-in_default
returns-in_default c = sym (laws.stopped c.loop-rest.invariant (omega (arith, c.loop-rest-test.true)) (sym c.in_default.ensures))

pub note-t-requires : goal.note-t-requires
note-t-requires c =
    let i = c.loop-rest.invariant.read in
    (pass.opened-low i, pass.deep i (sym c.in-Some.ensures))

pub apply-mid-requires : goal.apply-mid-requires
apply-mid-requires c =
    let i = c.loop-rest.invariant in
    laws.ready i (sym c.in-Some.ensures) c.note-t.result (c.note-t.ensures (chunk_of i.done) i.read.tallied) c.fault_so_far.result c.fault_so_far.ensures

pub slice_bounds-rest-count : goal.slice_bounds-rest-count
slice_bounds-rest-count c = (sound _ _ (sym c.in-Some.ensures)).inside

pub slice_bounds-rest-start : goal.slice_bounds-rest-start
slice_bounds-rest-start c = (sound _ _ (sym c.in-Some.ensures)).inside

pub loop-rest-smaller : goal.loop-rest-smaller
loop-rest-smaller c = omega (arith, sound _ _ (sym c.in-Some.ensures))

pub loop-rest-preserved : goal.loop-rest-preserved
loop-rest-preserved c =
    let i = c.loop-rest.invariant in
    laws.next i (sym c.in-Some.ensures) c.note-t.result (c.note-t.ensures (chunk_of i.done) i.read.tallied) c.fault_so_far.result c.fault_so_far.ensures c.apply-mid.ensures

pub returns : goal.returns
returns c = let l = c in c.conclude.ensures ∙ sym (laws.ended l.loop-rest.invariant l.loop-rest-test.false)
