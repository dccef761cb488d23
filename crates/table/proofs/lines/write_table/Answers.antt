-- Each turn writes the line of the record that is read; the reader cannot refuse.
use mathlib.Core.Path.{sym}
use native.Mathlib.Omega.{arith}
use lib.ListN.{length-drop}
use Rattle.number.specs.Laws.{part-rest}
use Rattle.record.proofs.Laws.{sound}
use Rattle.record.proofs.Readable.{not-refused}
use Rattle.table.specs.LoopLaws.{table-begun, line-room, table-next, all-written, no_bytes}
use Rattle.table.proofs.lines.write_table.Goals as goal

pub loop-rest-init : goal.loop-rest-init
loop-rest-init c = let p = c.requires in table-begun p.is p.fits

pub returns-in_default : goal.returns-in_default
returns-in_default c xs i =
    let l = c.loop-rest in
    absurd (not-refused l.rest.now l.invariant.unread c.loop-rest-test.true (sym c.in_default.ensures))

pub write_line_of-at-requires : goal.write_line_of-at-requires
write_line_of-at-requires c = line-room c.loop-rest.invariant (sym c.in-Some.ensures)

pub slice_bounds-rest-count : goal.slice_bounds-rest-count
slice_bounds-rest-count c = (sound _ _ (sym c.in-Some.ensures)).inside

pub slice_bounds-rest-start : goal.slice_bounds-rest-start
slice_bounds-rest-start c = (sound _ _ (sym c.in-Some.ensures)).inside

pub loop-rest-smaller : goal.loop-rest-smaller
loop-rest-smaller c =
    let l = c.loop-rest in
    let f = c.in-Some.f in
    rw (part-rest f.length l.rest.now) (omega (arith, length-drop f.length l.rest.now, sound _ _ (sym c.in-Some.ensures)))

pub loop-rest-preserved : goal.loop-rest-preserved
loop-rest-preserved c =
    let l = c.loop-rest in
    let f = c.in-Some.f in
    rw (part-rest f.length l.rest.now) (table-next l.invariant (sym c.in-Some.ensures) c.write_line_of-at.ensures)

pub returns : goal.returns
returns c xs i = let l = c.loop-rest in all-written l.invariant (no_bytes l.rest.now c.loop-rest-test.false) xs i
