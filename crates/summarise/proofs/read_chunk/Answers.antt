-- Each turn takes the record that is read; the laws of the invariant are in `ScanLaws`.
use Rattle.std.proofs.Common.{sym, ◌∙◌, arith, w64}
use Rattle.number.specs.Word.{back}
use Rattle.record.proofs.Laws.{sound}
use Rattle.record.proofs.Handed.{unreadable, finished}
use Rattle.figure.specs.Mode.{mode_of}
use Rattle.chunk.specs.Chunk.{chunk_of}
use Rattle.summarise.specs.ScanLaws.{begin, opened-low, in-range, grows, again}
use Rattle.summarise.proofs.read_chunk.Goals as goal

pub loop-rest-init : goal.loop-rest-init
loop-rest-init c = begin (mode_of c.args.mode) _ _ _ _ c.requires.arrays64 (back w64 c.nothing.result c.nothing.type_inv ∙ c.nothing.ensures) c.fresh-t.ensures

pub returns-in_default : goal.returns-in_default
returns-in_default c = unreadable c.loop-rest.invariant.handed (omega (arith, c.loop-rest-test.true)) (sym c.in_default.ensures)

pub note-t-requires : goal.note-t-requires
note-t-requires c =
    let i = c.loop-rest.invariant in
    let M = mode_of c.args.mode in
    let short = c.requires.chunk_len_bound in
    (opened-low M i short, (in-range M i short _ (sym c.in-Some.ensures)).0)

pub grow-c-requires : goal.grow-c-requires
grow-c-requires c =
    let i = c.loop-rest.invariant in
    grows (mode_of c.args.mode) i c.requires.chunk_len_bound _ (sym c.in-Some.ensures) c.note-t.result (c.note-t.ensures (chunk_of i.done) i.summed.tallied)

pub slice_bounds-rest-count : goal.slice_bounds-rest-count
slice_bounds-rest-count c = (sound _ _ (sym c.in-Some.ensures)).inside

pub slice_bounds-rest-start : goal.slice_bounds-rest-start
slice_bounds-rest-start c = (sound _ _ (sym c.in-Some.ensures)).inside

pub loop-rest-smaller : goal.loop-rest-smaller
loop-rest-smaller c = omega (arith, sound _ _ (sym c.in-Some.ensures))

pub loop-rest-preserved : goal.loop-rest-preserved
loop-rest-preserved c =
    let i = c.loop-rest.invariant in
    again (mode_of c.args.mode) i c.requires.chunk_len_bound _ (sym c.in-Some.ensures) c.note-t.result (c.note-t.ensures (chunk_of i.done) i.summed.tallied) c.grow-c.ensures

pub returns : goal.returns
returns c =
    let i = c.loop-rest.invariant in
    (i.done, finished i.handed c.loop-rest-test.false, i.summed)
