-- The four stores, one after another, put the bytes of a short open: `short-stores` of specs/StoreLaws.antt.
use mir.Facts.{to_z-of_z}
use Rattle.record_writer.specs.StoreLaws.{short-stores}
use Rattle.record_writer.proofs.write_short_open.Goals as goal

pub returns : goal.returns
returns c =
    short-stores c.args.out.now _ _ _ _ c.args.at c.args.depth c.args.value _ (to_z-of_z c.ranges.value)
    c.write_u16.ensures c.write_u16-2.ensures c.write_u16-3.ensures c.write_i32.ensures
