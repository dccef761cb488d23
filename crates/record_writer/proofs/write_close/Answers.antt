-- The three stores, one after another, put the bytes of a close: `close-stores` of specs/StoreLaws.antt.
use Rattle.record_writer.specs.StoreLaws.{close-stores}
use Rattle.record_writer.proofs.write_close.Goals as goal

pub returns : goal.returns
returns c =
    close-stores c.args.out.now _ _ _ c.args.at c.args.depth c.write_u16.ensures c.write_u16-2.ensures c.write_u16-3.ensures
