-- The front and the levels are the whole summary.
use Rattle.emit.specs.WriteLaws.{head-written}
use Rattle.emit.proofs.bytes.write_spoilt.Goals as goal

pub returns : goal.returns
returns c =
    let a = c.args in
    head-written a.mode a.s a.out.now c.put_front.new.out _ c.number.result c.number.ensures c.requires c.put_front.ensures c.put_levels.ensures
