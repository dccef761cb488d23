-- The three numbers are the front, one after the other.
use Rattle.emit.specs.WriteLaws.{front-stores}
use Rattle.emit.proofs.bytes.put_front.Goals as goal

pub returns : goal.returns
returns c =
    let a = c.args in
    front-stores a.out.now _ _ _ a.n a.kind a.mode c.write_u16.ensures c.write_u16-2.ensures c.write_u16-3.ensures
