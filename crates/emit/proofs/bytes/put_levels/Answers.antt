-- The four numbers are the levels, one after the other.
use Rattle.emit.specs.WriteLaws.{level-stores}
use Rattle.emit.proofs.bytes.put_levels.Goals as goal

pub returns : goal.returns
returns c =
    let a = c.args in
    level-stores a.out.now _ _ _ _ a.x a.y a.z a.opened c.write_u16.ensures c.write_u16-2.ensures c.write_u16-3.ensures
    c.write_u32.ensures
