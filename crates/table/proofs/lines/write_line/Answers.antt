-- The four stores are those of a line.
use mir.Facts.{to_z-of_z}
use Rattle.table.specs.StoreLaws.{line-stores}
use Rattle.table.proofs.lines.write_line.Goals as goal

pub returns : goal.returns
returns c =
    let a = c in
    line-stores a.args.out.now _ _ _ _ a.args.at a.args.depth a.args.value a.args.floor a.args.ceiling _ _ _
    (to_z-of_z a.ranges.value) (to_z-of_z a.ranges.floor) (to_z-of_z a.ranges.ceiling)
    c.write_u16.ensures c.write_i32.ensures c.write_i32-2.ensures c.write_i32-3.ensures
