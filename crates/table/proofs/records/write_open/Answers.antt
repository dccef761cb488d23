-- The two stores and the line are those of an open.
use mir.Facts.{to_z-of_z}
use Rattle.table.specs.StoreLaws.{open-stores}
use Rattle.table.proofs.records.write_open.Goals as goal

pub returns : goal.returns
returns c =
    let a = c in
    open-stores a.args.out.now _ _ _ a.args.at a.args.depth a.args.value a.args.floor a.args.ceiling _ _ _
    (to_z-of_z a.ranges.value) (to_z-of_z a.ranges.floor) (to_z-of_z a.ranges.ceiling) c.write_u16.ensures c.write_u16-2.ensures c.write_line.ensures
