-- The four numbers are written one after the other, each from where the last ends.
use mir.Facts.{to_z-of_z}
use Rattle.emit.specs.WriteLaws.{record-stores}
use Rattle.emit.proofs.bytes.put_record.Goals as goal

pub returns : goal.returns
returns c =
    let a = c in
    record-stores a.args.out.now c.write_i32.new.s c.write_i32-2.new.s c.write_i32-3.new.s _ a.args.at
    a.args.value a.args.floor a.args.ceiling a.args.held _ _ _ _
    (to_z-of_z a.ranges.value) (to_z-of_z a.ranges.floor) (to_z-of_z a.ranges.ceiling) (to_z-of_z a.ranges.held)
    c.write_i32.ensures c.write_i32-2.ensures c.write_i32-3.ensures c.write_i64.ensures
