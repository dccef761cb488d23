-- The front, the levels, the left values, the middle and the records are written one after the other.
use Rattle.std.proofs.Common.{refl, ◌<◌, ◌^◌, w64}
use Rattle.std.specs.Int.Signed.{mag}
use Rattle.number.specs.Word.{back}
use Rattle.slopes.specs.Kept.{arrays_of}
use Rattle.emit.specs.WriteLaws.{hill-written}
use borrow.Author.Rules.{rules}
use Rattle.emit.proofs.bytes.write_hill.Goals as goal

pub returns : goal.returns
returns c =
    let a = c.args in
    let m : mag a.c.mid < 2 ^ 63 = search rules in
    hill-written a.mode a.peak a.opened (arrays_of a.slopes.now) a.c a.out.now c.requires
    c.put_front.new.out c.put_levels.new.out c.put_numbers.new.out c.write_i64.new.s _ _ _ _ _ _
    refl refl refl refl (back w64 a.c.mid m)
    c.put_front.ensures c.put_levels.ensures c.put_numbers.ensures c.write_i64.ensures c.put_records.ensures
