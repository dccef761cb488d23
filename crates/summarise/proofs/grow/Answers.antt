-- The record's numbers are those that the code reads.
use Rattle.std.proofs.Common.{◌≡◌, rules, w32, to_z, of_z}
use Rattle.figure.specs.Mode.{mode_of}
use Rattle.slopes.specs.Arrays.{slopes_of}
use Rattle.slopes.specs.Kept.{arrays_of}
use Rattle.record.specs.Record.{is_open}
use Rattle.summarise.specs.ScanLaws.{taken}
use Rattle.summarise.proofs.grow.Goals as goal

pub returns : goal.returns
returns c e =
    let a = c.args in
    let v : to_z w32 (of_z w32 a.f.value) ≡ a.f.value = search rules in
    let w : to_z w32 (of_z w32 a.f.floor) ≡ a.f.floor = search rules in
    let x : to_z w32 (of_z w32 a.f.ceiling) ≡ a.f.ceiling = search rules in
    let o : c.eq.result ≡ is_open a.f.kind = search rules in
    taken {A' = arrays_of c.apply.new.self} (slopes_of (mode_of a.mode) (arrays_of a.slopes.now) a.c) a.f v w x (rw o at c.apply.ensures _)
