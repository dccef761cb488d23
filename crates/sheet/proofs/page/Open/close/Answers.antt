-- The record's figure joins the level below.
use Rattle.std.proofs.Common.{◌<◌, ◌^◌, refl, rules, w64}
use Rattle.std.specs.Int.Signed.{mag}
use Rattle.number.specs.Word.{back}
use Rattle.figure.specs.Mode.{mode_of}
use Rattle.slopes.specs.Arrays.{arrays}
use Rattle.slopes.specs.Laws.{adds, top-joins}
use Rattle.sheet.proofs.page.Open.close.Goals as goal

pub add-middle-requires : goal.add-middle-requires
add-middle-requires c =
    let a = c.args.self.now.amounts in
    let t = c.top_figure-figure in
    let m : mag c.args.s.middle < 2 ^ 63 = search rules in
    rw (back w64 c.args.s.middle m, back w64 t.result t.type_inv)
    (adds (top-joins {M = mode_of c.args.page.mode} {A = arrays c.requires.top.left a.values a.floors a.ceilings c.args.self.now.held} c.requires.top.able c.args.depth refl t.ensures))
