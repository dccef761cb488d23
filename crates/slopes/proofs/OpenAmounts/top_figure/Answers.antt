-- What the code reads is what stands at the index.
use Rattle.std.proofs.Common.{◌<◌, ◌^◌, refl, w32, w64, rules}
use Rattle.std.specs.Int.Signed.{mag}
use Rattle.number.specs.Word.{back}
use Rattle.figure.specs.Mode.{mode_of}
use Rattle.slopes.specs.Arrays.{arrays, at}
use Rattle.slopes.specs.Laws.{top-passes}
use Rattle.slopes.proofs.OpenAmounts.top_figure.Goals as goal

pub through-requires : goal.through-requires
through-requires c =
    let s = c.args.self.now in
    let v : mag (at c.args.self.now.values c.args.top) < 2 ^ 31 = search rules in
    let h : mag (at c.args.held.now c.args.top) < 2 ^ 63 = search rules in
    rw (back w32 (at s.values c.args.top) v, back w64 (at c.args.held.now c.args.top) h)
    (top-passes {M = mode_of c.args.mode} {A = arrays c.requires.1.left s.values s.floors s.ceilings c.args.held.now} c.requires.1.able c.args.top refl)
