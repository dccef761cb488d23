-- The record's figure can join the level below.
use Rattle.std.proofs.Common.{refl, to_z-of_z, w64}
use Rattle.number.specs.Word.{back}
use Rattle.figure.specs.Mode.{mode_of}
use Rattle.slopes.specs.Arrays.{arrays}
use Rattle.slopes.specs.Laws.{adds, top-joins}
use Rattle.slopes.proofs.OpenAmounts.close_top.Goals as goal

pub add-requires : goal.add-requires
add-requires c =
    let s = c.args.self.now in
    rw (to_z-of_z c.ranges.mid, back w64 c.top_figure-figure.result c.top_figure-figure.type_inv)
    (adds (top-joins {M = mode_of c.args.mode} {A = arrays c.requires.left s.values s.floors s.ceilings c.args.held.now} c.requires.able c.args.top refl c.top_figure-figure.ensures))
