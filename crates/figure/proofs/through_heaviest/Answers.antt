-- The value is as it was before it was widened, and what is held is as it was stored.
use Rattle.std.proofs.Common.{ap, ◌∙◌, arith, to_z-of_z}
use Rattle.number.specs.Word.{widened}
use Rattle.modes.specs.FourModes.{read_held}
use Rattle.modes.specs.Bound.{size_held}
use Rattle.figure.specs.Mode.{mode_of}
use Rattle.figure.specs.Stored.{size_of}
use Rattle.figure.proofs.through_heaviest.Goals as goal

pub line-requires : goal.line-requires
unfolding size_of mode_of
line-requires c =
    let v = widened c.from.result c.args.value c.from.type_inv c.from.ensures c.ranges.value in
    let h = c.read_held.ensures ∙ ap read_held (to_z-of_z c.ranges.held) in
    simp v (omega (arith, c.requires.room, ap size_held h))
