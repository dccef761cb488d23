-- The value is as it was before it was widened.
use Rattle.std.proofs.Common.{to_z-of_z}
use Rattle.number.specs.Word.{widened}
use Rattle.figure.specs.Mode.{mode_of}
use Rattle.figure.specs.Stored.{size_of}
use Rattle.figure.proofs.through_net.Goals as goal

pub sum-requires : goal.sum-requires
unfolding size_of mode_of
sum-requires c =
    simp (widened c.from.result c.args.value c.from.type_inv c.from.ensures c.ranges.value, to_z-of_z c.ranges.held) c.requires.room
