-- Both are read back, added up and stored.
use Rattle.std.proofs.Common.{◌+ℤ◌, ap, ◌∙◌, ap₂, arith, to_z-of_z, w64}
use Rattle.number.specs.Word.{back}
use Rattle.modes.specs.FourModes.{lift, read_held, store_held}
use Rattle.figure.specs.Mode.{mode_of}
use Rattle.figure.specs.Stored.{size_of, combined}
use Rattle.modes.specs.Bound.{size_held}
use Rattle.figure.proofs.combine_eaten.Goals as goal

pub sum_held-requires : goal.sum_held-requires
unfolding size_of mode_of
sum_held-requires c =
    let s = c in
    omega (arith, s.requires.room, ap size_held (c.read_held.ensures ∙ ap read_held (to_z-of_z s.ranges.a)), ap size_held (c.read_held-2.ensures ∙ ap read_held (to_z-of_z s.ranges.b)))

pub returns : goal.returns
unfolding combined mode_of
returns c =
    let s = c in
    back w64 c.store_held.result c.store_held.type_inv ∙ c.store_held.ensures
    ∙ ap store_held (c.sum_held.ensures
    ∙ ap₂ (lift ◌+ℤ◌) (c.read_held.ensures ∙ ap read_held (to_z-of_z s.ranges.a)) (c.read_held-2.ensures ∙ ap read_held (to_z-of_z s.ranges.b)))
