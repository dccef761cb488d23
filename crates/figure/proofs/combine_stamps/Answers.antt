-- Two stamps add up modulo 2^32.
use Rattle.std.proofs.Common.{ℕ, ◌+◌, ◌%◌, ◌^◌, pos, ap, ◌∙◌, ap₂, to_z-of_z, w64}
use native.Mathlib.Nat.{add-mod}
use Rattle.number.specs.Integer.{up}
use Rattle.number.specs.Word.{back}
use Rattle.figure.specs.Mode.{mode_of}
use Rattle.figure.specs.Stored.{combined}
use Rattle.figure.proofs.Modes.{stamp-range}
use Rattle.figure.proofs.combine_stamps.Goals as goal

pub to_u32-requires : goal.to_u32-requires
to_u32-requires c = simp (to_z-of_z c.ranges.a) (stamp-range c.args.a c.requires.first)

pub to_u32-requires-2 : goal.to_u32-requires-2
to_u32-requires-2 c = simp (to_z-of_z c.ranges.b) (stamp-range c.args.b c.requires.second)

pub returns : goal.returns
unfolding combined mode_of
returns c =
    back w64 c.from.result c.from.type_inv ∙ c.from.ensures
    ∙ ap pos (ap₂ (λ (x y : ℕ). (x + y) % 2 ^ 32) (ap up (c.to_u32.ensures ∙ to_z-of_z c.ranges.a)) (ap up (c.to_u32-2.ensures ∙ to_z-of_z c.ranges.b))
    ∙ add-mod (up c.args.a) (up c.args.b) (2 ^ 32))
