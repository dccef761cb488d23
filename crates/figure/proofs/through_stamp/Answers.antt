-- What is held is a stored stamp, so its bits are the number.
use Rattle.std.proofs.Common.{ℕ, ◌*◌, ℤ, pos, ◌+ℤ◌, ap, ◌∙◌, ap₂, to_z-of_z, w64}
use Rattle.number.specs.Integer.{wrap, up}
use Rattle.number.specs.Word.{back}
use Rattle.figure.specs.Mode.{mode_of}
use Rattle.figure.specs.Stored.{passed}
use Rattle.figure.proofs.Modes.{stamp-range, stamp-number}
use Rattle.figure.proofs.through_stamp.Goals as goal

pub to_u32-requires : goal.to_u32-requires
to_u32-requires c = simp (to_z-of_z c.ranges.held) (stamp-range c.args.held c.requires.stored)

pub returns : goal.returns
unfolding passed mode_of
returns c =
    let s = c in
    back w64 c.from.result c.from.type_inv ∙ c.from.ensures
    ∙ ap pos (c.stamp.ensures
    ∙ ap₂ (λ (v : ℤ) (t : ℕ). wrap (v +ℤ pos (31 * t))) (to_z-of_z s.ranges.value) (ap up (c.to_u32.ensures ∙ to_z-of_z s.ranges.held) ∙ stamp-number s.args.held s.requires.stored))
