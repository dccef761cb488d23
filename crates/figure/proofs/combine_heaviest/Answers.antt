-- The greater of the two numbers as they are stored, since nothing is the least.
use Rattle.std.proofs.Common.{sym, ◌∙◌, to_z-of_z, w64}
use Rattle.number.specs.Word.{back}
use Rattle.figure.specs.Mode.{mode_of}
use Rattle.modes.proofs.StoreLaws.{held-max}
use Rattle.figure.specs.Stored.{combined}
use Rattle.figure.proofs.combine_heaviest.Goals as goal

pub returns : goal.returns
unfolding combined mode_of
returns c =
    let s = c in
    back w64 c.max.result c.max.type_inv ∙ (simp (to_z-of_z s.ranges.a, to_z-of_z s.ranges.b) at c.max.ensures)
    ∙ sym (held-max s.args.a s.args.b s.ranges.a s.ranges.b)
