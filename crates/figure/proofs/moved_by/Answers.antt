-- The cases of the match: nothing stays nothing, and a figure is added to v.
use Rattle.std.proofs.Common.{sym, ap, ◌∙◌, arith, to_z-of_z, w64, rules}
use Rattle.number.specs.Word.{back}
use Rattle.modes.specs.Runs.{moved}
use Rattle.modes.specs.Bound.{size_held}
use Rattle.modes.specs.declared.Held.TheVariants.{Figure}
use Rattle.figure.proofs.moved_by.Goals as goal

pub sum-requires : goal.sum-requires
unfolding size_held
sum-requires c =
    simp (to_z-of_z c.ranges.v, back w64 c.in-Figure.a (search rules)) (omega (arith, ap size_held c.in-Figure.is))

pub returns-in-Nothing : goal.returns-in-Nothing
unfolding moved
returns-in-Nothing c = sym (ap (λ h. moved h c.args.v) c.in-Nothing.is)

pub returns-in-Figure : goal.returns-in-Figure
unfolding moved
returns-in-Figure c =
    ap Figure (back w64 c.sum.result c.sum.type_inv ∙ (simp (back w64 c.in-Figure.a (search rules), to_z-of_z c.ranges.v) at c.sum.ensures))
    ∙ sym (ap (λ h. moved h c.args.v) c.in-Figure.is)
