-- The cases of the match: a value alone, or the sum of value and figure, which fits.
use Rattle.std.proofs.Common.{sym, ap, ◌∙◌, arith, to_z-of_z, w64, rules}
use Rattle.number.specs.Word.{back}
use Rattle.modes.specs.FourModes.{line_of}
use Rattle.modes.specs.Bound.{size_held}
use Rattle.figure.proofs.line.Goals as goal

pub sum-requires : goal.sum-requires
unfolding size_held
sum-requires c =
    simp (to_z-of_z c.ranges.value, back w64 c.in-Figure.x (search rules)) (omega (arith, ap size_held c.in-Figure.is))

pub returns-in-Nothing : goal.returns-in-Nothing
unfolding line_of
returns-in-Nothing c = to_z-of_z c.ranges.value ∙ sym (ap (line_of c.args.value) c.in-Nothing.is)

pub returns-in-Figure : goal.returns-in-Figure
unfolding line_of
returns-in-Figure c =
    back w64 c.sum.result c.sum.type_inv
    ∙ (simp (to_z-of_z c.ranges.value, back w64 c.in-Figure.x (search rules)) at c.sum.ensures)
    ∙ sym (ap (line_of c.args.value) c.in-Figure.is)
