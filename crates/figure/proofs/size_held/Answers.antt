-- The cases of the match, and a figure read back is as it is stored.
use Rattle.std.proofs.Common.{unsigned_abs, sym, ap, ◌∙◌, w64, rules}
use Rattle.number.specs.Word.{back}
use Rattle.modes.specs.Bound.{size_held}
use Rattle.figure.proofs.size_held.Goals as goal

pub returns-in-Nothing : goal.returns-in-Nothing
unfolding size_held
returns-in-Nothing c = sym (ap size_held c.in-Nothing.is)

pub returns-in-Figure : goal.returns-in-Figure
unfolding size_held
returns-in-Figure c = c.unsigned_abs.ensures.value ∙ ap unsigned_abs (back w64 c.in-Figure.x (search rules)) ∙ sym (ap size_held c.in-Figure.is)
