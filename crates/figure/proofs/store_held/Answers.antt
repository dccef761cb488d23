-- The cases of the match, and a figure read back is as it is stored.
use Rattle.std.proofs.Common.{sym, ap, ◌∙◌, w64, rules}
use Rattle.number.specs.Word.{back}
use Rattle.modes.specs.FourModes.{store_held}
use Rattle.figure.proofs.store_held.Goals as goal

pub returns-in-Nothing : goal.returns-in-Nothing
unfolding store_held
returns-in-Nothing c = sym (ap store_held c.in-Nothing.is)

pub returns-in-Figure : goal.returns-in-Figure
unfolding store_held
returns-in-Figure c = back w64 c.in-Figure.x (search rules) ∙ sym (ap store_held c.in-Figure.is)
