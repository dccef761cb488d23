use mathlib.Core.Path.{◌∙◌, sym}
use Rattle.outcome.proofs.RunLaws.{length-four, length_three}
use Rattle.outcome.proofs.run_length.Goals as goal

pub returns-then-has_fourth : goal.returns-then-has_fourth
returns-then-has_fourth c = sym (length-four _ (sym c.has_fourth.ensures ∙ c.if-has_fourth.true))

pub returns-else-has_fourth : goal.returns-else-has_fourth
returns-else-has_fourth c = sym (length_three _ (sym c.has_fourth.ensures ∙ c.if-has_fourth.false))
