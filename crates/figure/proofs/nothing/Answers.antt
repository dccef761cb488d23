-- By the test.
use Rattle.std.proofs.Common.{Bool, cond, pos, sym, ap, ◌∙◌}
use Rattle.modes.specs.FourModes.{nothing}
use Rattle.figure.specs.Stored.{none_is}
use Rattle.figure.proofs.nothing.Goals as goal

pub returns-then-stores_nothing : goal.returns-then-stores_nothing
returns-then-stores_nothing c = sym (none_is c.args.mode ∙ ap (λ (t : Bool). cond t nothing (pos 0)) (sym c.stores_nothing.ensures ∙ c.if-stores_nothing.true))

pub returns-else-stores_nothing : goal.returns-else-stores_nothing
returns-else-stores_nothing c = sym (none_is c.args.mode ∙ ap (λ (t : Bool). cond t nothing (pos 0)) (sym c.stores_nothing.ensures ∙ c.if-stores_nothing.false))
