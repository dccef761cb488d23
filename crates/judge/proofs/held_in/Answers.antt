-- By the mode.
use mathlib.Core.Path.{sym, ap, ◌∙◌}
use mir.Facts.{to_z-of_z}
use Rattle.modes.specs.FourModes.{read_held}
use Rattle.modes.specs.declared.Held.TheVariants.{Figure}
use Rattle.judge.specs.Laws.{held-nothing, held-other}
use Rattle.judge.proofs.held_in.Goals as goal

pub returns-then-stores_nothing : goal.returns-then-stores_nothing
returns-then-stores_nothing c =
    c.read_held.ensures ∙ ap read_held (to_z-of_z c.ranges.x) ∙ sym (held-nothing _ _ (sym c.stores_nothing.ensures ∙ c.if-stores_nothing.true))

pub returns-else-stores_nothing : goal.returns-else-stores_nothing
returns-else-stores_nothing c = ap Figure (to_z-of_z c.ranges.x) ∙ sym (held-other _ _ (sym c.stores_nothing.ensures ∙ c.if-stores_nothing.false))
