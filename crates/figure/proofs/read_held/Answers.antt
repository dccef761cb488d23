-- The number that stands for nothing is the least one, and only that.
use Rattle.std.proofs.Common.{sym, ap, ◌∙◌, to_z-of_z, w64, to_z, of_z}
use Rattle.modes.specs.FourModes.{read_held}
use Rattle.modes.proofs.StoreLaws.{read-figure}
use Rattle.modes.specs.declared.Held.TheVariants.{Figure}
use Rattle.figure.proofs.read_held.Goals as goal

pub returns-then-x-eq-NOTHING : goal.returns-then-x-eq-NOTHING
unfolding read_held
returns-then-x-eq-NOTHING c = sym (ap read_held (sym (to_z-of_z c.ranges.x) ∙ ap (to_z w64) c.if-x-eq-NOTHING.true))

pub returns-else-x-eq-NOTHING : goal.returns-else-x-eq-NOTHING
returns-else-x-eq-NOTHING c = ap Figure (to_z-of_z c.ranges.x) ∙ sym (read-figure _ (λ e. c.if-x-eq-NOTHING.false (ap (of_z w64) e)))
