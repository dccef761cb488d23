-- In mode 4 the bounds are tested, and in any other mode every number is a figure.
use Rattle.std.proofs.Common.{ℕ, sym, ap, ◌∙◌, to_z-of_z, rules}
use Rattle.modes.specs.FourModes.{is_stamp}
use Rattle.figure.specs.Mode.{mode_of}
use Rattle.figure.proofs.Modes.{any-figure}
use Rattle.figure.proofs.is_figure.Goals as goal

pub returns-in-4 : goal.returns-in-4
unfolding mode_of is_stamp
returns-in-4 c =
    let s = c in
    ap is_stamp (to_z-of_z s.ranges.x) ∙ sym (ap (λ (m : ℕ). (mode_of m).is_figure s.args.x) c.in-4.is)

pub returns-in_default : goal.returns-in_default
returns-in_default c = sym (any-figure c.args.mode (search rules) c.args.x)
