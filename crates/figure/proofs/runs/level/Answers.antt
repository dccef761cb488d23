-- Each mode by its function; a number other than 2, 4 and 5 stands for mode 1.
use Rattle.std.proofs.Common.{sym, ap, ◌∙◌, subst, to_z-of_z, rules}
use Rattle.figure.specs.Mode.{Mode}
use Rattle.figure.specs.Stored.{amounts, level_run, Levels}
use Rattle.figure.proofs.Modes.{other-mode}
use Rattle.figure.proofs.runs.level.Goals as goal

pub level_net-requires : goal.level_net-requires
level_net-requires c =
    let s = c in
    simp (to_z-of_z s.ranges.value, to_z-of_z s.ranges.before, to_z-of_z s.ranges.behind) (subst (λ (M : Mode). Levels M s.args.value s.args.before s.args.behind) (other-mode s.args.mode (search rules) (search rules) (search rules)) s.requires)

pub returns-in_default : goal.returns-in_default
returns-in_default c =
    let s = c in
    (simp (to_z-of_z s.ranges.value, to_z-of_z s.ranges.floor, to_z-of_z s.ranges.ceiling, to_z-of_z s.ranges.before, to_z-of_z s.ranges.behind) at c.level_net.ensures) ∙ sym (ap (λ (M : Mode). level_run M (amounts s.args.value s.args.floor s.args.ceiling) s.args.before s.args.behind) (other-mode s.args.mode (search rules) (search rules) (search rules)))
