-- Each mode by its function; a number other than 2, 4 and 5 stands for mode 1.
use Rattle.std.proofs.Common.{sym, ap, ◌∙◌, subst, rules}
use Rattle.figure.specs.Mode.{Mode}
use Rattle.figure.specs.Stored.{run_after, Composes}
use Rattle.figure.proofs.Modes.{other-mode}
use Rattle.figure.proofs.runs.compose.Goals as goal

pub compose_net-requires : goal.compose_net-requires
compose_net-requires c =
    let s = c in
    subst (λ (M : Mode). Composes M s.args.outer s.args.inner) (other-mode s.args.mode (search rules) (search rules) (search rules)) s.requires

pub returns-in_default : goal.returns-in_default
returns-in_default c =
    let s = c in
    c.compose_net.ensures ∙ sym (ap (λ (M : Mode). run_after M s.args.outer s.args.inner) (other-mode s.args.mode (search rules) (search rules) (search rules)))
