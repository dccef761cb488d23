-- By the kind; each arm's test is question 5's.
use mathlib.Core.Path.{sym, ◌∙◌}
use Rattle.judge.specs.Laws.{test-blank, test-spoilt, test-hill}
use borrow.Author.Rules.{rules}
use Rattle.judge.proofs.is_summary.Goals as goal

pub returns-in-16 : goal.returns-in-16
returns-in-16 c = c.layout_fits.ensures ∙ sym (test-blank _ (sym c.read_u16-kind.ensures ∙ c.in-16.is))

pub returns-in-17 : goal.returns-in-17
returns-in-17 c = c.is_spoilt.ensures ∙ sym (test-spoilt _ (sym c.read_u16-kind.ensures ∙ c.in-17.is))

pub returns-in_default : goal.returns-in_default
returns-in_default c =
    let k = c.read_u16-kind.ensures in
    c.is_hill.ensures ∙ sym (test-hill _ (λ e. search rules) (λ e. search rules))
