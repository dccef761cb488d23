-- By the kind, as each arm has it.
use mathlib.Core.Path.{ap, sym, ◌∙◌}
use Rattle.judge.specs.Laws.{head-blank, head-spoilt, head-hill}
use Rattle.judge.specs.declared.Head.TheVariants.{Spoilt, Hill}
use borrow.Author.Rules.{rules}
use Rattle.judge.proofs.head_of.Goals as goal

pub returns-in-16 : goal.returns-in-16
returns-in-16 c = sym (head-blank _ (sym c.read_u16-kind.ensures ∙ c.in-16.is))

pub returns-in-17 : goal.returns-in-17
returns-in-17 c = ap Spoilt c.spoilt_head.ensures ∙ sym (head-spoilt _ (sym c.read_u16-kind.ensures ∙ c.in-17.is))

pub returns-in_default : goal.returns-in_default
returns-in_default c = ap Hill c.hill_head.ensures ∙ sym (head-hill _ (λ e. search rules) (λ e. search rules))
