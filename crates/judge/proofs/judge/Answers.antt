-- A summary that passes the test is told by its head, and one that does not is refused.
use mathlib.Core.Path.{sym, ◌∙◌}
use Rattle.summary.proofs.DecideLaws.{decide-summary}
use Rattle.judge.proofs.Parts.{short_none, answer-yes, answer-no}
use Rattle.judge.proofs.judge.Goals as goal

pub returns-then-b-lt6 : goal.returns-then-b-lt6
returns-then-b-lt6 c = sym (short_none _ c.if-b-lt6.true)

pub returns-then-not-is_summary : goal.returns-then-not-is_summary
returns-then-not-is_summary c = answer-no _ (sym c.is_summary.ensures ∙ c.if-not-is_summary.true)

pub head_of-requires : goal.head_of-requires
head_of-requires c = (decide-summary _).from (sym c.is_summary.ensures ∙ c.if-not-is_summary.false)

pub returns : goal.returns
returns c = answer-yes _ (sym c.is_summary.ensures ∙ c.if-not-is_summary.false) _ _ c.read_u16.ensures c.head_of.ensures
