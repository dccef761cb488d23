-- What the answer of `work` says, in document 01's numbers. Definitions only.
use Rattle.std.specs.Prelude.{ℤ, Result, Ok, Err}
use Rattle.gate.specs.Outcome.{Outcome, refused, granted}
use Rattle.gate.specs.Answers.{number_of}
use Rattle.gate.specs.declared.Refusal.{Refusal}
use Rattle.plan_work.specs.Work.{Work}
use Rattle.work.specs.declared.Totals.{Totals}

-- "It gives the figure, the joins used (its lines) and the number of levels folded."
abbrev pub work_in : Totals → Work ℤ
work_in t = record { figure = t.figure; joins = t.joins; levels = t.levels }

-- The result, or the number of the question that got a "no".
abbrev pub worked_answer : Result Totals Refusal → Outcome (Work ℤ)
worked_answer (Ok t) = granted (work_in t)
worked_answer (Err r) = refused (number_of r)
