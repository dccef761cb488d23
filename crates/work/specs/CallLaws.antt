-- What the call `work` comes to, where a row is refused and where it is let through. Assumes nothing.
use Rattle.std.specs.Prelude.{◌≡◌, List, ℕ, ℤ, take, Option}
use Rattle.std.proofs.Common.{sym, ◌∙◌}
use Rattle.std.proofs.Math.Path.{ap}
use Rattle.gate.specs.Outcome.{Outcome, refused, granted, onward}
use Rattle.row.specs.Row.{row_pieces}
use Rattle.figure.specs.Mode.{mode_of}
use Rattle.join_plan.specs.Plan.{folded}
use Rattle.join_plan.specs.Scan.{plan}
use Rattle.plan_work.specs.Work.{Work, work_of}
use Rattle.outcome.specs.Outcomes.{Summaries, ask_row, work_along, work_outcome}
use Rattle.judge.specs.declared.Numbers.{Numbers}
use Rattle.row_plan.specs.declared.Line.{Line as HeldLine}
use Rattle.row_plan.specs.Arrays.{levels_at, lines_in, Kept}
use Rattle.row_plan.specs.RowLaws.{plan-is}
use Rattle.row_gate.specs.Asks.{ask_all, summaries_in, LetThrough}
use Rattle.row_gate.specs.AsksLaws.{after-all}
use Rattle.run_level.specs.Along.{row_in}
use Rattle.run_level.specs.AlongLaws.{plan-count}

pub work-refused : (row : List ℕ) (n : ℕ) → ask_all row ≡ refused n → refused n ≡ work_outcome row
unfolding work_outcome
work-refused row n e = sym (after-all (ask_row (row_pieces row)) (λ t. granted (work_along t)) ∙ ap (λ (o : Outcome Summaries). onward o (λ t. granted (work_along t))) e)

pub work-through : {row : List ℕ} {count m : ℕ} {notes : List (Option Numbers)} → LetThrough row count m notes → (w : Work ℤ) → w ≡ work_along (summaries_in m (row_pieces row)) → granted w ≡ work_outcome row
unfolding work_outcome
work-through {row = row} t w e =
    ap granted e ∙ sym (after-all (ask_row (row_pieces row)) (λ s. granted (work_along s)) ∙ ap (λ (o : Outcome Summaries). onward o (λ s. granted (work_along s))) t.asked)

-- ---- a row that is let through

module _ {row : List ℕ} {count m : ℕ} {notes : List (Option Numbers)} (t : LetThrough row count m notes) {held₀ held : List HeldLine} {n : ℕ} (k : Kept (plan (levels_at notes) count) 0 held₀ n held) where
  -- The figure, the joins and the levels are those of the work along the plan.
  pub work-is : (f g : ℤ) (l : ℕ) → g ≡ f → f ≡ (mode_of m).store (work_of (mode_of m).algebra (row_in m row)).figure → l ≡ folded (lines_in (take n held)) →
      record { figure = g; joins = n; levels = l } ≡ work_along (summaries_in m (row_pieces row))
  unfolding work_along
  work-is f g l eg ef el i = record {
    figure = (eg ∙ ef) i;
    joins = plan-count t k i;
    levels = (el ∙ ap folded (k.lines ∙ plan-is t)) i;
  }

  pub work-answered : (f g : ℤ) (l : ℕ) → g ≡ f → f ≡ (mode_of m).store (work_of (mode_of m).algebra (row_in m row)).figure → l ≡ folded (lines_in (take n held)) →
      granted (record { figure = g; joins = n; levels = l }) ≡ work_outcome row
  work-answered f g l eg ef el = work-through t _ (work-is f g l eg ef el)
