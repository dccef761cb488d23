-- What a call comes to that asks 4 to 11 and then writes, where a row is refused and where it is let through. Assumes nothing.
use Rattle.std.specs.Prelude.{◌≡◌, List, ℕ, length, Option}
use Rattle.std.proofs.Common.{sym, ap, ◌∙◌}
use Rattle.gate.specs.Outcome.{Outcome, refused, onward, written, buffer_after}
use Rattle.gate.specs.Answers.{length_answered}
use Rattle.row.specs.Row.{row_pieces}
use Rattle.outcome.specs.Outcomes.{Summaries, ask_row, ask_log}
use Rattle.judge.specs.declared.Numbers.{Numbers}
use Rattle.row_gate.specs.Asks.{ask_all, summaries_in, LetThrough}
use Rattle.row_gate.specs.AsksLaws.{after-all}
use Rattle.row_plan.specs.Wrote.{Wrote}

module _ (bytes : Summaries → List ℕ) (row : List ℕ) where
  abbrev pub called : ℕ → Outcome (List ℕ)
  called cap = onward (ask_row (row_pieces row)) (λ s. onward (ask_log s) (λ t. written cap (bytes t)))

  asked-first : (cap : ℕ) (o : Outcome Summaries) → ask_all row ≡ o → called cap ≡ onward o (λ t. written cap (bytes t))
  asked-first cap o e = after-all (ask_row (row_pieces row)) (λ t. written cap (bytes t)) ∙ ap (λ (x : Outcome Summaries). onward x (λ t. written cap (bytes t))) e

  pub call-refused : (b : List ℕ) (n : ℕ) → ask_all row ≡ refused n → (refused n ≡ length_answered (called (length b))) × (b ≡ buffer_after (called (length b)) b)
  call-refused b n e = let f = asked-first (length b) (refused n) e in (sym (ap length_answered f), sym (ap (λ (o : Outcome (List ℕ)). buffer_after o b) f))

  pub call-wrote : (before after : List ℕ) (r : Outcome ℕ) (count m : ℕ) (notes : List (Option Numbers)) → LetThrough row count m notes →
      Wrote (bytes (summaries_in m (row_pieces row))) r before after → (r ≡ length_answered (called (length before))) × (after ≡ buffer_after (called (length before)) before)
  call-wrote before after r count m notes t w =
      let f = asked-first (length before) _ t.asked in
      (w.answer ∙ sym (ap length_answered f), w.buffer ∙ sym (ap (λ (o : Outcome (List ℕ)). buffer_after o before) f))
