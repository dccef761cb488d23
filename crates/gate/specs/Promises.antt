-- The two promises of a call that writes bytes: its answer and its buffer are those of what it comes to. Assumes nothing.
use Rattle.std.specs.Prelude.{◌≡◌, List, ℕ, Result}
use Rattle.gate.specs.Outcome.{Outcome, buffer_after}
use Rattle.gate.specs.Answers.{answered, length_answered}
use Rattle.gate.specs.declared.Refusal.{Refusal}

-- The answer and the buffer are those of the outcome o.
pub record Answers (o : Outcome (List ℕ)) (before after : List ℕ) (r : Result ℕ Refusal) : Type 0 where
  pub answered : answered r ≡ length_answered o
  pub buffer : after ≡ buffer_after o before
