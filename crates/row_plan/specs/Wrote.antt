-- The answer and the buffer, of bytes that are to be written. Definition only.
use Rattle.std.specs.Prelude.{◌≡◌, List, ℕ, length}
use Rattle.gate.specs.Outcome.{Outcome, written, buffer_after}
use Rattle.gate.specs.Answers.{length_answered}

-- 12: the bytes w are written where they fit, and nothing is where they do not.
pub record Wrote (w : List ℕ) (r : Outcome ℕ) (before after : List ℕ) : Type 0 where
  pub answer : r ≡ length_answered (written (length before) w)
  pub buffer : after ≡ buffer_after (written (length before) w) before
