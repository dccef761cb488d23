-- The two promises of a call that writes bytes: its answer and its buffer are those of what it comes to. Assumes nothing.
use Rattle.std.specs.Prelude.{◌≡◌, refl, List, ◌++◌, ℕ, ◌≤◌, ◌<◌, length, drop, Result, Ok, Err}
use Rattle.std.proofs.Common.{ap, ◌∙◌, zero-add, arith}
use Rattle.std.proofs.lemmas.List.Edits.{sets, sets-eq}
use Rattle.gate.specs.Outcome.{Outcome, refused, granted, written, buffer_after}
use Rattle.gate.specs.Answers.{answered, length_answered}
use Rattle.gate.proofs.Laws.{fits, too_short}
use Rattle.gate.specs.declared.Refusal.{Refusal}
use Rattle.gate.specs.declared.Refusal.TheVariants as no
use Rattle.gate.specs.Promises.{Answers}

-- The same as the two equations of a contract, of an answer in the paper's numbers.
abbrev pub Promised : Outcome (List ℕ) → Outcome ℕ → (before after : List ℕ) → Type 0
Promised o a before after = (a ≡ length_answered o) × (after ≡ buffer_after o before)

-- ---- where the call is refused before it writes, and where it is not

pub refuses : {o : Outcome (List ℕ)} {n : ℕ} (b : List ℕ) → o ≡ refused n → Promised o (refused n) b b
refuses b e = rw e (refl, refl)

pub comes-to : {o p : Outcome (List ℕ)} {r : Result ℕ Refusal} {before after : List ℕ} → o ≡ p → Answers p before after r → Promised o (answered r) before after
comes-to e s = rw e (s.answered, s.buffer)

-- ---- by the length of what is to be written

-- bytes stored from the buffer's start on
pub stored-first : (w before after : List ℕ) → length w ≤ length before → after ≡ sets before 0 w → after ≡ buffer_after (granted w) before
stored-first w before after h e = e ∙ sets-eq w before 0 (omega arith) ∙ ap (λ (k : ℕ). w ++ drop k before) (zero-add (length w))

module _ (w before : List ℕ) where
  pub answer-fits : {after : List ℕ} {n : ℕ} → length w ≤ length before → n ≡ length w → after ≡ buffer_after (granted w) before → Answers (written (length before) w) before after (Ok n)
  answer-fits h e b = rw (fits (length before) w h) record { answered = ap granted e; buffer = b }

  pub answer-short : length before < length w → Answers (written (length before) w) before before (Err no.BufferTooShort)
  answer-short h = rw (too_short (length before) w h) record { answered = refl; buffer = refl }

  -- all of them stored, n being their number, or none
  pub bytes-stored : {after : List ℕ} {n : ℕ} → n ≡ length w → n ≤ length before → after ≡ sets before 0 w → Answers (written (length before) w) before after (Ok n)
  bytes-stored {after} e h s = answer-fits (omega arith) e (stored-first w before after (omega arith) s)

  pub bytes-too-long : {n : ℕ} → n ≡ length w → length before < n → Answers (written (length before) w) before before (Err no.BufferTooShort)
  bytes-too-long e h = answer-short (omega arith)

-- other bytes that are the same
pub answer-same : {w v before after : List ℕ} {r : Result ℕ Refusal} → w ≡ v → Answers (written (length before) w) before after r → Answers (written (length before) v) before after r
answer-same e a = rw e at a
