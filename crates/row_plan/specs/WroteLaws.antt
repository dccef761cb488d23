-- Bytes written one number after another; bytes that fit and bytes that do not. Assumes nothing.
use Rattle.std.specs.Prelude.{◌≡◌, List, ◌++◌, ℕ, ◌+◌, ◌≤◌, ◌<◌, length, drop}
use Rattle.std.proofs.Common.{sym, ap, ◌∙◌, arith}
use Rattle.std.proofs.lemmas.List.Edits.{sets, sets-eq}
use Rattle.gate.specs.Outcome.{Outcome, refused, granted, written, buffer_after}
use Rattle.gate.specs.Answers.{length_answered}
use Rattle.gate.proofs.Laws.{fits, too_short as shorter}
use Rattle.number.specs.Bytes.{bytes_of, put_at}
use Rattle.number.specs.Laws.{sets-append, length-bytes_of}
use Rattle.row_plan.specs.Wrote.{Wrote}

-- a number of n bytes, and then the rest
pub put_next : (n : ℕ) (l : List ℕ) (a b v : ℕ) (r : List ℕ) → b ≡ a + n → sets l a (bytes_of n v ++ r) ≡ sets (put_at n l a v) b r
put_next n l a b v r e = sets-append l a (bytes_of n v) r ∙ ap (λ (k : ℕ). sets (put_at n l a v) k r) (omega (arith, length-bytes_of n v))

pub too_short : (w before : List ℕ) → length before < length w → Wrote w (refused 12) before before
too_short w before h =
    let e : written (length before) w ≡ refused 12 = shorter (length before) w h in
    record { answer = sym (ap length_answered e); buffer = sym (ap (λ (o : Outcome (List ℕ)). buffer_after o before) e) }

pub wrote-all : (w before after : List ℕ) (n : ℕ) → n ≡ length w → length w ≤ length before → after ≡ sets before 0 w → Wrote w (granted n) before after
wrote-all w before after n e h s =
    let z : 0 + length w ≡ length w = omega arith in
    let f : written (length before) w ≡ granted w = fits (length before) w h in
    record {
      answer = ap granted e ∙ sym (ap length_answered f);
      buffer = s ∙ sets-eq w before 0 (omega arith) ∙ ap (λ (k : ℕ). w ++ drop k before) z ∙ sym (ap (λ (o : Outcome (List ℕ)). buffer_after o before) f);
    }
