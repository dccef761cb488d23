-- The two numbers, of a log that was let through: both are below the opened count, or 19. Assumes nothing.
use Rattle.std.specs.Prelude.{◌≡◌, Bool, true, false, ◌&&◌, List, ℕ, ◌≤◌, ◌<◌, ltb}
use Rattle.std.proofs.Common.{sym, ap, ◌∙◌, arith, ltb-true}
use Rattle.gate.specs.Outcome.{refused, granted, question}
use Rattle.record.proofs.Laws.{and_left, and_right}
use Rattle.modes.specs.FourModes.{Amounts}
use Rattle.hill.specs.Log.{Record, opened_of}
use Rattle.chunk.specs.Chunk.{IsWellFormed}
use Rattle.chunk.specs.Laws.{IsLog}
use Rattle.chunk.proofs.Laws.{one-log}
use Rattle.whole_log.specs.AskLaws.{Opens}
use Rattle.common_record.specs.Common.{common_number, numbers_outcome}
use Rattle.common_record.proofs.CommonLaws.{same-either-way}
use Rattle.common.specs.Walk.{BothThere, InOrder}

-- ---- the earlier one first

module _ {log : List ℕ} {a b : ℕ} (w : BothThere log a b) where
  pub as-given : a ≤ b → InOrder log a b
  as-given h = record { both = w; order = h }

  pub turned : b < a → InOrder log b a
  turned h = record { both = record { records = w.records; is = w.is; below-a = w.below-b; below-b = w.below-a }; order = omega arith }

  pub turned-back : {n : ℕ} → ((xs : List (Record Amounts)) → IsWellFormed log xs → n ≡ common_number xs b a) → (xs : List (Record Amounts)) → IsWellFormed log xs → n ≡ common_number xs a b
  turned-back f xs i =
      let s : w.records ≡ xs = one-log w.is i in
      f xs i ∙ same-either-way xs i.fine b a (omega (arith, w.below-b, ap opened_of s)) (omega (arith, w.below-a, ap opened_of s))

-- ---- question 19

module _ {log : List ℕ} {opened : ℕ} (a b : ℕ) (w : Opens log opened) where
  pub both-there : ltb a opened && ltb b opened ≡ true → BothThere log a b
  both-there e = record {
    records = w.records;
    is = w.is.formed;
    below-a = omega (arith, ltb-true a opened (and_left (ltb a opened) (ltb b opened) e), w.count);
    below-b = omega (arith, ltb-true b opened (and_right (ltb a opened) (ltb b opened) e), w.count);
  }

  module _ (xs : List (Record Amounts)) (i : IsLog log xs) where
    -- by the answer to it
    asked : {t : Bool} → ltb a opened && ltb b opened ≡ t → numbers_outcome a b xs ≡ question 19 t (granted (common_number xs a b))
    asked e = ap (λ t. question 19 t (granted (common_number xs a b))) (ap (λ n. ltb a n && ltb b n) (sym (w.count ∙ ap opened_of (one-log w.is.formed i.formed))) ∙ e)

    pub record-named : {n : ℕ} → ltb a opened && ltb b opened ≡ true → ((ys : List (Record Amounts)) → IsWellFormed log ys → n ≡ common_number ys a b) → granted n ≡ numbers_outcome a b xs
    record-named e f = ap granted (f xs i.formed) ∙ sym (asked e)

    pub not_there : ltb a opened && ltb b opened ≡ false → refused 19 ≡ numbers_outcome a b xs
    not_there e = sym (asked e)
