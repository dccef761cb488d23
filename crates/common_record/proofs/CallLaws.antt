-- What asking for the record in common comes to: its number, or a fault or 19, each exactly where it is due. Assumes nothing.
use Rattle.std.specs.Prelude.{◌≡◌, refl, Bool, ◌&&◌, ◌⊎◌, List, ℕ, ◌≤◌, ◌<◌}
use Rattle.std.proofs.Common.{sym, subst, ◌∙◌, inl, inr, ⊎_elim, arith}
use Rattle.std.proofs.Math.Path.{ap}
use Rattle.std.proofs.Math.Bool.{true, false, and-false}
use Rattle.std.proofs.Math.Logic.{dite}
use Rattle.std.proofs.Math.Decide.{dec_lt}
use Rattle.std.proofs.Math.Dec.{ltb}
use borrow.Author.Tests.{lt-ltb, le-ltb}
use Rattle.gate.specs.Outcome.{Outcome, refused, granted, question}
use Rattle.gate.proofs.Laws.{not-result, one_number, result-same}
use Rattle.modes.specs.FourModes.{Amounts}
use Rattle.hill.specs.Log.{Record, opened_of}
use Rattle.chunk.specs.Chunk.{whole_log}
use Rattle.chunk.proofs.Laws.{is-log, refused-low}
use Rattle.common_record.specs.Common.{common_number, numbers_outcome, common_outcome}
use Rattle.common_record.specs.Claims.{OneInCommon, TurnsAway, Names, EitherWay}
use Rattle.common_record.proofs.CommonLaws.{one-in-common, same-either-way, names-itself}

-- ---- the two numbers, of a log that was let through

module _ (a b : ℕ) (xs : List (Record Amounts)) where
  asked : Bool → Outcome ℕ
  asked t = question 19 t (granted (common_number xs a b))

  one-not-below : (opened_of xs ≤ a) ⊎ (opened_of xs ≤ b) → numbers_outcome a b xs ≡ refused 19
  unfolding asked
  one-not-below h = ap asked (⊎_elim not_a not-b h)
    where
      not_a : opened_of xs ≤ a → ltb a (opened_of xs) && ltb b (opened_of xs) ≡ false
      not_a l = rw (le-ltb a (opened_of xs) l)

      not-b : opened_of xs ≤ b → ltb a (opened_of xs) && ltb b (opened_of xs) ≡ false
      not-b l = rw (le-ltb b (opened_of xs) l) (and-false (ltb a (opened_of xs)))

  both_below : a < opened_of xs → b < opened_of xs → numbers_outcome a b xs ≡ granted (common_number xs a b)
  unfolding asked
  both_below la lb = let e : ltb a (opened_of xs) && ltb b (opened_of xs) ≡ true = rw (lt-ltb a (opened_of xs) la, lt-ltb b (opened_of xs) lb) in ap asked e

  by-numbers : {P : Type 0} → (a < opened_of xs → b < opened_of xs → P) → ((opened_of xs ≤ a) ⊎ (opened_of xs ≤ b) → P) → P
  by-numbers both one = dite (dec_lt a (opened_of xs)) (λ la. dite (dec_lt b (opened_of xs)) (λ lb. both la lb) (λ lb. one (inr (omega arith)))) (λ la. one (inl (omega arith)))

-- ---- the call

module _ (log : List ℕ) (a b : ℕ) where
  pub at-fault : {n : ℕ} → whole_log log ≡ refused n → common_outcome log a b ≡ refused n
  unfolding common_outcome
  at-fault e = rw e

  pub let_through : {xs : List (Record Amounts)} → whole_log log ≡ granted xs → common_outcome log a b ≡ numbers_outcome a b xs
  unfolding common_outcome
  let_through e = rw e

  -- 19 is answered for no other reason
  only-19 : common_outcome log a b ≡ refused 19 → (xs : List (Record Amounts)) × (whole_log log ≡ granted xs) × ((opened_of xs ≤ a) ⊎ (opened_of xs ≤ b))
  only-19 h = go (whole_log log) refl
    where
      go : (o : Outcome (List (Record Amounts))) → whole_log log ≡ o → (xs : List (Record Amounts)) × (whole_log log ≡ granted xs) × ((opened_of xs ≤ a) ⊎ (opened_of xs ≤ b))
      go (refused n) e = absurd (omega (arith, refused-low log n e, one_number (sym (at-fault e) ∙ h)))
      go (granted xs) e = (xs, e, by-numbers a b xs (λ la lb. absurd (not-result 19 (common_number xs a b) (sym (sym (let_through e ∙ both_below a b xs la lb) ∙ h)))) (λ one. one))

  -- TURNED AWAY where it is due; all else is answered.
  pub turns-away : TurnsAway log a b
  turns-away = record {
    by-fault = λ n e. at-fault e;
    by_number = (only-19, λ w. let_through w.1 ∙ one-not-below a b w.0 w.2);
    else-named = λ xs e la lb. (one-in-common xs (is-log log xs e).formed.fine a b la lb, let_through e ∙ both_below a b xs la lb);
  }

  -- WHAT THE CALL ANSWERS.
  pub named : {n : ℕ} → common_outcome log a b ≡ granted n → Names log a b n
  named {n} r = go (whole_log log) refl
    where
      go : (o : Outcome (List (Record Amounts))) → whole_log log ≡ o → Names log a b n
      go (refused k) e = absurd (not-result k n (sym (at-fault e) ∙ r))
      go (granted xs) e =
          by-numbers a b xs
          (λ la lb. record { records = xs; let_through = e; below-a = la; below-b = lb; in-common = subst (OneInCommon xs a b) (result-same (sym (let_through e ∙ both_below a b xs la lb) ∙ r)) (one-in-common xs (is-log log xs e).formed.fine a b la lb) })
          (λ one. absurd (not-result 19 n (sym (let_through e ∙ one-not-below a b xs one) ∙ r)))

-- THE SAME EITHER WAY ROUND, which refusal is given too; and a number given twice.
pub either_way : (log : List ℕ) → EitherWay log
either_way log = record { same = λ a b. go a b (whole_log log) refl; twice = λ xs e a l. let_through log a a e ∙ both_below a a xs l l ∙ ap granted (names-itself xs (is-log log xs e).formed.fine a l) }
  where
    go : (a b : ℕ) (o : Outcome (List (Record Amounts))) → whole_log log ≡ o → common_outcome log a b ≡ common_outcome log b a
    go a b (refused n) e = at-fault log a b e ∙ sym (at-fault log b a e)
    go a b (granted xs) e =
        let_through log a b e
        ∙ by-numbers a b xs
        (λ la lb. both_below a b xs la lb ∙ ap granted (same-either-way xs (is-log log xs e).formed.fine a b la lb) ∙ sym (both_below b a xs lb la))
        (λ one. one-not-below a b xs one ∙ sym (one-not-below b a xs (⊎_elim (λ l. inr l) (λ l. inl l) one)))
        ∙ sym (let_through log b a e)
