-- What the call comes to: all small days, or 14, or 12, each exactly where it is due. Assumes nothing.
use Rattle.std.specs.Prelude.{◌≡◌, refl, true, false, ◌&&◌, ◌⊎◌, List, [], ◌∷◌, map, ℕ, ◌≤◌, ◌<◌, leb, length}
use Rattle.std.proofs.Common.{sym, ap, subst, ◌∙◌, inl, inr, arith, lit≤, leb-true, le-leb}
use Rattle.std.proofs.Math.Logic.{dite}
use Rattle.std.proofs.Math.Decide.{dec_lt}
use Rattle.std.proofs.lemmas.Bool.{lt-leb}
use Rattle.gate.specs.Outcome.{refused, granted, written}
use Rattle.gate.specs.Answers.{length_answered}
use Rattle.gate.proofs.Laws.{not-result, one_number, yes, fits, too_short}
use Rattle.record.proofs.Laws.{and_left, and_right}
use Rattle.hill.specs.Row.{joined}
use Rattle.day_list.specs.Days.{small_days, small_days_outcome}
use Rattle.day_list.specs.Claims.{SmallDaysBytes, TurnsAway}
use Rattle.day_list.proofs.DayLaws.{are-small-days, only-small-days, small-long}
use Rattle.day_list.proofs.Counts.{total, totals, most-54912}

-- ---- question 14 as a test

module _ (n : ℕ) where
  pub inside : leb 1 n && leb n 8 ≡ true → (1 ≤ n) × (n ≤ 8)
  inside h = (leb-true 1 n (and_left (leb 1 n) (leb n 8) h), leb-true n 8 (and_right (leb 1 n) (leb n 8) h))

  passes : 1 ≤ n → n ≤ 8 → leb 1 n && leb n 8 ≡ true
  passes some few = rw (le-leb 1 n some, le-leb n 8 few)

  fails : (n < 1) ⊎ (8 < n) → leb 1 n && leb n 8 ≡ false
  fails (inl h) = rw (lt-leb 1 n h)
  fails (inr h) = rw (le-leb 1 n (omega arith), lt-leb n 8 h)

  module _ (cap : ℕ) where
    pub outside : leb 1 n && leb n 8 ≡ false → small_days_outcome n cap ≡ refused 14
    unfolding small_days_outcome
    outside h = rw h

    pub taken : leb 1 n && leb n 8 ≡ true → small_days_outcome n cap ≡ written cap (joined (small_days n))
    unfolding small_days_outcome
    taken h = rw h

-- ---- the three ways

data Comes (n cap : ℕ) : Type 0 where
  away-14 : (n < 1) ⊎ (8 < n) → small_days_outcome n cap ≡ refused 14 → Comes n cap
  away-12 : 1 ≤ n → n ≤ 8 → cap < length (joined (small_days n)) → small_days_outcome n cap ≡ refused 12 → Comes n cap
  all_in : 1 ≤ n → n ≤ 8 → length (joined (small_days n)) ≤ cap → small_days_outcome n cap ≡ granted (joined (small_days n)) → Comes n cap

comes : (n cap : ℕ) → Comes n cap
comes n cap =
    dite (dec_lt n 1) (λ h. away-14 (inl h) (outside n cap (fails n (inl h))))
    (λ a. dite (dec_lt 8 n) (λ h. away-14 (inr h) (outside n cap (fails n (inr h))))
    (λ b. let t = taken n cap (passes n (omega arith) (omega arith)) in
    dite (dec_lt cap (length (joined (small_days n)))) (λ h. away-12 (omega arith) (omega arith) h (t ∙ too_short cap (joined (small_days n)) h)) (λ c. all_in (omega arith) (omega arith) (omega arith) (t ∙ fits cap (joined (small_days n)) (omega arith)))))

module _ (n cap : ℕ) where
  only-14 : Comes n cap → small_days_outcome n cap ≡ refused 14 → (n < 1) ⊎ (8 < n)
  only-14 (away-14 h e) r = h
  only-14 (away-12 a b h e) r = absurd (omega (arith, one_number (sym e ∙ r)))
  only-14 (all_in a b h e) r = absurd (not-result 14 (joined (small_days n)) (sym r ∙ e))

  only-12 : Comes n cap → small_days_outcome n cap ≡ refused 12 → (1 ≤ n) × (n ≤ 8) × (cap < length (joined (small_days n)))
  only-12 (away-14 h e) r = absurd (omega (arith, one_number (sym e ∙ r)))
  only-12 (away-12 a b h e) r = (a, b, h)
  only-12 (all_in a b h e) r = absurd (not-result 12 (joined (small_days n)) (sym r ∙ e))

  no_other : Comes n cap → (k : ℕ) → small_days_outcome n cap ≡ refused k → (k ≡ 14) ⊎ (k ≡ 12)
  no_other (away-14 h e) k r = inl (one_number (sym r ∙ e))
  no_other (away-12 a b h e) k r = inr (one_number (sym r ∙ e))
  no_other (all_in a b h e) k r = absurd (not-result k (joined (small_days n)) (sym r ∙ e))

  written-where : 1 ≤ n → n ≤ 8 → length (joined (small_days n)) ≤ cap → small_days_outcome n cap ≡ granted (joined (small_days n))
  written-where some few h = taken n cap (passes n some few) ∙ fits cap (joined (small_days n)) h

  -- TURNED AWAY exactly where it is due; all else is written.
  pub turns-away : TurnsAway n cap
  turns-away = record {
    by-14 = (only-14 (comes n cap), λ h. outside n cap (fails n h));
    by-12 = (only-12 (comes n cap), λ h. taken n cap (passes n h.0 h.1) ∙ too_short cap (joined (small_days n)) h.2);
    by-no-other = no_other (comes n cap);
    else-written = written-where;
  }

-- ---- what is written

days-bytes : (n : ℕ) → n ≤ 8 → SmallDaysBytes n (joined (small_days n))
days-bytes n few =
    let small : n ≤ 64 = omega arith in
    record { logs = small_days n; are = are-small-days n small; bytes = refl; only = only-small-days n small; log-length = small-long n small; whole_length = total n small }

-- WHAT IS WRITTEN is all small days with n opened records.
pub written-days : (n cap : ℕ) {w : List ℕ} → small_days_outcome n cap ≡ granted w → SmallDaysBytes n w
unfolding small_days_outcome
written-days n cap {w} e =
    let a = yes 14 (leb 1 n && leb n 8) _ e in
    let b = yes 12 (leb (length (joined (small_days n))) cap) (granted (joined (small_days n))) a.1 in
    let same : joined (small_days n) ≡ w = cc b.1 in
    subst (SmallDaysBytes n) same (days-bytes n (inside n a.0).1)

answered : (n : ℕ) → 1 ≤ n → n ≤ 8 → length_answered (small_days_outcome n 54_912) ≡ granted (length (joined (small_days n)))
answered n some few = ap length_answered (written-where n 54_912 some few (most-54912 n few))

-- ".. so n = 8 takes 54,912 bytes": what is answered for each n, in a buffer of that length.
pub lengths : map (λ n. length_answered (small_days_outcome n 54_912)) (1 ∷ 2 ∷ 3 ∷ 4 ∷ 5 ∷ 6 ∷ 7 ∷ 8 ∷ []) ≡ map granted (16 ∷ 32 ∷ 96 ∷ 320 ∷ 1_120 ∷ 4_032 ∷ 14_784 ∷ 54_912 ∷ [])
lengths =
    rw (answered 1 (lit≤ tt) (lit≤ tt), answered 2 (lit≤ tt) (lit≤ tt), answered 3 (lit≤ tt) (lit≤ tt), answered 4 (lit≤ tt) (lit≤ tt), answered 5 (lit≤ tt) (lit≤ tt), answered 6 (lit≤ tt) (lit≤ tt), answered 7 (lit≤ tt) (lit≤ tt), answered 8 (lit≤ tt) (lit≤ tt))
    (ap (map granted) totals)
