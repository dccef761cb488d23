-- The fault of a chunk is the lowest of questions 7 to 9 that gets a "no", and that of a log the lowest of 7 to 11. Assumes nothing.
use Rattle.std.specs.Prelude.{◌≡◌, refl, ◌≢◌, ◌⊎◌, Bool, true, false, List, [], ◌∷◌, ℕ, zero, suc, ◌≤◌, ◌<◌, leb, ltb, eqb, length}
use Rattle.std.proofs.Common.{sym, subst, ◌∙◌, inl, inr, ⊎_elim, arith, leb-false, ltb-false, ne_eqb, le-ltb}
use Rattle.std.proofs.Math.Logic.{dite}
use Rattle.std.proofs.Math.Decide.{dec_le}
use Rattle.std.proofs.lemmas.Bool.{eqb-false, lt-leb}
use Rattle.hill.specs.Verdict.{Verdict, pass, refuse, lower, low, ask, joint, count, ends}
use Rattle.hill.proofs.VerdictLaws.{refuse-pass}
use Rattle.hill.specs.Log.{Record, start_level, end_level, end_of, opened_of, joints, fault_of, log_fault}
use Rattle.hill.specs.Closing.{at}
use Rattle.hill.proofs.Growth.{end-at}
use Rattle.hill.specs.Questions.{NoOfChunk, NoOfLog, Lowest}

refuse-same : {m n : ℕ} → refuse m ≡ refuse n → m ≡ n
refuse-same e = cc

lowest-low : {N M : ℕ → Type 0} (v w : Verdict) → Lowest N v → Lowest M w → Lowest (λ n. N n ⊎ M n) (low v w)
lowest-low pass w a b = record {
  none = λ e n h. ⊎_elim (λ x. a.none refl n x) (λ y. b.none e n y) h;
  least = λ n e. (inr (b.least n e).0, λ m h. ⊎_elim (λ x. absurd (a.none refl m x)) (λ y. (b.least n e).1 m y) h);
}
lowest-low (refuse i) pass a b = record {
  none = λ e. absurd (refuse-pass e);
  least = λ n e. (inl (a.least n e).0, λ m h. ⊎_elim (λ x. (a.least n e).1 m x) (λ y. absurd (b.none refl m y)) h);
}
lowest-low {N} {M} (refuse i) (refuse j) a b = record {
  none = λ e. absurd (refuse-pass e);
  least = λ n e. (present n (refuse-same e), λ m h. bound n m (refuse-same e) h);
}
  where
    present : (n : ℕ) → lower i (refuse j) ≡ n → N n ⊎ M n
    present n e =
        dite (dec_le i j)
        (λ l. let k : i ≡ n = omega arith in inl (subst N k (a.least i refl).0))
        (λ l. let k : j ≡ n = omega arith in inr (subst M k (b.least j refl).0))

    bound : (n m : ℕ) → lower i (refuse j) ≡ n → N m ⊎ M m → n ≤ m
    bound n m e h = ⊎_elim (λ x. omega (arith, (a.least i refl).1 m x)) (λ y. omega (arith, (b.least j refl).1 m y)) h

lowest-iff : {N M : ℕ → Type 0} {v : Verdict} → ((n : ℕ) → N n → M n) → ((n : ℕ) → M n → N n) → Lowest N v → Lowest M v
lowest-iff f g a = record { none = λ e n h. a.none e n (g n h); least = λ n e. (f n (a.least n e).0, λ m h. (a.least n e).1 m (g m h)) }

lowest-ask : (n : ℕ) (b : Bool) → Lowest (λ m. (m ≡ n) × (b ≡ false)) (ask n b)
lowest-ask n true = record { none = λ e m h. absurd (let z : ◌≡◌ {A = ℕ} 0 1 = cc in omega arith); least = λ m e. absurd (refuse-pass (sym e)) }
lowest-ask n false = record {
  none = λ e. absurd (refuse-pass e);
  least = λ m e. let k : n ≡ m = refuse-same e in ((sym k, refl), λ l h. omega (arith, h.0));
}

-- Questions 7 and 8 of two neighbours.
abbrev Joint : (a b n : ℕ) → Type 0
Joint a b n = ((n ≡ 7) × (a ≢ b)) ⊎ ((n ≡ 8) × (a ≡ 0))

lowest-joint : (a b : ℕ) → Lowest (Joint a b) (joint a b)
unfolding joint
lowest-joint a b =
    lowest-iff
    (λ n h. ⊎_elim (λ x. inl (x.0, eqb-false a b x.1)) (λ y. inr (y.0, omega (arith, ltb-false 0 a y.1))) h)
    (λ n h. ⊎_elim (λ x. inl (x.0, ne_eqb a b x.1)) (λ y. inr (y.0, le-ltb 0 a (omega (arith, y.1)))) h)
    (lowest-low (ask 7 (eqb a b)) (ask 8 (ltb 0 a)) (lowest-ask 7 (eqb a b)) (lowest-ask 8 (ltb 0 a)))

lowest-count : (t : ℕ) → Lowest (λ n. (n ≡ 9) × (100000 < t)) (count t)
unfolding count
lowest-count t = lowest-iff (λ n h. (h.0, leb-false t 100000 h.1)) (λ n h. (h.0, lt-leb t 100000 h.1)) (lowest-ask 9 (leb t 100000))

lowest-ends : (a b : ℕ) → Lowest (λ n. (n ≡ 11) × ((a ≢ 0) ⊎ (b ≢ 0))) (ends a b)
unfolding ends
lowest-ends a b =
    lowest-iff
    (λ n h. ⊎_elim (λ x. (x.0, inl (eqb-false a 0 x.1))) (λ y. (y.0, inr (eqb-false b 0 y.1))) h)
    (λ n h. ⊎_elim (λ x. inl (h.0, ne_eqb a 0 x)) (λ y. inr (h.0, ne_eqb b 0 y)) h.1)
    (lowest-low (ask 11 (eqb a 0)) (ask 11 (eqb b 0)) (lowest-ask 11 (eqb a 0)) (lowest-ask 11 (eqb b 0)))

module _ {R : Type 0} where
  abbrev Joints : List (Record R) → ℕ → Type 0
  Joints log n = (k : ℕ) × (suc k < length log) × Joint (end_level (at log k)) (start_level (at log (suc k))) n

  joints-from : (x y : Record R) (ys : List (Record R)) (n : ℕ) → Joint (end_level x) (start_level y) n ⊎ Joints (y ∷ ys) n → Joints (x ∷ (y ∷ ys)) n
  joints-from x y ys n (inl h) = (0, omega arith, h)
  joints-from x y ys n (inr h) = (suc h.0, omega (arith, h.1), h.2)

  joints-to : (x y : Record R) (ys : List (Record R)) (n : ℕ) (k : ℕ) → suc k < length (x ∷ (y ∷ ys)) → Joint (end_level (at (x ∷ (y ∷ ys)) k)) (start_level (at (y ∷ ys) k)) n →
      Joint (end_level x) (start_level y) n ⊎ Joints (y ∷ ys) n
  joints-to x y ys n zero l h = inl h
  joints-to x y ys n (suc k) l h = inr (k, omega arith, h)

  lowest-joints : (x : Record R) (xs : List (Record R)) → Lowest (Joints (x ∷ xs)) (joints x xs)
  lowest-joints x [] = record { none = λ e n h. omega (arith, h.1); least = λ n e. absurd (refuse-pass (sym e)) }
  lowest-joints x (y ∷ ys) =
      lowest-iff (joints-from x y ys) (λ n h. joints-to x y ys n h.0 h.1 h.2)
      (lowest-low (joint (end_level x) (start_level y)) (joints y ys) (lowest-joint (end_level x) (start_level y)) (lowest-joints y ys))

  chunk-from : (log : List (Record R)) (n : ℕ) → Joints log n ⊎ ((n ≡ 9) × (100000 < opened_of log)) → NoOfChunk log n
  chunk-from log n (inl h) = ⊎_elim (λ x. inl (x.0, (h.0, h.1, x.1))) (λ y. inr (inl (y.0, (h.0, h.1, y.1)))) h.2
  chunk-from log n (inr h) = inr (inr h)

  chunk-to : (log : List (Record R)) (n : ℕ) → NoOfChunk log n → Joints log n ⊎ ((n ≡ 9) × (100000 < opened_of log))
  chunk-to log n (inl h) = inl (h.1.0, h.1.1, inl (h.0, h.1.2))
  chunk-to log n (inr (inl h)) = inl (h.1.0, h.1.1, inr (h.0, h.1.2))
  chunk-to log n (inr (inr h)) = inr h

  -- THE FAULT OF A CHUNK, of questions 7 to 9.
  pub lowest-chunk : (x : Record R) (xs : List (Record R)) → Lowest (NoOfChunk (x ∷ xs)) (fault_of x xs)
  lowest-chunk x xs = lowest-iff (chunk-from (x ∷ xs)) (chunk-to (x ∷ xs)) (lowest-low (joints x xs) (count (opened_of (x ∷ xs))) (lowest-joints x xs) (lowest-count (opened_of (x ∷ xs))))

  log-from : (x : Record R) (xs : List (Record R)) (n : ℕ) → NoOfChunk (x ∷ xs) n ⊎ ((n ≡ 11) × ((start_level x ≢ 0) ⊎ (end_of x xs ≢ 0))) → NoOfLog (x ∷ xs) n
  log-from x xs n (inl h) = inl h
  log-from x xs n (inr h) = inr (inr (h.0, ⊎_elim (λ a. inl a) (λ b. inr (λ e. b (sym (end-at x xs) ∙ e))) h.1))

  log-to : (x : Record R) (xs : List (Record R)) (n : ℕ) → NoOfLog (x ∷ xs) n → NoOfChunk (x ∷ xs) n ⊎ ((n ≡ 11) × ((start_level x ≢ 0) ⊎ (end_of x xs ≢ 0)))
  log-to x xs n (inl h) = inl h
  log-to x xs n (inr (inl h)) = absurd (omega (arith, h.1))
  log-to x xs n (inr (inr h)) = inr (h.0, ⊎_elim (λ a. inl a) (λ b. inr (λ e. b (end-at x xs ∙ e))) h.1)

  -- THE FAULT OF A LOG, of questions 7 to 11.
  pub lowest-log : (log : List (Record R)) → Lowest (NoOfLog log) (log_fault log)
  lowest-log [] = record {
    none = λ e. absurd (refuse-pass e);
    least = λ n e. let k : 10 ≡ n = refuse-same e in (inr (inl (sym k, refl)), λ m h. ⊎_elim (λ c. absurd (nothing m c)) (λ c. ⊎_elim (λ x. omega (arith, x.0)) (λ y. omega (arith, y.0)) c) h);
  }
    where
      nothing : (m : ℕ) → NoOfChunk {R = R} [] m → ⊥
      nothing m (inl h) = omega (arith, h.1.1)
      nothing m (inr (inl h)) = omega (arith, h.1.1)
      nothing m (inr (inr h)) = omega (arith, h.1)
  lowest-log (x ∷ xs) =
      lowest-iff (log-from x xs) (log-to x xs)
      (lowest-low (fault_of x xs) (ends (start_level x) (end_of x xs)) (lowest-chunk x xs) (lowest-ends (start_level x) (end_of x xs)))
