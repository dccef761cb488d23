-- Where a log goes down through a level there is a close, where it goes up an open; and what "closed in the chunk" says by places. Assumes nothing.
use Rattle.std.specs.Prelude.{◌≡◌, refl, ◌≢◌, Bool, true, false, ◌||◌, List, [], ◌∷◌, ℕ, zero, suc, ◌+◌, ◌-◌, ◌≤◌, ◌<◌, eqb, length, drop}
use Rattle.std.proofs.Common.{ap, sym, ◌∙◌, ⊎_elim, eq-or-lt_of_le, arith, length-drop, get_or-drop, eqb-true, eq-eqb}
use Rattle.std.proofs.Math.Logic.{dite}
use Rattle.std.proofs.Math.Decide.{dec_lt, dec_le}
use Rattle.hill.specs.Verdict.{pass, joint}
use Rattle.hill.proofs.VerdictLaws.{low-fst, low-snd, joint-pass}
use Rattle.hill.specs.Log.{Record, opening, closing, start_level, end_level, joints}
use Rattle.hill.specs.Closing.{at, OpensAt, Closed}
use Rattle.hill.specs.Summary.{closed_in}
use Rattle.hill.proofs.HeldPlaces.{opening-closing, first-close}
use Rattle.hill.specs.Crossings.{Meeting}

module _ {R : Type 0} where
  -- A record that crosses from above level m to level m or below closes depth m, and one that crosses up opens it.
  pub crosses-down : (x : Record R) (m : ℕ) → m < start_level x → end_level x ≤ m → x ≡ closing m
  crosses-down (opening c r) m a b = absurd (omega arith)
  crosses-down (closing c) m a b = ap closing (omega arith)

  pub crosses-up : (x : Record R) (m : ℕ) → start_level x ≤ m → m < end_level x → (r : R) × (x ≡ opening m r)
  crosses-up (opening c r) m a b = (r, ap (λ k. opening k r) (omega arith))
  crosses-up (closing c) m a b = absurd (omega arith)

  pub joints-meeting : (x : Record R) (xs : List (Record R)) → joints x xs ≡ pass → Meeting (x ∷ xs)
  joints-meeting x [] v k l = absurd (omega arith)
  joints-meeting x (y ∷ ys) v zero l = joint-pass (end_level x) (start_level y) (low-fst (joint (end_level x) (start_level y)) (joints y ys) v)
  joints-meeting x (y ∷ ys) v (suc k) l = joints-meeting y ys (low-snd (joint (end_level x) (start_level y)) (joints y ys) v) k (omega arith)

  module _ (log : List (Record R)) (meets : Meeting log) where
    -- From above level m down to it there is a close at depth m.
    pub falls : (m a b : ℕ) → a ≤ b → b < length log → m < start_level (at log a) → start_level (at log b) ≤ m → (k : ℕ) × (a ≤ k) × (k < b) × (at log k ≡ closing m)
    falls m a zero l i s t = absurd (let e : a ≡ 0 = omega arith in omega (arith, ap (λ k. start_level (at log k)) e))
    falls m a (suc b) l i s t =
        ⊎_elim
        (λ (e : a ≡ suc b). absurd (omega (arith, ap (λ k. start_level (at log k)) e)))
        (λ g. dite (dec_lt m (start_level (at log b)))
        (λ h. (b, omega arith, omega arith, crosses-down (at log b) m h (omega (arith, meets b i))))
        (λ h. let w = falls m a b (omega arith) (omega arith) s (omega arith) in (w.0, w.1, omega (arith, w.2), w.3)))
        (eq-or-lt_of_le l)

    -- From level m up there is an open at depth m, and no close at depth m after it.
    pub rises : (m a b : ℕ) → a ≤ b → b < length log → start_level (at log a) ≤ m → m < start_level (at log b) →
        (p : ℕ) × (a ≤ p) × (p < b) × OpensAt log p m × ((k : ℕ) → p < k → k < b → at log k ≢ closing m)
    rises m a zero l i s t = absurd (let e : a ≡ 0 = omega arith in omega (arith, ap (λ k. start_level (at log k)) e))
    rises m a (suc b) l i s t =
        ⊎_elim
        (λ (e : a ≡ suc b). absurd (omega (arith, ap (λ k. start_level (at log k)) e)))
        (λ g. dite (dec_le (start_level (at log b)) m)
        (λ h. (b, omega arith, omega arith, crosses-up (at log b) m h (omega (arith, meets b i)), λ k c d. absurd (omega arith)))
        (λ h. let w = rises m a b (omega arith) (omega arith) s (omega arith) in (w.0, w.1, omega (arith, w.2), w.3, λ k c d. further w.0 w.4 k c d)))
        (eq-or-lt_of_le l)
      where
        further : (p : ℕ) → ((k : ℕ) → p < k → k < b → at log k ≢ closing m) → (k : ℕ) → p < k → k < suc b → at log k ≢ closing m
        further p none k c d x =
            let le : k ≤ b = omega arith in
            ⊎_elim (λ (e : k ≡ b). omega (arith, meets b i, ap end_level (rw e at x))) (λ f. none k c f x) (eq-or-lt_of_le le)

  -- A close at depth d is among the records exactly if it stands at some place.
  pub closed_in-at : (d : ℕ) (xs : List (Record R)) → closed_in d xs ≡ true → (k : ℕ) × (k < length xs) × (at xs k ≡ closing d)
  closed_in-at d [] e = absurd (let z : ◌≡◌ {A = ℕ} 0 1 = cc in omega arith)
  closed_in-at d (opening c r ∷ xs) e = let w = closed_in-at d xs e in (suc w.0, omega (arith, w.1), w.2)
  closed_in-at d (closing c ∷ xs) e = go (eqb c d) refl (closed_in-at d xs) e
    where
      go : (b : Bool) → eqb c d ≡ b → (closed_in d xs ≡ true → (k : ℕ) × (k < length xs) × (at xs k ≡ closing d)) → b || closed_in d xs ≡ true →
          (k : ℕ) × (k < suc (length xs)) × (at (closing c ∷ xs) k ≡ closing d)
      go true t ih e = (0, omega arith, ap closing (eqb-true c d t))
      go false t ih e = let w = ih e in (suc w.0, omega (arith, w.1), w.2)

  pub at-closed_in : (d : ℕ) (xs : List (Record R)) (k : ℕ) → k < length xs → at xs k ≡ closing d → closed_in d xs ≡ true
  at-closed_in d [] k l e = absurd (omega arith)
  at-closed_in d (opening c r ∷ xs) zero l e = absurd (opening-closing (opening c r) c d r refl e)
  at-closed_in d (opening c r ∷ xs) (suc k) l e = at-closed_in d xs k (omega arith) e
  at-closed_in d (closing c ∷ xs) zero l e = let i : c ≡ d = cc in rw (eq-eqb c d i)
  at-closed_in d (closing c ∷ xs) (suc k) l e = rw (at-closed_in d xs k (omega arith) e) (go (eqb c d))
    where
      go : (b : Bool) → b || true ≡ true
      go true = refl
      go false = refl

  -- So the record opened at q is closed in the log exactly if a close at its depth is among those that follow.
  pub closed-closed_in : (log : List (Record R)) (q d : ℕ) → OpensAt log q d → closed_in d (drop (suc q) log) ≡ true → Closed log q d
  closed-closed_in log q d o e =
      let w = closed_in-at d (drop (suc q) log) e in
      let k : ℕ = suc q + w.0 in
      let i : k < length log = omega (arith, w.1, length-drop (suc q) log) in
      let c : at log k ≡ closing d = sym (get_or-drop (suc q) log w.0 (closing 0)) ∙ w.2 in
      ⊎_elim (λ none. absurd (none k (omega arith) (omega arith) c)) (λ f. (f.0, f.2)) (first-close log q d o (suc k) i)

  pub closed_in-closed : (log : List (Record R)) (q d : ℕ) → Closed log q d → closed_in d (drop (suc q) log) ≡ true
  closed_in-closed log q d c =
      let k : ℕ = c.0 - suc q in
      let e : suc q + k ≡ c.0 = omega (arith, c.1.order) in
      at-closed_in d (drop (suc q) log) k (omega (arith, length-drop (suc q) log, c.1.inside, c.1.order))
      (get_or-drop (suc q) log k (closing 0) ∙ ap (λ n. at log n) e ∙ c.1.closed)
