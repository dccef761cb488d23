-- A record's figure is what the paper says: its own record over the combined figures, in log order, of exactly those that it holds.
-- And `opened_of` is the number of opens. Assumes nothing.
use Rattle.std.specs.Prelude.{◌≡◌, refl, ◌⊎◌, ◌≢◌, Bool, true, false, cond, ℕ, zero, suc, ◌+◌, ◌≤◌, ◌<◌, eqb, length, drop}
use Rattle.std.proofs.Common.{ap, sym, ◌∙◌, inl, inr, ⊎_elim, eq-or-lt_of_le, arith, drop-cons, eqb-true, eq-eqb, ne_eqb}
use Rattle.std.proofs.Math.Logic.{dite}
use mathlib.Core.List.{List, [], ◌∷◌, map, Memᴰ}
use Rattle.std.proofs.Math.Decide.{dec_lt}
use Rattle.std.proofs.Math.ListN.{get_or-eq_default}
use Rattle.std.proofs.lemmas.Bool.{eqb-false}
use Rattle.algebra.specs.Algebra.{Algebra}
use Rattle.hill.specs.Log.{Record, opening, closing, opened_of}
use Rattle.hill.specs.Closing.{at, OpensAt, ClosedBy, Holds, Places}
use Rattle.hill.specs.Figure.{held, figure_of, figure_at, combined}
use Rattle.hill.specs.Places.{select}
use Rattle.hill.proofs.Places.{places_same, places-iff, Selected, select-places, here-rest}
use Rattle.hill.specs.HeldPlaces.{ends_at, held_from, opens_at}

module _ {R : Type 0} where
  pub opening-closing : (x : Record R) (c d : ℕ) (r : R) → x ≡ opening c r → x ≡ closing d → ⊥
  opening-closing x c d r a b = let z : ◌≡◌ {A = ℕ} 0 1 = cc in omega arith

  closing? : (x : Record R) (d : ℕ) → (x ≡ closing d) ⊎ (x ≢ closing d)
  closing? (opening c r) d = inr (λ e. opening-closing (opening c r) c d r refl e)
  closing? (closing c) d = go (eqb c d) refl
    where
      go : (b : Bool) → eqb c d ≡ b → (◌≡◌ {A = Record R} (closing c) (closing d)) ⊎ ((◌≡◌ {A = Record R} (closing c) (closing d)) → ⊥)
      go true e = inl (ap closing (eqb-true c d e))
      go false e = inr (λ f. eqb-false c d e (cc))

  -- An open stands inside the log.
  pub opens-inside : (log : List (Record R)) (q d : ℕ) → OpensAt log q d → q < length log
  opens-inside log q d o = dite (dec_lt q (length log)) (λ l. l) (λ n. absurd (opening-closing (at log q) d 0 o.0 o.1 (get_or-eq_default log (closing 0) (omega arith))))

  -- Before place n either no close at depth d follows p, or one closes it.
  pub first-close : (log : List (Record R)) (p d : ℕ) → OpensAt log p d → (n : ℕ) → n ≤ length log →
      ((k : ℕ) → p < k → k < n → at log k ≢ closing d) ⊎ ((c : ℕ) × (c < n) × ClosedBy log p c d)
  first-close log p d o zero l = inl (λ k a b. absurd (omega arith))
  first-close log p d o (suc n) l =
      ⊎_elim
      (λ none. dite (dec_lt p n)
      (λ a. ⊎_elim
      (λ (e : at log n ≡ closing d). inr (n, omega arith, record { order = a; inside = omega arith; opened = o; closed = e; first = none }))
      (λ m. inl (λ k b c. ⊎_elim (λ (e : k ≡ n). rw e m) (λ g. none k b g) (eq-or-lt_of_le (omega arith))))
      (closing? (at log n) d))
      (λ a. inl (λ k b c. absurd (omega arith))))
      (λ w. inr (w.0, omega (arith, w.1), w.2))
      (first-close log p d o n (omega arith))

  -- At most one record closes the one at p.
  pub closed-once : (log : List (Record R)) (p q k d : ℕ) → ClosedBy log p q d → ClosedBy log p k d → q ≡ k
  closed-once log p q k d a b =
      dite (dec_lt q k)
      (λ l. absurd (b.first q a.order l a.closed))
      (λ l. dite (dec_lt k q) (λ m. absurd (a.first k b.order m b.closed)) (λ m. omega arith))

  pub opens_at-true : (d : ℕ) (x : Record R) → opens_at d x ≡ true → (r : R) × (x ≡ opening d r)
  opens_at-true d (opening c r) e = (r, ap (λ k. opening k r) (eqb-true c d e))
  opens_at-true d (closing c) e = absurd (let z : ◌≡◌ {A = ℕ} 0 1 = cc in omega arith)

  pub ends_at-false : (d : ℕ) (x : Record R) → x ≢ closing d → ends_at (suc d) x ≡ false
  ends_at-false d (opening c r) n = refl
  ends_at-false d (closing c) n = ne_eqb (suc c) (suc d) (λ e. n (ap closing (omega arith)))

  module _ (log : List (Record R)) (p d : ℕ) (o : OpensAt log p d) where
    pub holds-selected : (q : ℕ) → Selected (λ x _. opens_at (suc d) x) (ends_at (suc d)) log (suc p) q → Holds log p q d
    holds-selected q s = record {
      holder = o;
      held = opens_at-true (suc d) (at log q) s.kept;
      after = omega (arith, s.from);
      before = λ c b. dite (dec_lt q c) (λ l. l) (λ l.
          let z : true ≡ false = sym (eq-eqb (suc d) (suc d) refl) ∙ (rw b.closed at (s.before c (omega (arith, b.order)) (omega arith))) in
          absurd (let y : ◌≡◌ {A = ℕ} 0 1 = cc in omega arith));
    }

    pub selected-holds : (q : ℕ) → Holds log p q d → Selected (λ x _. opens_at (suc d) x) (ends_at (suc d)) log (suc p) q
    selected-holds q h = record {
      from = omega (arith, h.after);
      inside = opens-inside log q (suc d) h.held;
      kept = rw h.held.1 (eq-eqb (suc d) (suc d) refl);
      before = λ k a b. ends_at-false d (at log k) (none k a b);
    }
      where
        none : (k : ℕ) → suc p ≤ k → k ≤ q → at log k ≢ closing d
        none k a b e =
            ⊎_elim
            (λ f. ⊎_elim
            (λ (i : k ≡ q). opening-closing (at log q) (suc d) d h.held.0 h.held.1 (rw i at e))
            (λ i. f k (omega arith) i e) (eq-or-lt_of_le b))
            (λ w. omega (arith, w.1, h.before w.0 w.2))
            (first-close log p d o q (omega (arith, opens-inside log q (suc d) h.held)))

    -- What the record opened at p holds, in log order.
    pub held-listed : Places (λ q. Holds log p q d) (held_from (suc d) (suc p) (drop (suc p) log))
    held-listed = places-iff holds-selected selected-holds (select-places (λ x _. opens_at (suc d) x) (ends_at (suc d)) log (suc p) (drop (suc p) log) refl)

module _ {R : Type 0} (𝒜 : Algebra R) where
  open 𝒜 use {Fig, ι, ◌⊗◌, node}

  infixl 70 ◌⊗◌
  held-select : (log : List (Record R)) (d n : ℕ) (xs : List (Record R)) → drop n log ≡ xs → held 𝒜 d xs ≡ combined 𝒜 (map (figure_at 𝒜 log) (held_from d n xs))
  held-select log d n [] e = refl
  held-select log d n (opening c r ∷ xs) e = go (eqb c d) refl (held-select log d (suc n) xs (here-rest log n (opening c r) xs e))
    where
      go : (b : Bool) → eqb c d ≡ b → held 𝒜 d xs ≡ combined 𝒜 (map (figure_at 𝒜 log) (held_from d (suc n) xs)) →
          cond b (node r (held 𝒜 (suc d) xs) ⊗ held 𝒜 d xs) (held 𝒜 d xs) ≡ combined 𝒜 (map (figure_at 𝒜 log) (cond b (n ∷ held_from d (suc n) xs) (held_from d (suc n) xs)))
      go true t ih = rw (e, eqb-true c d t, ih)
      go false t ih = ih
  held-select log d n (closing c ∷ xs) e = go (eqb (suc c) d) (held-select log d (suc n) xs (here-rest log n (closing c) xs e))
    where
      go : (b : Bool) → held 𝒜 d xs ≡ combined 𝒜 (map (figure_at 𝒜 log) (held_from d (suc n) xs)) →
          cond b ι (held 𝒜 d xs) ≡ combined 𝒜 (map (figure_at 𝒜 log) (cond b [] (held_from d (suc n) xs)))
      go true ih = refl
      go false ih = ih

  -- THE FIGURE OF A RECORD: the record opened at p over the combined figures, in log order, of exactly the records that it holds.
  pub held-figure : (log : List (Record R)) (p d : ℕ) (r : R) → at log p ≡ opening d r → (qs : List ℕ) → Places (λ q. Holds log p q d) qs →
      figure_at 𝒜 log p ≡ node r (combined 𝒜 (map (figure_at 𝒜 log) qs))
  held-figure log p d r e qs l =
      ap (figure_of 𝒜) (drop-cons log p (closing 0) (opens-inside log p d (r, e)) ∙ ap (λ x. x ∷ drop (suc p) log) e) ∙
      ap (node r) (held-select log (suc d) (suc p) (drop (suc p) log) refl ∙ ap (λ ps. combined 𝒜 (map (figure_at 𝒜 log) ps)) (places_same (held-listed log p d (r, e)) l))

  map-members : (f g : ℕ → Fig) (qs : List ℕ) → ((q : ℕ) → Memᴰ q qs → f q ≡ g q) → map f qs ≡ map g qs
  map-members f g [] k = refl
  map-members f g (q ∷ qs) k = rw (k q (Memᴰ.head refl), map-members f g qs (λ p m. k p (Memᴰ.tail m)))

  -- No other figures of records meet that sentence.
  pub figure-only : (log : List (Record R)) (f : ℕ → Fig) →
      ((p d : ℕ) (r : R) → at log p ≡ opening d r → (qs : List ℕ) → Places (λ q. Holds log p q d) qs → f p ≡ node r (combined 𝒜 (map f qs))) →
      (p d : ℕ) → OpensAt log p d → f p ≡ figure_at 𝒜 log p
  figure-only log f says p d o = go (length log) p d o (omega arith)
    where
      go : (n p d : ℕ) → OpensAt log p d → length log ≤ p + n → f p ≡ figure_at 𝒜 log p
      go zero p d o l = absurd (omega (arith, opens-inside log p d o))
      go (suc n) p d o l =
          let qs : List ℕ = held_from (suc d) (suc p) (drop (suc p) log) in
          let h : Places (λ q. Holds log p q d) qs = held-listed log p d o in
          says p d o.0 o.1 qs h ∙
          rw (map-members f (figure_at 𝒜 log) qs (λ q m. go n q (suc d) (h.only q m).held (omega (arith, (h.only q m).after)))) (sym (held-figure log p d o.0 o.1 qs h))

module _ {R : Type 0} where
  abbrev pub is_open : Record R → Bool
  is_open (opening d r) = true
  is_open (closing d) = false

  is_open-true : (x : Record R) → is_open x ≡ true → (d : ℕ) × ((r : R) × (x ≡ opening d r))
  is_open-true (opening d r) e = (d, (r, refl))
  is_open-true (closing d) e = absurd (let z : ◌≡◌ {A = ℕ} 0 1 = cc in omega arith)

  opened-length : (n : ℕ) (xs : List (Record R)) → length (select (λ x _. is_open x) (λ _. false) n xs) ≡ opened_of xs
  opened-length n [] = refl
  opened-length n (opening d r ∷ xs) = omega (arith, opened-length (suc n) xs)
  opened-length n (closing d ∷ xs) = omega (arith, opened-length (suc n) xs)

  selected-opens : (log : List (Record R)) (p : ℕ) → (d : ℕ) × OpensAt log p d → Selected (λ x _. is_open x) (λ _. false) log 0 p
  selected-opens log p o = record { from = omega arith; inside = opens-inside log p o.0 o.1; kept = rw o.1.1; before = λ k a b. refl }

  opens-selected : (log : List (Record R)) (p : ℕ) → Selected (λ x _. is_open x) (λ _. false) log 0 p → (d : ℕ) × OpensAt log p d
  opens-selected log p s = is_open-true (at log p) s.kept

  pub opened-listed : (log : List (Record R)) → Places (λ p. (d : ℕ) × OpensAt log p d) (select (λ x _. is_open x) (λ _. false) 0 log)
  opened-listed log = places-iff (opens-selected log) (selected-opens log) (select-places (λ x _. is_open x) (λ _. false) log 0 log refl)

  -- OPENED: as many as the places where an open stands.
  pub opened-count : (log : List (Record R)) (ps : List ℕ) → Places (λ p. (d : ℕ) × OpensAt log p d) ps → opened_of log ≡ length ps
  opened-count log ps l = sym (opened-length 0 log) ∙ ap length (places_same (opened-listed log) l)
