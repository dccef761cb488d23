-- What a pass over the log has at a close is the figure of the record that is closed. Assumes nothing.
use Rattle.std.specs.Prelude.{◌≡◌, refl, List, [], ◌∷◌, ℕ, zero, suc, ◌+◌, ◌-◌, ◌≤◌, ◌<◌, length, drop}
use Rattle.std.proofs.Common.{sym, ap, ap₂, ◌∙◌, arith, drop-cons, eq-eqb, ne_eqb}
use Rattle.algebra.specs.Algebra.{Algebra, Laws}
use Rattle.hill.specs.Log.{Record, opening, closing, depth}
use Rattle.hill.specs.Closing.{at}
use Rattle.hill.proofs.HeldPlaces.{opens-inside}
use Rattle.hill.specs.Figure.{held, figure_of, figure_at}
use Rattle.hill.specs.Summary.{Hill, hill, rights}
use Rattle.hill.specs.Building.{join, step}
use Rattle.log_records.specs.StackLaws.{OpenStack}
use Rattle.log_records.specs.CloseFigure.{Carried}

module _ {R : Type 0} (𝒜 : Algebra R) (ℒ : Laws 𝒜) (xs : List (Record R)) where
  open 𝒜 use {Fig, ι, ◌⊗◌, node}
  open ℒ use {assoc, unit-l, unit-r}

  infixl 70 ◌⊗◌
  -- ---- deeper records are passed over

  deeper : (d : ℕ) (x : Record R) (ys : List (Record R)) → d < depth x → held 𝒜 d (x ∷ ys) ≡ held 𝒜 d ys
  deeper d (opening c r) ys l = rw (ne_eqb c d (λ e. omega arith))
  deeper d (closing c) ys l = rw (ne_eqb (suc c) d (λ e. omega arith))

  here : (k : ℕ) (x : Record R) → k < length xs → at xs k ≡ x → drop k xs ≡ x ∷ drop (suc k) xs
  here k x l e = drop-cons xs k (closing 0) l ∙ ap (λ y. y ∷ drop (suc k) xs) e

  all-deeper : (d p n k : ℕ) → n + suc p ≡ k → k ≤ length xs → ((j : ℕ) → p < j → j < k → d < depth (at xs j)) → held 𝒜 d (drop (suc p) xs) ≡ held 𝒜 d (drop k xs)
  all-deeper d p zero k e l f = let h : suc p ≡ k = omega arith in ap (λ i. held 𝒜 d (drop i xs)) h
  all-deeper d p (suc n) k e l f =
      let j : ℕ = n + suc p in
      let h : suc j ≡ k = omega arith in
      all-deeper d p n j refl (omega arith) (λ i a b. f i a (omega arith)) ∙
      ap (held 𝒜 d) (here j (at xs j) (omega arith) refl) ∙ deeper d (at xs j) (drop (suc j) xs) (f j (omega arith) (omega arith)) ∙ ap (λ i. held 𝒜 d (drop i xs)) h

  -- ---- an open

  pub carried-open : (k : ℕ) (ps : List ℕ) {d : ℕ} {r : R} (h : Hill Fig R) → at xs k ≡ opening d r → d ≡ length ps → Carried 𝒜 ℒ xs k ps (rights h) → Carried 𝒜 ℒ xs (suc k) (k ∷ ps) (rights (step 𝒜 h (opening d r)))
  carried-open k ps {r = r} (hill u m ds) e l c = (e ∙ ap (λ i. opening i r) l, sym (unit-l (held 𝒜 (suc (length ps)) (drop (suc k) xs))), c)

  -- ---- a close

  module _ (k p : ℕ) (ps : List ℕ) (inside : k < length xs) (w : OpenStack xs k (p ∷ ps)) (e : at xs k ≡ closing (length ps)) where
    -- from the record's open to its close, nothing is held at its depth
    passed_over : held 𝒜 (length ps) (drop (suc p) xs) ≡ held 𝒜 (length ps) (drop (suc k) xs)
    passed_over =
        all-deeper (length ps) p (k - suc p) k (omega (arith, w.0.before)) (omega arith) (λ j a b. w.0.deeper j a b) ∙
        ap (held 𝒜 (length ps)) (here k (closing (length ps)) inside e) ∙
        rw (ne_eqb (suc (length ps)) (length ps) (λ h. omega arith))

    module _ (r : R) (h : Fig) (ds : List (R × Fig)) (c : Carried 𝒜 ℒ xs k (p ∷ ps) ((r, h) ∷ ds)) where
      all_held : held 𝒜 (suc (length ps)) (drop (suc p) xs) ≡ h
      all_held = c.1 ∙ ap (λ ys. h ⊗ held 𝒜 (suc (length ps)) ys) (here k (closing (length ps)) inside e) ∙ rw (eq-eqb (suc (length ps)) (suc (length ps)) refl) (unit-r h)

      opened-here : drop p xs ≡ opening (length ps) r ∷ drop (suc p) xs
      opened-here = here p (opening (length ps) r) (opens-inside xs p (length ps) (r, c.0)) c.0

      -- THE FIGURE OF THE CLOSED RECORD.
      pub close-figure : figure_at 𝒜 xs p ≡ node r h
      close-figure = ap (figure_of 𝒜) opened-here ∙ ap (node r) all_held

      -- what is held from its open on is its figure, and what is held after its close
      held-here : held 𝒜 (length ps) (drop p xs) ≡ node r h ⊗ held 𝒜 (length ps) (drop (suc k) xs)
      held-here =
          ap (held 𝒜 (length ps)) opened-here ∙ rw (eq-eqb (length ps) (length ps) refl) (ap₂ (λ (a b : Fig). node r a ⊗ b) all_held passed_over)

  -- the record below has one figure more
  joined-below : (k p : ℕ) (ps : List ℕ) (r : R) (h : Fig) (u : List Fig) (m : Fig) (ds : List (R × Fig)) → k < length xs → OpenStack xs k (p ∷ ps) → at xs k ≡ closing (length ps)
      → Carried 𝒜 ℒ xs k (p ∷ ps) ((r, h) ∷ ds) → Carried 𝒜 ℒ xs (suc k) ps (rights (join 𝒜 (node r h) (hill u m ds)))
  joined-below k p [] r h u m [] i w e c = tt
  joined-below k p [] r h u m (f ∷ ds) i w e c = absurd c.2
  joined-below k p (q ∷ ps) r h u m [] i w e c = absurd c.2
  joined-below k p (q ∷ ps) r h u m (f ∷ ds) i w e c =
      let t = c.2 in
      (t.0, t.1 ∙ ap (λ (a : Fig). f.1 ⊗ a) (held-here k p (q ∷ ps) i w e r h (f ∷ ds) c) ∙ sym (assoc f.1 (node r h) (held 𝒜 (suc (length ps)) (drop (suc k) xs))), t.2)

  pub carried-close : (k p : ℕ) (ps : List ℕ) {d : ℕ} (h : Hill Fig R) → k < length xs → OpenStack xs k (p ∷ ps) → at xs k ≡ closing d → d ≡ length ps → Carried 𝒜 ℒ xs k (p ∷ ps) (rights h)
      → Carried 𝒜 ℒ xs (suc k) ps (rights (step 𝒜 h (closing d)))
  carried-close k p ps (hill u m []) i w e l c = absurd c
  carried-close k p ps (hill u m (f ∷ ds)) i w e l c = joined-below k p ps f.0 f.1 u m ds i w (e ∙ ap closing l) c
