-- Lists of places: split by a property, and counted from a place on. Assumes nothing.
use Rattle.std.specs.Prelude.{◌≡◌, refl, ◌⊎◌, ℕ, ◌+◌, ◌-◌, ◌≤◌, ◌<◌}
use Rattle.std.proofs.Common.{ap, sym, subst, inl, inr, ⊎_elim, arith}
use mathlib.Core.List.Memᴰ
use mathlib.Core.List.{List, [], ◌∷◌, map, Memᴰ}
use Rattle.algebra.specs.Algebra.{Algebra, Laws, Commutative}
use Rattle.hill.specs.Sorted.{Sorted}
use Rattle.hill.specs.Closing.{Places}
use Rattle.hill.specs.Figure.{combined}

-- The members of a list of places that have P, and those that have not.
module _ {P : ℕ → Type 0} (test : (q : ℕ) → Dec (P q)) where
  abbrev pick : {q : ℕ} → Dec (P q) → List ℕ → List ℕ
  pick {q} (yes h) qs = q ∷ qs
  pick {q} (no h) qs = qs

  abbrev leave : {q : ℕ} → Dec (P q) → List ℕ → List ℕ
  leave {q} (yes h) qs = qs
  leave {q} (no h) qs = q ∷ qs

  abbrev pub those : List ℕ → List ℕ
  those [] = []
  those (q ∷ qs) = pick (test q) (those qs)

  abbrev pub others : List ℕ → List ℕ
  others [] = []
  others (q ∷ qs) = leave (test q) (others qs)

  module _ {R : Type 0} (𝒜 : Algebra R) (ℒ : Laws 𝒜) (comm : Commutative 𝒜) (f : ℕ → 𝒜.Fig) where
    open 𝒜 use {Fig, ι, ◌⊗◌}
    open ℒ use {assoc, unit-l}

    infixl 70 ◌⊗◌
    pub combined-split : (qs : List ℕ) → combined 𝒜 (map f qs) ≡ combined 𝒜 (map f (those qs)) ⊗ combined 𝒜 (map f (others qs))
    combined-split [] = sym (unit-l ι)
    combined-split (q ∷ qs) = go (test q) (combined-split qs)
      where
        go : (d : Dec (P q)) → combined 𝒜 (map f qs) ≡ combined 𝒜 (map f (those qs)) ⊗ combined 𝒜 (map f (others qs)) →
            f q ⊗ combined 𝒜 (map f qs) ≡ combined 𝒜 (map f (pick d (those qs))) ⊗ combined 𝒜 (map f (leave d (others qs)))
        go (yes h) ih = rw ih (sym (assoc _ _ _))
        go (no h) ih = rw (ih, ← assoc (f q) (combined 𝒜 (map f (those qs))) (combined 𝒜 (map f (others qs))), comm (f q) (combined 𝒜 (map f (those qs)))) (assoc _ _ _)

  those-mem : (q : ℕ) (qs : List ℕ) → Memᴰ q (those qs) → Memᴰ q qs × P q
  those-mem q [] m = absurd (Memᴰ.not-nil m)
  those-mem q (p ∷ qs) m = go (test p) (those-mem q qs) m
    where
      go : (d : Dec (P p)) → (Memᴰ q (those qs) → Memᴰ q qs × P q) → Memᴰ q (pick d (those qs)) → Memᴰ q (p ∷ qs) × P q
      go (yes h) ih m = ⊎_elim (λ (e : q ≡ p). (Memᴰ.head e, subst P (sym e) h)) (λ n. let w = ih n in (Memᴰ.tail w.0, w.1)) (Memᴰ.cases_cons m)
      go (no h) ih m = let w = ih m in (Memᴰ.tail w.0, w.1)

  others-mem : (q : ℕ) (qs : List ℕ) → Memᴰ q (others qs) → Memᴰ q qs × (P q → ⊥)
  others-mem q [] m = absurd (Memᴰ.not-nil m)
  others-mem q (p ∷ qs) m = go (test p) (others-mem q qs) m
    where
      go : (d : Dec (P p)) → (Memᴰ q (others qs) → Memᴰ q qs × (P q → ⊥)) → Memᴰ q (leave d (others qs)) → Memᴰ q (p ∷ qs) × (P q → ⊥)
      go (yes h) ih m = let w = ih m in (Memᴰ.tail w.0, w.1)
      go (no h) ih m = ⊎_elim (λ (e : q ≡ p). (Memᴰ.head e, subst (λ k. P k → ⊥) (sym e) h)) (λ n. let w = ih n in (Memᴰ.tail w.0, w.1)) (Memᴰ.cases_cons m)

  split-mem : (q : ℕ) (qs : List ℕ) → Memᴰ q qs → Memᴰ q (those qs) ⊎ Memᴰ q (others qs)
  split-mem q [] m = absurd (Memᴰ.not-nil m)
  split-mem q (p ∷ qs) m = go (test p) (split-mem q qs) (Memᴰ.cases_cons m)
    where
      go : (d : Dec (P p)) → (Memᴰ q qs → Memᴰ q (those qs) ⊎ Memᴰ q (others qs)) → (q ≡ p) ⊎ Memᴰ q qs → Memᴰ q (pick d (those qs)) ⊎ Memᴰ q (leave d (others qs))
      go (yes h) ih (inl e) = inl (Memᴰ.head e)
      go (no h) ih (inl e) = inr (Memᴰ.head e)
      go (yes h) ih (inr n) = ⊎_elim (λ a. inl (Memᴰ.tail a)) inr (ih n)
      go (no h) ih (inr n) = ⊎_elim inl (λ b. inr (Memᴰ.tail b)) (ih n)

  those-rising : (qs : List ℕ) → Sorted ◌<◌ qs → Sorted ◌<◌ (those qs)
  those-rising [] s = tt
  those-rising (p ∷ qs) s = go (test p) (those-rising qs s.1)
    where
      go : (d : Dec (P p)) → Sorted ◌<◌ (those qs) → Sorted ◌<◌ (pick d (those qs))
      go (yes h) ih = (λ q m. s.0 q (those-mem q qs m).0, ih)
      go (no h) ih = ih

  others-rising : (qs : List ℕ) → Sorted ◌<◌ qs → Sorted ◌<◌ (others qs)
  others-rising [] s = tt
  others-rising (p ∷ qs) s = go (test p) (others-rising qs s.1)
    where
      go : (d : Dec (P p)) → Sorted ◌<◌ (others qs) → Sorted ◌<◌ (leave d (others qs))
      go (yes h) ih = ih
      go (no h) ih = (λ q m. s.0 q (others-mem q qs m).0, ih)

  pub those-places : {Q : ℕ → Type 0} (qs : List ℕ) → Places Q qs → Places (λ q. Q q × P q) (those qs)
  those-places qs l = record {
    rising = those-rising qs l.rising;
    all = λ q h. ⊎_elim (λ m. m) (λ m. absurd ((others-mem q qs m).1 h.1)) (split-mem q qs (l.all q h.0));
    only = λ q m. let w = those-mem q qs m in (l.only q w.0, w.1);
  }

  pub others-places : {Q : ℕ → Type 0} (qs : List ℕ) → Places Q qs → Places (λ q. Q q × (P q → ⊥)) (others qs)
  others-places qs l = record {
    rising = others-rising qs l.rising;
    all = λ q h. ⊎_elim (λ m. absurd (h.1 (those-mem q qs m).1)) (λ m. m) (split-mem q qs (l.all q h.0));
    only = λ q m. let w = others-mem q qs m in (l.only q w.0, w.1);
  }

-- Places counted from a on.
module _ (a : ℕ) where
  abbrev pub from : List ℕ → List ℕ
  from qs = map (λ q. q - a) qs

  from-mem : (k : ℕ) (qs : List ℕ) → Memᴰ k (from qs) → (q : ℕ) × Memᴰ q qs × (k ≡ q - a)
  from-mem k [] m = absurd (Memᴰ.not-nil m)
  from-mem k (p ∷ qs) m = ⊎_elim (λ (e : k ≡ p - a). (p, Memᴰ.head refl, e)) (λ n. let w = from-mem k qs n in (w.0, Memᴰ.tail w.1, w.2)) (Memᴰ.cases_cons m)

  mem-from : (q : ℕ) (qs : List ℕ) → Memᴰ q qs → Memᴰ (q - a) (from qs)
  mem-from q [] m = absurd (Memᴰ.not-nil m)
  mem-from q (p ∷ qs) m = ⊎_elim (λ (e : q ≡ p). Memᴰ.head (ap (λ k. k - a) e)) (λ n. Memᴰ.tail (mem-from q qs n)) (Memᴰ.cases_cons m)

  from-rising : (qs : List ℕ) → ((q : ℕ) → Memᴰ q qs → a ≤ q) → Sorted ◌<◌ qs → Sorted ◌<◌ (from qs)
  from-rising [] f s = tt
  from-rising (p ∷ qs) f s = (
    λ k m. let w = from-mem k qs m in omega (arith, w.2, s.0 w.0 w.1, f p (Memᴰ.head refl)),
    from-rising qs (λ q m. f q (Memᴰ.tail m)) s.1,
  )

  pub from_places : {Q : ℕ → Type 0} (qs : List ℕ) → ((q : ℕ) → Q q → a ≤ q) → Places Q qs → Places (λ k. Q (a + k)) (from qs)
  from_places {Q} qs f l = record {
    rising = from-rising qs (λ q m. f q (l.only q m)) l.rising;
    all = λ k h. let e : (a + k) - a ≡ k = omega arith in subst (λ j. Memᴰ j (from qs)) e (mem-from (a + k) qs (l.all (a + k) h));
    only = λ k m. let w = from-mem k qs m in let e : w.0 ≡ a + k = omega (arith, w.2, f w.0 (l.only w.0 w.1)) in subst Q e (l.only w.0 w.1);
  }

  pub combined-from : {R : Type 0} (𝒜 : Algebra R) (f g : ℕ → 𝒜.Fig) (qs : List ℕ) → ((q : ℕ) → Memᴰ q qs → f (q - a) ≡ g q) → combined 𝒜 (map f (from qs)) ≡ combined 𝒜 (map g qs)
  combined-from 𝒜 f g [] e = refl
  combined-from 𝒜 f g (p ∷ qs) e = rw (e p (Memᴰ.head refl), combined-from 𝒜 f g qs (λ q m. e q (Memᴰ.tail m)))
