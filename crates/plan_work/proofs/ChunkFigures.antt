-- The figure of a record that its chunk closes is the same in the chunk and in the log. Assumes nothing.
use Rattle.std.specs.Prelude.{◌≡◌, Bool, true, false, cond, eqb, length, get_or, drop}
use Rattle.std.proofs.Common.{sym, ap, subst, ◌∙◌, arith, eqb-true, eq-eqb, length-drop, drop-cons, drop-drop, get_or-drop}
use Rattle.std.proofs.Math.Path.{refl}
use mathlib.Core.List.{List, [], ◌∷◌, ◌++◌}
use Prim.Native.Nat.{ℕ, zero, suc, ◌+◌, ◌-◌, ◌<◌}
use Rattle.std.proofs.lemmas.Bool.{eqb-false}
use Rattle.std.proofs.lemmas.List.{drop-append-le}
use Rattle.std.proofs.Math.Seq.{drop-append-add}
use Rattle.algebra.specs.Algebra.{Algebra}
use Rattle.hill.specs.Log.{Record, opening, closing, start_level, end_level}
use Rattle.hill.specs.Closing.{at, ClosedBy}
use Rattle.hill.specs.Figure.{held, figure_at}
use Rattle.hill.specs.Row.{joined}
use Rattle.hill.proofs.HeldPlaces.{opening-closing}
use Rattle.hill.proofs.Spell.{Meets}
use Rattle.hill.specs.Crossings.{Meeting}
use Rattle.hill.proofs.Crossings.{falls}
use Rattle.join_plan.specs.ByRecords.{place}

module _ {R : Type 0} where
  closing_same : {c d : ℕ} → ◌≡◌ {A = Record R} (closing c) (closing d) → c ≡ d
  closing_same e = cc

  meets-after : (t : ℕ) (xs : List (Record R)) (q l : ℕ) (r : R) → Meets t xs → q < length xs → at xs q ≡ opening l r → Meets (suc l) (drop (suc q) xs)
  meets-after t [] q l r m b e = absurd (omega arith)
  meets-after t (x ∷ xs) zero l r m b e = subst (λ (k : ℕ). Meets k xs) (ap end_level e) m.1
  meets-after t (x ∷ xs) (suc q) l r m b e = meets-after (end_level x) xs q l r m.1 (omega arith) e

  meets-meeting : (t : ℕ) (xs : List (Record R)) → Meets t xs → Meeting xs
  meets-meeting t [] m k l = absurd (omega arith)
  meets-meeting t (x ∷ []) m k l = absurd (omega arith)
  meets-meeting t (x ∷ (y ∷ xs)) m zero l = m.1.0
  meets-meeting t (x ∷ (y ∷ xs)) m (suc k) l = meets-meeting (end_level x) (y ∷ xs) m.1 k (omega arith)

  meets-start : (t : ℕ) (xs : List (Record R)) → 0 < length xs → Meets t xs → start_level (at xs 0) ≡ t
  meets-start t [] n m = absurd (omega arith)
  meets-start t (x ∷ xs) n m = sym m.0

module _ {R : Type 0} (𝒜 : Algebra R) where
  open 𝒜 use {Fig, ι, ◌⊗◌, node}

  infixl 70 ◌⊗◌
  -- What a record of depth k holds, if the records xs close it, does not depend on what follows them.
  held-closed : (xs ys : List (Record R)) (t k n : ℕ) → Meets t xs → k < t → n < length xs → at xs n ≡ closing k → held 𝒜 (suc k) (xs ++ ys) ≡ held 𝒜 (suc k) xs
  held-closed [] ys t k n m b i e = absurd (omega arith)
  held-closed (opening c r ∷ xs) ys t k zero m b i e = absurd (opening-closing (opening c r) c k r refl e)
  held-closed (opening c r ∷ xs) ys t k (suc n) m b i e =
      go (eqb c (suc k)) refl (held-closed xs ys (suc c) k n m.1 (omega (arith, m.0)) (omega arith) e)
      (λ h w. held-closed xs ys (suc c) (suc k) w.0 m.1 h w.1 w.2)
    where
      go : (b : Bool) → eqb c (suc k) ≡ b → held 𝒜 (suc k) (xs ++ ys) ≡ held 𝒜 (suc k) xs →
          (suc k < suc c → (j : ℕ) × (j < length xs) × (at xs j ≡ closing (suc k)) → held 𝒜 (suc (suc k)) (xs ++ ys) ≡ held 𝒜 (suc (suc k)) xs) →
          cond b (node r (held 𝒜 (suc (suc k)) (xs ++ ys)) ⊗ held 𝒜 (suc k) (xs ++ ys)) (held 𝒜 (suc k) (xs ++ ys)) ≡
          cond b (node r (held 𝒜 (suc (suc k)) xs) ⊗ held 𝒜 (suc k) xs) (held 𝒜 (suc k) xs)
      go true q ih deeper =
          let c≡ : c ≡ suc k = eqb-true c (suc k) q in
          let (j, a, b, x) = falls xs (meets-meeting (suc c) xs m.1) (suc k) 0 n (omega arith) (omega arith) (omega (arith, meets-start (suc c) xs (omega arith) m.1)) (omega (arith, ap start_level e)) in
          rw (ih, deeper (omega arith) (j, omega arith, x))
      go false q ih deeper = ih
  held-closed (closing c ∷ xs) ys t k zero m b i e = rw (eq-eqb (suc c) (suc k) (ap suc (closing_same e)))
  held-closed (closing c ∷ xs) ys t k (suc n) m b i e = go (eqb (suc c) (suc k)) refl (λ h. held-closed xs ys c k n m.1 h (omega arith) e)
    where
      go : (s : Bool) → eqb (suc c) (suc k) ≡ s → (k < c → held 𝒜 (suc k) (xs ++ ys) ≡ held 𝒜 (suc k) xs) → cond s ι (held 𝒜 (suc k) (xs ++ ys)) ≡ cond s ι (held 𝒜 (suc k) xs)
      go true q ih = refl
      go false q ih = let d : suc c ≡ suc k → ⊥ = eqb-false (suc c) (suc k) q in ih (omega (arith, m.0))

  -- So does its figure.
  figure-closed : (xs ys : List (Record R)) (t q c l : ℕ) → Meets t xs → ClosedBy xs q c l → figure_at 𝒜 (xs ++ ys) q ≡ figure_at 𝒜 xs q
  figure-closed xs ys t q c l m h =
      let i : q < length xs = omega (arith, h.order, h.inside) in
      let r : R = h.opened.0 in
      let e : suc q + (c - suc q) ≡ c = omega (arith, h.order) in
      let whole : drop q xs ≡ opening l r ∷ drop (suc q) xs = drop-cons xs q (closing 0) i ∙ ap (λ (x : Record R). x ∷ drop (suc q) xs) h.opened.1 in
      rw (drop-append-le q xs ys (omega arith), whole)
      (ap (node r) (held-closed (drop (suc q) xs) ys (suc l) l (c - suc q) (meets-after t xs q l r m i h.opened.1) (omega arith)
      (rw (length-drop (suc q) xs) (omega (arith, h.order, h.inside)))
      (get_or-drop (suc q) xs (c - suc q) (closing 0) ∙ ap (at xs) e ∙ h.closed)))

  drop-place : (cs : List (List (Record R))) (i : ℕ) → drop (place cs i) (joined cs) ≡ get_or cs i [] ++ joined (drop (suc i) cs)
  unfolding place
  drop-place [] zero = refl
  drop-place [] (suc i) = refl
  drop-place (c ∷ cs) zero = refl
  drop-place (c ∷ cs) (suc i) = drop-append-add c (joined cs) (place cs i) ∙ drop-place cs i

  pub figure-chunk : (cs : List (List (Record R))) (i t q c l : ℕ) → Meets t (get_or cs i []) → ClosedBy (get_or cs i []) q c l →
      figure_at 𝒜 (joined cs) (place cs i + q) ≡ figure_at 𝒜 (get_or cs i []) q
  figure-chunk cs i t q c l m h =
      rw (← drop-drop q (place cs i) (joined cs), drop-place cs i) (figure-closed (get_or cs i []) (joined (drop (suc i) cs)) t q c l m h)
