-- Records that are alike: opens and closes at the same depths, and what each open carries related to what the other does. They have the same faults, and the
-- same figure where what is related counts the same. Assumes nothing.
use Rattle.std.specs.Prelude.{◌≡◌, refl, Bool, true, false, List, [], ◌∷◌, ◌++◌, ℕ, suc, ◌+◌, eqb}
use Rattle.std.proofs.Common.{ap, ap₂, ◌∙◌}
use Rattle.algebra.specs.Algebra.{Algebra}
use Rattle.hill.specs.Verdict.{Verdict, low, joint}
use Rattle.hill.specs.Log.{Record, opening, closing, start_level, end_level, end_of, opened_of, joints, log_fault}
use Rattle.hill.specs.Figure.{held, figure_of}

pub data Alike {R : Type 0} (Same : R → R → Type 0) : List (Record R) → List (Record R) → Type 0 where
  none : Alike Same [] []
  opens : (d : ℕ) (r s : R) (xs ys : List (Record R)) → Same r s → Alike Same xs ys → Alike Same (opening d r ∷ xs) (opening d s ∷ ys)
  closes : (d : ℕ) (xs ys : List (Record R)) → Alike Same xs ys → Alike Same (closing d ∷ xs) (closing d ∷ ys)

-- chunks that are alike, joined
pub alike-append : {R : Type 0} (Same : R → R → Type 0) (xs ys us vs : List (Record R)) → Alike Same xs ys → Alike Same us vs → Alike Same (xs ++ us) (ys ++ vs)
alike-append Same xs ys us vs none b = b
alike-append Same xs ys us vs (opens d r s xs₁ ys₁ c a) b = opens d r s _ _ c (alike-append Same xs₁ ys₁ us vs a b)
alike-append Same xs ys us vs (closes d xs₁ ys₁ a) b = closes d _ _ (alike-append Same xs₁ ys₁ us vs a b)

-- ---- faults: of a record only its kind and its depth are asked

module _ {R : Type 0} (Same : R → R → Type 0) where
  alike-opened : (xs ys : List (Record R)) → Alike Same xs ys → opened_of xs ≡ opened_of ys
  alike-opened xs ys none = refl
  alike-opened xs ys (opens d r s us vs c a) = ap (λ (n : ℕ). 1 + n) (alike-opened us vs a)
  alike-opened xs ys (closes d us vs a) = ap (λ (n : ℕ). 0 + n) (alike-opened us vs a)

  -- after records x and y that end at one level
  alike_end : (x y : Record R) (xs ys : List (Record R)) → end_level x ≡ end_level y → Alike Same xs ys → end_of x xs ≡ end_of y ys
  alike_end x y xs ys e none = e
  alike_end x y xs ys e (opens d r s us vs c a) = alike_end (opening d r) (opening d s) us vs refl a
  alike_end x y xs ys e (closes d us vs a) = alike_end (closing d) (closing d) us vs refl a

  alike-joints : (x y : Record R) (xs ys : List (Record R)) → end_level x ≡ end_level y → Alike Same xs ys → joints x xs ≡ joints y ys
  alike-joints x y xs ys e none = refl
  alike-joints x y xs ys e (opens d r s us vs c a) = ap₂ (λ (l : ℕ) (v : Verdict). low (joint l d) v) e (alike-joints (opening d r) (opening d s) us vs refl a)
  alike-joints x y xs ys e (closes d us vs a) = ap₂ (λ (l : ℕ) (v : Verdict). low (joint l (suc d)) v) e (alike-joints (closing d) (closing d) us vs refl a)

  from_first : (x y : Record R) (xs ys : List (Record R)) → start_level x ≡ start_level y → end_level x ≡ end_level y → opened_of (x ∷ xs) ≡ opened_of (y ∷ ys) → Alike Same xs ys →
      log_fault (x ∷ xs) ≡ log_fault (y ∷ ys)
  from_first x y xs ys b e n a = rw (alike-joints x y xs ys e a, n, b, alike_end x y xs ys e a)

  pub alike-fault : (xs ys : List (Record R)) → Alike Same xs ys → log_fault xs ≡ log_fault ys
  alike-fault xs ys none = refl
  alike-fault xs ys (opens d r s us vs c a) = from_first (opening d r) (opening d s) us vs refl refl (ap (λ (n : ℕ). 1 + n) (alike-opened us vs a)) a
  alike-fault xs ys (closes d us vs a) = from_first (closing d) (closing d) us vs refl refl (ap (λ (n : ℕ). 0 + n) (alike-opened us vs a)) a

-- ---- figures: P is what is known of every figure, and Same what makes an open count the same over a figure of which P is known

module _ {R : Type 0} (𝒜 : Algebra R) (P : 𝒜.Fig → Type 0) (Same : R → R → Type 0) where
  open 𝒜 use {Fig, ι, ◌⊗◌, node}

  infixl 70 ◌⊗◌
  pub record Counts (r s : R) (h : Fig) : Type 0 where
    pub same : node r h ≡ node s h
    pub known : P (node r h)

  pub record CountSame : Type 0 where
    pub known-ι : P ι
    pub known-⊗ : (a b : Fig) → P a → P b → P (a ⊗ b)
    pub counts : (r s : R) (h : Fig) → Same r s → P h → Counts r s h

  module _ (k : CountSame) where
    record HeldSame (d : ℕ) (xs ys : List (Record R)) : Type 0 where
      same : held 𝒜 d xs ≡ held 𝒜 d ys
      known : P (held 𝒜 d xs)

    alike-held : (d : ℕ) (xs ys : List (Record R)) → Alike Same xs ys → HeldSame d xs ys
    alike-held d xs ys none = record { same = refl; known = k.known-ι }
    alike-held d xs ys (opens c r s us vs e a) = go (eqb c d) refl (alike-held (suc d) us vs a) (alike-held d us vs a)
      where
        go : (b : Bool) → eqb c d ≡ b → HeldSame (suc d) us vs → HeldSame d us vs → HeldSame d (opening c r ∷ us) (opening c s ∷ vs)
        go true p i j =
            let w = k.counts r s (held 𝒜 (suc d) us) e i.known in
            record {
              same = rw p (ap₂ ◌⊗◌ (w.same ∙ ap (node s) i.same) j.same);
              known = rw p (k.known-⊗ _ _ w.known j.known);
            }
        go false p i j = record { same = rw p j.same; known = rw p j.known }
    alike-held d xs ys (closes c us vs a) = go (eqb (suc c) d) refl (alike-held d us vs a)
      where
        go : (b : Bool) → eqb (suc c) d ≡ b → HeldSame d us vs → HeldSame d (closing c ∷ us) (closing c ∷ vs)
        go true p j = record { same = rw p; known = rw p k.known-ι }
        go false p j = record { same = rw p j.same; known = rw p j.known }

    pub alike-figure : (xs ys : List (Record R)) → Alike Same xs ys → figure_of 𝒜 xs ≡ figure_of 𝒜 ys
    alike-figure xs ys none = refl
    alike-figure xs ys (opens d r s us vs e a) =
        let i = alike-held (suc d) us vs a in
        (k.counts r s (held 𝒜 (suc d) us) e i.known).same ∙ ap (node s) i.same
    alike-figure xs ys (closes d us vs a) = refl
