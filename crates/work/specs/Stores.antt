-- A number that stores a figure, and what the operations on stored numbers make of it. Assumes nothing.
use Rattle.std.specs.Prelude.{◌≡◌, refl, ◌+◌, ◌^◌, ◌<◌, ℤ}
use Rattle.std.proofs.Math.Path.{sym, ap}
use Rattle.std.proofs.Common.{ap₂, ◌∙◌, subst, arith}
use Rattle.modes.specs.FourModes.{Amounts, limit, InRange}
use Rattle.figure.specs.Mode.{Mode}
use Rattle.figure.specs.Stored.{IsStored, size_of, none, combined, passed, none_read, none-stored, Combines, combined-read, combined-stored, Passes, passed-read, passed-stored, passes}

-- The number z stores the figure f.
pub record Stores (M : Mode) (z : ℤ) (f : M.algebra.Fig) : Type 0 where
  pub stored : IsStored M z
  pub reads : M.read z ≡ f

module _ (M : Mode) where
  -- A number that stands for a figure stores it; so does a number equal to it.
  pub own : (z y : ℤ) → y ≡ z → IsStored M z → Stores M y (M.read z)
  own z y e s = subst (λ (x : ℤ). Stores M x (M.read z)) (sym e) (record { stored = s; reads = refl })

  pub stores_same : (z y : ℤ) (f : M.algebra.Fig) → y ≡ z → Stores M z f → Stores M y f
  stores_same z y f e s = subst (λ (x : ℤ). Stores M x f) (sym e) s

  -- There is one such number.
  pub stores-is : (z : ℤ) (f : M.algebra.Fig) → Stores M z f → z ≡ M.store f
  unfolding IsStored
  stores-is z f s = sym s.stored ∙ ap M.store s.reads

  pub size_is : (z : ℤ) → size_of M z ≡ M.sizes.size (M.read z)
  unfolding size_of
  size_is z = ap M.sizes.size (λ i. M.read z)

  pub size-stored : (z : ℤ) (f : M.algebra.Fig) → Stores M z f → size_of M z ≡ M.sizes.size f
  size-stored z f s = size_is z ∙ ap M.sizes.size s.reads

  pub stores-none : (r : ℤ) → r ≡ none M → Stores M r M.algebra.ι
  stores-none r e = subst (λ (z : ℤ). Stores M z M.algebra.ι) (sym e) (record { stored = none-stored M; reads = none_read M })

  module _ (a b : ℤ) (f g : M.algebra.Fig) (s : Stores M a f) (t : Stores M b g) (room : M.sizes.size f + M.sizes.size g < 2 ^ 63) where
    both : size_of M a + size_of M b < 2 ^ 63
    both = omega (arith, size-stored a f s, size-stored b g t)

    pub can-combine : Combines M a b
    can-combine = record { first = s.stored; second = t.stored; room = both }

    pub stores-combined : (r : ℤ) → r ≡ combined M a b → Stores M r (M.algebra.◌⊗◌ f g)
    stores-combined r e = subst (λ (z : ℤ). Stores M z (M.algebra.◌⊗◌ f g)) (sym e) (record { stored = combined-stored M a b both; reads = combined-read M a b both ∙ ap₂ M.algebra.◌⊗◌ s.reads t.reads })

  module _ (r : Amounts) (h : ℤ) (f : M.algebra.Fig) (i : InRange r) (s : Stores M h f) (room : limit + M.sizes.size f < 2 ^ 63) where
    inside : limit + size_of M h < 2 ^ 63
    inside = omega (arith, size-stored h f s)

    pub can-pass : Passes M r.value h
    can-pass = passes M r h i inside s.stored

    pub stores-passed : (z : ℤ) → z ≡ passed M r h → Stores M z (M.algebra.node r f)
    stores-passed z e = subst (λ (x : ℤ). Stores M x (M.algebra.node r f)) (sym e) (record { stored = passed-stored M r h i inside; reads = passed-read M r h i inside ∙ ap (M.algebra.node r) s.reads })
