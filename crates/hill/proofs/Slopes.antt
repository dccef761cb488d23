-- The lengths of a hill's slopes after each action. Assumes nothing.
use Rattle.std.specs.Prelude.{◌≡◌, refl, List, [], ◌∷◌, ◌+◌, ◌-◌, length}
use Rattle.std.proofs.Common.{◌∙◌, arith, length-append}
use Rattle.algebra.specs.Algebra.{Algebra}
use Rattle.hill.specs.Summary.{Hill, hill, rise, fall}
use Rattle.hill.specs.Building.{push, join, close, closes, merge}

module _ {R : Type 0} (𝒜 : Algebra R) where
  open 𝒜 use {Fig, node}

  pub fall-join : (w : Fig) (a : Hill Fig R) → fall (join 𝒜 w a) ≡ fall a
  fall-join w (hill u m []) = refl
  fall-join w (hill u m (e ∷ d)) = refl

  pub rise-join : (w : Fig) (a : Hill Fig R) → rise (join 𝒜 w a) ≡ rise a
  rise-join w (hill u m []) = refl
  rise-join w (hill u m (e ∷ d)) = refl

  pub fall-close : (a : Hill Fig R) → fall (close 𝒜 a) ≡ fall a - 1
  fall-close (hill u m []) = refl
  fall-close (hill u m (e ∷ d)) = fall-join (node e.0 e.1) (hill u m d) ∙ omega arith

  pub rise-close : (a : Hill Fig R) → rise (close 𝒜 a) ≡ rise a + (1 - fall a)
  rise-close (hill u m []) = omega arith
  rise-close (hill u m (e ∷ d)) = rise-join (node e.0 e.1) (hill u m d) ∙ omega arith

  pub fall-closes : (a : Hill Fig R) (u : List Fig) → fall (closes 𝒜 a u) ≡ fall a - length u
  fall-closes a [] = omega arith
  fall-closes a (l ∷ u) = simp (fall-close, fall-join, fall-closes a u) (omega arith)

  pub rise-closes : (a : Hill Fig R) (u : List Fig) → rise (closes 𝒜 a u) ≡ rise a + (length u - fall a)
  rise-closes a [] = omega arith
  rise-closes a (l ∷ u) = simp (rise-close, rise-join, fall-join, fall-closes a u, rise-closes a u) (omega arith)

  pub fall-push : (e : List (R × Fig)) (a : Hill Fig R) → fall (push e a) ≡ length e + fall a
  fall-push e (hill u m d) = length-append e d

  pub rise-push : (e : List (R × Fig)) (a : Hill Fig R) → rise (push e a) ≡ rise a
  rise-push e (hill u m d) = refl

  pub fall-merge : (a b : Hill Fig R) → fall (merge 𝒜 a b) ≡ fall b + (fall a - rise b)
  fall-merge a (hill u m d) = simp (fall-push, fall-join, fall-closes)

  pub rise-merge : (a b : Hill Fig R) → rise (merge 𝒜 a b) ≡ rise a + (rise b - fall a)
  rise-merge a (hill u m d) = simp (rise-push, rise-join, rise-closes)
