-- Merging by levels, as the paper says it, comes to the same as the actions on the left hill, on all hills. Assumes nothing.
use Rattle.std.specs.Prelude.{◌≡◌, refl}
use Rattle.std.proofs.Common.{◌∙◌}
use mathlib.Core.List.{List, [], ◌∷◌, ◌++◌, append-nil, reverse, reverse-cons, reverse-reverse}
use Rattle.algebra.specs.Algebra.{Algebra, Laws}
use Rattle.hill.specs.Summary.{Hill, hill}
use Rattle.hill.specs.Merge.{fill_valley, merge_hills}
use Rattle.hill.specs.Building.{push, join, close, closes, merge}
use Rattle.hill.proofs.Building.{join-unit}

module _ {R : Type 0} (𝒜 : Algebra R) where
  open 𝒜 use {Fig, ι, ◌⊗◌, node}

  infixl 70 ◌⊗◌
  -- The deepest value is the last of the list, and goes first.
  pub closes-deepest : (a : Hill Fig R) (u : List Fig) (v : Fig) → closes 𝒜 a (u ++ (v ∷ [])) ≡ closes 𝒜 (close 𝒜 (join 𝒜 v a)) u
  closes-deepest a [] v = refl
  closes-deepest a (l ∷ u) v = rw (closes-deepest a u v)

  module _ (ℒ : Laws 𝒜) where
    open ℒ use {unit-l}

    -- Where nothing is unclosed, each value is a left value of the whole.
    closes-flat : (t u : List Fig) → closes 𝒜 (hill u ι []) t ≡ hill (t ++ u) ι []
    closes-flat [] u = refl
    closes-flat (l ∷ t) u = rw (closes-flat t u, unit-l l)

    -- The state of the loop: the left hill, what came from deeper joined to its deepest level.
    pub valley : (u : List Fig) (m : Fig) (d : List (R × Fig)) (t : List Fig) (n : Fig) (c : List (R × Fig)) (es : List (R × Fig)) (vs : List Fig) (x : Fig) →
        fill_valley 𝒜 (hill u m d) (hill t n c) es vs x ≡ push c (join 𝒜 n (closes 𝒜 (join 𝒜 x (hill u m es)) (reverse vs)))
    valley u m d t n c (e ∷ es) (v ∷ vs) x =
        rw (reverse-cons v vs, closes-deepest (join 𝒜 x (hill u m (e ∷ es))) (reverse vs) v) (valley u m d t n c es vs (node e.0 (e.1 ⊗ x ⊗ v)))
    valley u m d t n c (e ∷ es) [] x = refl
    valley u m d t n c [] [] x = rw (append-nil c)
    valley u m d t n c [] (v ∷ vs) x =
        rw (reverse-cons v vs, closes-deepest (hill u (m ⊗ x) []) (reverse vs) v, closes-flat (reverse vs) (m ⊗ x ⊗ v ∷ u), unit-l n, append-nil c)

    pub merge_hills-merge : (a b : Hill Fig R) → merge_hills 𝒜 a b ≡ merge 𝒜 a b
    merge_hills-merge (hill u m d) (hill t n c) = valley u m d t n c d (reverse t) ι ∙ rw (join-unit 𝒜 ℒ (hill u m d), reverse-reverse t)
