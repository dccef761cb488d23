-- A map between algebras that keeps the operations carries hills to hills. No law is needed. Assumes nothing.
use Rattle.std.specs.Prelude.{◌≡◌, refl, List, [], ◌∷◌, ◌++◌}
use Rattle.std.proofs.Common.{◌∙◌}
use Rattle.algebra.specs.Algebra.{Algebra}
use Rattle.hill.specs.Log.{Record, opening, closing}
use Rattle.hill.specs.Summary.{Hill, hill}
use Rattle.hill.specs.Building.{empty, join, close, step, run, hill_of, closes}

pub record Hom {R : Type 0} (𝒜 ℬ : Algebra R) : Type 0 where
  pub φ : 𝒜.Fig → ℬ.Fig
  pub φ-ι : φ 𝒜.ι ≡ ℬ.ι
  pub φ-⊗ : (a b : 𝒜.Fig) → φ (𝒜.◌⊗◌ a b) ≡ ℬ.◌⊗◌ (φ a) (φ b)
  pub φ-node : (r : R) (h : 𝒜.Fig) → φ (𝒜.node r h) ≡ ℬ.node r (φ h)

module _ {A B : Type 0} (φ : A → B) where
  abbrev pub map_up : List A → List B
  map_up [] = []
  map_up (l ∷ u) = φ l ∷ map_up u

module _ {A B R : Type 0} (φ : A → B) where
  abbrev pub map_down : List (R × A) → List (R × B)
  map_down [] = []
  map_down (e ∷ d) = (e.0, φ e.1) ∷ map_down d

  abbrev pub map_hill : Hill A R → Hill B R
  map_hill (hill u m d) = hill (map_up φ u) (φ m) (map_down d)

  map_down-append : (d e : List (R × A)) → map_down (d ++ e) ≡ map_down d ++ map_down e
  map_down-append [] e = refl
  map_down-append (x ∷ d) e = rw (map_down-append d e)

module _ {R : Type 0} (𝒜 ℬ : Algebra R) (ℋ : Hom 𝒜 ℬ) where
  open ℋ use {φ, φ-ι, φ-⊗, φ-node}

  map-join : (w : 𝒜.Fig) (a : Hill 𝒜.Fig R) → map_hill φ (join 𝒜 w a) ≡ join ℬ (φ w) (map_hill φ a)
  map-join w (hill u m []) = rw (φ-⊗ m w)
  map-join w (hill u m (e ∷ d)) = rw (φ-⊗ e.1 w)

  map-close : (a : Hill 𝒜.Fig R) → map_hill φ (close 𝒜 a) ≡ close ℬ (map_hill φ a)
  map-close (hill u m []) = rw φ-ι
  map-close (hill u m (e ∷ d)) = map-join (𝒜.node e.0 e.1) (hill u m d) ∙ rw (φ-node e.0 e.1)

  map-step : (a : Hill 𝒜.Fig R) (x : Record R) → map_hill φ (step 𝒜 a x) ≡ step ℬ (map_hill φ a) x
  map-step (hill u m d) (opening c r) = rw φ-ι
  map-step a (closing c) = map-close a

  pub map-run : (a : Hill 𝒜.Fig R) (xs : List (Record R)) → map_hill φ (run 𝒜 a xs) ≡ run ℬ (map_hill φ a) xs
  map-run a [] = refl
  map-run a (x ∷ xs) = map-run (step 𝒜 a x) xs ∙ rw (map-step a x)

  -- The hill of a chunk.
  pub map-hill_of : (xs : List (Record R)) → map_hill φ (hill_of 𝒜 xs) ≡ hill_of ℬ xs
  map-hill_of xs = map-run (empty 𝒜) xs ∙ rw φ-ι

  map-closes : (a : Hill 𝒜.Fig R) (u : List 𝒜.Fig) → map_hill φ (closes 𝒜 a u) ≡ closes ℬ (map_hill φ a) (map_up φ u)
  map-closes a [] = refl
  map-closes a (l ∷ u) = map-close (join 𝒜 l (closes 𝒜 a u)) ∙ rw (map-join l (closes 𝒜 a u), map-closes a u)
