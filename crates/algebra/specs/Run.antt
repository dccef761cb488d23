-- Runs: nested levels as one function of what lies inside them (extended distributivity).
-- The fold over a run is proved here once, for any depth and any operation with its laws. Assumes nothing.
use Rattle.std.specs.Prelude.{◌≡◌}
use mathlib.Core.List.{List, [], ◌∷◌}
use Rattle.algebra.specs.Algebra.{Algebra}

-- One level: a record, with what it holds before the inner part and after it.
pub record Level {R : Type 0} (𝒜 : Algebra R) : Type 0 where
  pub carried : R
  pub before : 𝒜.Fig
  pub after : 𝒜.Fig

module _ {R : Type 0} (𝒜 : Algebra R) where
  open 𝒜 use {Fig, ◌⊗◌, node}

  infixl 70 ◌⊗◌
  -- The record's figure, where x is the inner part.
  unfoldable pub step : Level 𝒜 → Fig → Fig
  step l x = node l.carried (l.before ⊗ x ⊗ l.after)

  -- The same through nested levels, the deepest first.
  unfoldable pub through : List (Level 𝒜) → Fig → Fig
  through [] x = x
  through (l ∷ ls) x = through ls (step l x)

-- How a mode writes the function of a run: numbers K, and what they do to x. `compose f g` is f after g: runs are closed under it.
-- `Sound` is what a readable record meets (its floor is not above its ceiling), `Fine` what the numbers of a run meet.
pub record Context {R : Type 0} (𝒜 : Algebra R) (Sound : R → Type 0) : Type 1 where
  pub K : Type 0
  pub apply : K → 𝒜.Fig → 𝒜.Fig
  pub level : Level 𝒜 → K
  pub compose : K → K → K
  pub Fine : K → Type 0
  pub level-fine : (l : Level 𝒜) → Sound l.carried → Fine (level l)
  pub compose-fine : (f g : K) → Fine f → Fine g → Fine (compose f g)
  pub apply-level : (l : Level 𝒜) (x : 𝒜.Fig) → apply (level l) x ≡ step 𝒜 l x
  pub apply-compose : (f g : K) → Fine g → (x : 𝒜.Fig) → apply (compose f g) x ≡ apply f (apply g x)

module _ {R : Type 0} {𝒜 : Algebra R} (Sound : R → Type 0) where
  abbrev pub AllSound : List (Level 𝒜) → Type 0
  AllSound [] = Unit {0}
  AllSound (l ∷ ls) = Sound l.carried × AllSound ls

module _ {R : Type 0} {𝒜 : Algebra R} {Sound : R → Type 0} (C : Context 𝒜 Sound) where
  -- The run k, and then the levels around it.
  unfoldable pub run_on : C.K → List (Level 𝒜) → C.K
  run_on k [] = k
  run_on k (l ∷ ls) = run_on (C.compose (C.level l) k) ls

  -- The run of one level and those around it.
  abbrev pub run : Level 𝒜 → List (Level 𝒜) → C.K
  run l ls = run_on (C.level l) ls
