-- How large figures and the numbers of a run get. Generic over a size of figures. Assumes nothing.
use Rattle.std.specs.Prelude.{◌≡◌, ℕ, ◌+◌, ◌≤◌, ◌<◌}
use mathlib.Core.List.{List, [], ◌∷◌}
use Rattle.algebra.specs.Algebra.{Algebra}
use Rattle.algebra.specs.Run.{Level, Context}

-- A size of figures that a record raises by at most `unit`. `Sound` is what a readable record meets.
pub record Sizes {R : Type 0} (𝒜 : Algebra R) (Sound : R → Type 0) : Type 1 where
  pub unit : ℕ
  pub size : 𝒜.Fig → ℕ
  pub unit-pos : 0 < unit
  pub size-ι : size 𝒜.ι ≡ 0
  pub size-⊗ : (a b : 𝒜.Fig) → size (𝒜.◌⊗◌ a b) ≤ size a + size b
  pub size-node : (r : R) (h : 𝒜.Fig) → Sound r → size (𝒜.node r h) ≤ unit + size h

module _ {R : Type 0} {𝒜 : Algebra R} {Sound : R → Type 0} (𝒮 : Sizes 𝒜 Sound) where
  open 𝒜 use {Fig, ◌⊗◌}

  infixl 70 ◌⊗◌
  open 𝒮 use {unit, size, size-⊗, size-node}

  -- What a level can add.
  abbrev pub cost : Level 𝒜 → ℕ
  cost l = unit + (size l.before + size l.after)

  abbrev pub costs : List (Level 𝒜) → ℕ
  costs [] = 0
  costs (l ∷ ls) = cost l + costs ls

-- The same of a run's numbers: `Within k n` says that each of them is at most n.
pub record RunSizes {R : Type 0} {𝒜 : Algebra R} {Sound : R → Type 0} (C : Context 𝒜 Sound) (𝒮 : Sizes 𝒜 Sound) : Type 1 where
  pub Within : C.K → ℕ → Type 0
  pub within_level : (l : Level 𝒜) → Sound l.carried → Within (C.level l) (cost 𝒮 l)
  pub within-compose : (f g : C.K) (m n : ℕ) → Within f m → Within g n → Within (C.compose f g) (m + n)
