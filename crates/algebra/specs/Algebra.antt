-- The operation that a tree is folded by, and its laws. Assumes nothing.
use Rattle.std.specs.Prelude.{◌≡◌}

-- R: what an open record carries. Fig: figures of neighbouring records, combined by ⊗, with ι for "nothing held".
-- `node r h` is the figure of a record r that holds h.
pub record Algebra (R : Type 0) : Type 1 where
  pub Fig : Type 0
  pub ι : Fig
  pub ◌⊗◌ : Fig → Fig → Fig
  pub node : R → Fig → Fig

-- Figures side by side may be combined in any grouping, and "nothing held" adds nothing.
pub record Laws {R : Type 0} (𝒜 : Algebra R) : Type 0 where
  pub assoc : (a b c : 𝒜.Fig) → 𝒜.◌⊗◌ (𝒜.◌⊗◌ a b) c ≡ 𝒜.◌⊗◌ a (𝒜.◌⊗◌ b c)
  pub unit-l : (a : 𝒜.Fig) → 𝒜.◌⊗◌ 𝒜.ι a ≡ a
  pub unit-r : (a : 𝒜.Fig) → 𝒜.◌⊗◌ a 𝒜.ι ≡ a

-- They may be combined in any order too: the work along a plan needs it, merging does not.
abbrev pub Commutative : {R : Type 0} → Algebra R → Type 0
Commutative 𝒜 = (a b : 𝒜.Fig) → 𝒜.◌⊗◌ a b ≡ 𝒜.◌⊗◌ b a
