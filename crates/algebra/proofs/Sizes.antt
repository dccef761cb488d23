-- How large figures and the numbers of a run get. Generic over a size of figures. Assumes nothing.
use Rattle.std.specs.Prelude.{ℕ, ◌+◌, ◌≤◌}
use mathlib.Core.List.{List, [], ◌∷◌}
use Rattle.std.proofs.Math.Nat.{zero-add, add_assoc}
use Rattle.std.proofs.Common.{add_comm}
use native.Mathlib.Omega.{arith}
use Rattle.algebra.specs.Algebra.{Algebra}
use Rattle.algebra.specs.Run.{Level, step, through, Context, AllSound, run_on}
use Rattle.algebra.specs.Sizes.{RunSizes, Sizes, cost, costs}

module _ {R : Type 0} {𝒜 : Algebra R} {Sound : R → Type 0} (𝒮 : Sizes 𝒜 Sound) where
  open 𝒜 use {Fig, ◌⊗◌}

  infixl 70 ◌⊗◌
  open 𝒮 use {unit, size, size-⊗, size-node}

  -- What goes through a level's record, and what comes out.
  pub size-inside : (l : Level 𝒜) (x : Fig) → size (l.before ⊗ x ⊗ l.after) ≤ size x + (size l.before + size l.after)
  size-inside l x = omega (arith, size-⊗ (l.before ⊗ x) l.after, size-⊗ l.before x)

  pub size_step : (l : Level 𝒜) (x : Fig) → Sound l.carried → size (step 𝒜 l x) ≤ size x + (cost 𝒮) l
  unfolding step
  size_step l x s = omega (arith, size-node l.carried (l.before ⊗ x ⊗ l.after) s, size-inside l x)

  pub size-through : (ls : List (Level 𝒜)) (x : Fig) → AllSound Sound ls → size (through 𝒜 ls x) ≤ size x + (costs 𝒮) ls
  unfolding through
  size-through [] x s = omega arith
  size-through (l ∷ ls) x s = omega (arith, size-through ls (step 𝒜 l x) s.1, size_step l x s.0)

  -- What a loop over levels keeps: the size of the figure so far and the costs to come stay within B, and so does what goes through a record.
  pub record Spent (B : ℕ) (l : Level 𝒜) (ls : List (Level 𝒜)) (x : Fig) : Type 0 where
    pub first : size (l.before ⊗ x) ≤ B
    pub inside : unit + size (l.before ⊗ x ⊗ l.after) ≤ B
    pub rest : size (step 𝒜 l x) + (costs 𝒮) ls ≤ B

  pub spend : (B : ℕ) (l : Level 𝒜) (ls : List (Level 𝒜)) (x : Fig) → Sound l.carried → size x + (costs 𝒮) (l ∷ ls) ≤ B → Spent B l ls x
  spend B l ls x s h = omega (arith, size_step l x s, size-inside l x, size-⊗ l.before x)

  -- Unclosed records, deepest first, each with its held figures so far, and the values that the other side has at their levels.
  abbrev pub levels_of : List (R × Fig) → List Fig → List (Level 𝒜)
  levels_of [] ys = []
  levels_of (u ∷ us) [] = []
  levels_of (u ∷ us) (y ∷ ys) = record { carried = u.0; before = u.1; after = y } ∷ levels_of us ys

  -- All values of a list, and `unit` for each unclosed record.
  abbrev pub sizes : List Fig → ℕ
  sizes [] = 0
  sizes (y ∷ ys) = size y + sizes ys

  abbrev pub sizes_open : List (R × Fig) → ℕ
  sizes_open [] = 0
  sizes_open (u ∷ us) = unit + size u.1 + sizes_open us

  abbrev pub AllSoundOpen : List (R × Fig) → Type 0
  AllSoundOpen [] = Unit {0}
  AllSoundOpen (u ∷ us) = Sound u.0 × AllSoundOpen us

  pub levels_sound : (us : List (R × Fig)) (ys : List Fig) → AllSoundOpen us → AllSound Sound (levels_of us ys)
  levels_sound [] ys s = tt
  levels_sound (u ∷ us) [] s = tt
  levels_sound (u ∷ us) (y ∷ ys) s = (s.0, levels_sound us ys s.1)

  pub levels-cost : (us : List (R × Fig)) (ys : List Fig) → costs 𝒮 (levels_of us ys) ≤ sizes_open us + sizes ys
  levels-cost [] ys = omega arith
  levels-cost (u ∷ us) [] = omega arith
  levels-cost (u ∷ us) (y ∷ ys) = omega (arith, levels-cost us ys)

module _ {R : Type 0} {𝒜 : Algebra R} {Sound : R → Type 0} {C : Context 𝒜 Sound} {𝒮 : Sizes 𝒜 Sound} (B : RunSizes C 𝒮) where
  -- A run within n, and then the levels around it.
  pub run-within : (k : C.K) (ls : List (Level 𝒜)) (n : ℕ) → AllSound Sound ls → B.Within k n → B.Within (run_on C k ls) (costs 𝒮 ls + n)
  unfolding run_on
  run-within k [] n s h = rw zero-add h
  run-within k (l ∷ ls) n s h =
      rw (add_comm (cost 𝒮 l) (costs 𝒮 ls), add_assoc (costs 𝒮 ls) (cost 𝒮 l) n)
      (run-within (C.compose (C.level l) k) ls (cost 𝒮 l + n) s.1 (B.within-compose (C.level l) k (cost 𝒮 l) n (B.within_level l s.0) h))
