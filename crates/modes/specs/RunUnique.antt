-- The numbers of each mode's run are the only ones that document 01's sentence "The run of a join .." allows. Assumes nothing.
use Rattle.std.specs.Prelude.{◌≡◌, List, [], ◌∷◌, ℤ, ◌+ℤ◌}
use Rattle.algebra.specs.Algebra.{Algebra}
use Rattle.algebra.specs.Run.{Level, Context, AllSound, run}
use Rattle.modes.specs.FourModes.{Amounts, InRange, heaviest}
use Rattle.modes.specs.Run.{at_least}
use Rattle.modes.specs.declared.Held.{Held}
use Rattle.modes.specs.declared.Held.TheVariants.{Nothing}

-- A mode's numbers are the run of their levels, and no others are; IsRun says which numbers are.
pub record Pinned {𝒜 : Algebra Amounts} (C : Context 𝒜 InRange) (IsRun : List (Level 𝒜) → C.K → Type 0) : Type 0 where
  pub is : (l : Level 𝒜) (ls : List (Level 𝒜)) → AllSound InRange (l ∷ ls) → IsRun (l ∷ ls) (run C l ls)
  pub only : (ls : List (Level 𝒜)) (j k : C.K) → IsRun ls j → IsRun ls k → j ≡ k

abbrev pub Same : Held → Held → ℤ → ℤ → Type 0
Same A A' B B' = (x : ℤ) → at_least A (x +ℤ B) ≡ at_least A' (x +ℤ B')

-- A is nothing exactly where no other figure is on the way.

abbrev pub NoOther : List (Level heaviest) → Type 0
NoOther [] = Unit {0}
NoOther (l ∷ ls) = ((l.before ≡ Nothing) × (l.after ≡ Nothing)) × NoOther ls
