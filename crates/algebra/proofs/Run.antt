-- Runs: nested levels as one function of what lies inside them (extended distributivity).
-- The fold over a run is proved here once, for any depth and any operation with its laws. Assumes nothing.
use Rattle.std.specs.Prelude.{◌≡◌}
use Rattle.std.proofs.Math.Path.{refl, ap}
use Rattle.std.proofs.Common.{◌∙◌}
use mathlib.Core.List.{List, [], ◌∷◌}
use Rattle.algebra.specs.Algebra.{Algebra}
use Rattle.algebra.specs.Run.{AllSound, Context, Level, run, run_on, through}

module _ {R : Type 0} {𝒜 : Algebra R} {Sound : R → Type 0} (C : Context 𝒜 Sound) where
  pub run_on-is : (k : C.K) (ls : List (Level 𝒜)) → C.Fine k → AllSound Sound ls → (x : 𝒜.Fig) → C.apply (run_on C k ls) x ≡ through 𝒜 ls (C.apply k x)
  unfolding run_on through
  run_on-is k [] f o x = refl
  run_on-is k (l ∷ ls) f o x =
      run_on-is (C.compose (C.level l) k) ls (C.compose-fine _ _ (C.level-fine l o.0) f) o.1 x
      ∙ ap (through 𝒜 ls) (C.apply-compose (C.level l) k f x ∙ C.apply-level l (C.apply k x))

  -- A run does what its levels do, one after another.
  pub run_is : (l : Level 𝒜) (ls : List (Level 𝒜)) → AllSound Sound (l ∷ ls) → (x : 𝒜.Fig) → C.apply (run C l ls) x ≡ through 𝒜 (l ∷ ls) x
  unfolding through
  run_is l ls o x = run_on-is (C.level l) ls (C.level-fine l o.0) o.1 x ∙ ap (through 𝒜 ls) (C.apply-level l x)

  pub run-fine : (k : C.K) (ls : List (Level 𝒜)) → C.Fine k → AllSound Sound ls → C.Fine (run_on C k ls)
  unfolding run_on
  run-fine k [] f o = f
  run-fine k (l ∷ ls) f o = run-fine (C.compose (C.level l) k) ls (C.compose-fine _ _ (C.level-fine l o.0) f) o.1
