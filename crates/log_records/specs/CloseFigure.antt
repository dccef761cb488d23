-- What a pass over the log has at a close is the figure of the record that is closed. Assumes nothing.
use Rattle.std.specs.Prelude.{◌≡◌, List, [], ◌∷◌, ℕ, suc, length, drop}
use Rattle.algebra.specs.Algebra.{Algebra, Laws}
use Rattle.hill.specs.Log.{Record, opening}
use Rattle.hill.specs.Closing.{at}
use Rattle.hill.specs.Figure.{held}

module _ {R : Type 0} (𝒜 : Algebra R) (ℒ : Laws 𝒜) (xs : List (Record R)) where
  open 𝒜 use {Fig, ι, ◌⊗◌, node}
  open ℒ use {assoc, unit-l, unit-r}

  infixl 70 ◌⊗◌
  -- Of each open record, deepest first: what it carries, and that what it holds is what the pass has of it so far, and then what is held from the next place on.
  -- For the deepest that is place k; for another, the place where the next one of the stack is opened.
  abbrev pub Carried : (k : ℕ) (ps : List ℕ) (ds : List (R × Fig)) → Type 0
  Carried k [] [] = Unit {0}
  Carried k [] (e ∷ ds) = ⊥
  Carried k (p ∷ ps) [] = ⊥
  Carried k (p ∷ ps) (e ∷ ds) =
      (at xs p ≡ opening (length ps) e.0) × (held 𝒜 (suc (length ps)) (drop (suc p) xs) ≡ e.1 ⊗ held 𝒜 (suc (length ps)) (drop k xs)) × Carried p ps ds
