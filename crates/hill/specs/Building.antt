-- The hill of a chunk record by record, and merging as actions on the left hill: the form that proofs and code go by.
-- Merging is a homomorphism for every cut, associative on all hills, and the empty hill is its unit. Assumes nothing.
use Rattle.std.specs.Prelude.{List, [], ◌∷◌, ◌++◌}
use Rattle.algebra.specs.Algebra.{Algebra}
use Rattle.hill.specs.Log.{Record, opening, closing}
use Rattle.hill.specs.Summary.{Hill, hill}

-- More unclosed records on top of the right slope.
abbrev pub push : {Fig R : Type 0} → List (R × Fig) → Hill Fig R → Hill Fig R
push e (hill u m d) = hill u m (e ++ d)

module _ {R : Type 0} (𝒜 : Algebra R) where
  open 𝒜 use {Fig, ι, ◌⊗◌, node}

  infixl 70 ◌⊗◌
  abbrev pub empty : Hill Fig R
  empty = hill [] ι []

  -- A figure joins the current level, that of the end of the chunk.
  abbrev pub join : Fig → Hill Fig R → Hill Fig R
  join w (hill u m []) = hill u (m ⊗ w) []
  join w (hill u m (e ∷ d)) = hill u m ((e.0, e.1 ⊗ w) ∷ d)

  -- A close: the deepest unclosed record's figure joins the level below; where there is none, the hill's peak falls by one level.
  abbrev pub close : Hill Fig R → Hill Fig R
  close (hill u m []) = hill (m ∷ u) ι []
  close (hill u m (e ∷ d)) = join (node e.0 e.1) (hill u m d)

  abbrev pub step : Hill Fig R → Record R → Hill Fig R
  step a (opening c r) = push ((r, ι) ∷ []) a
  step a (closing c) = close a

  abbrev pub run : Hill Fig R → List (Record R) → Hill Fig R
  run a [] = a
  run a (x ∷ xs) = run (step a x) xs

  abbrev pub hill_of : List (Record R) → Hill Fig R
  hill_of xs = run empty xs

  -- The left side goes through the right side's left values: each joins its level, which is then closed.
  abbrev pub closes : Hill Fig R → List Fig → Hill Fig R
  closes a [] = a
  closes a (l ∷ ls) = close (join l (closes a ls))

  abbrev pub merge : Hill Fig R → Hill Fig R → Hill Fig R
  merge a (hill u m d) = push d (join m (closes a u))
