-- The recursion of METR 2006-64: rose trees, their traversal and their figure. Definitions only.
use Rattle.std.specs.Prelude.{List, [], ◌∷◌, ◌++◌, ℕ, suc}
use Rattle.algebra.specs.Algebra.{Algebra}
use Rattle.hill.specs.Log.{Record, opening, closing}

-- "RTree α = Node α [RTree α]". Trees side by side: none, or a first one (its root r, its subtrees k) and the rest.
pub data Forest (R : Type 0) : Type 0 where
  nil : Forest R
  tree : R → Forest R → Forest R → Forest R

-- The traversal of trees whose roots stand at depth d: the open, the subtrees at depth d+1, the close.
abbrev pub write : {R : Type 0} → ℕ → Forest R → List (Record R)
write d nil = []
write d (tree r k f) = opening d r ∷ (write (suc d) k ++ (closing d ∷ write d f))

module _ {R : Type 0} (𝒜 : Algebra R) where
  open 𝒜 use {Fig, ι, ◌⊗◌, node}

  infixl 70 ◌⊗◌
  -- Definition 2, "h (Node a [t1, .., tn]) = a ⊕ (h t1 ⊗ .. ⊗ h tn)": the figures of trees side by side, combined.
  abbrev pub value : Forest R → Fig
  value nil = ι
  value (tree r k f) = node r (value k) ⊗ value f
