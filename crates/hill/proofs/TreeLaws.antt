-- The algebra of forests, and the hill of a traversal: the forest's figure, with no slopes. Assumes nothing.
use Rattle.std.specs.Prelude.{◌≡◌, refl, [], ◌∷◌, ◌++◌, ℕ, suc}
use Rattle.std.proofs.Common.{sym, ◌∙◌, append_assoc}
use Rattle.algebra.specs.Algebra.{Algebra, Laws}
use Rattle.hill.specs.Log.{closing}
use Rattle.hill.specs.Tree.{Forest, nil, tree, write, value}
use Rattle.hill.specs.Summary.{Hill, hill}
use Rattle.hill.specs.Building.{empty, join, run, hill_of}
use Rattle.hill.proofs.Building.{run-append, join-unit, join-join}
use Rattle.hill.proofs.Map.{Hom}

module _ {R : Type 0} where
  abbrev pub beside : Forest R → Forest R → Forest R
  beside nil g = g
  beside (tree r k f) g = tree r k (beside f g)

  pub beside-nil : (f : Forest R) → beside f nil ≡ f
  beside-nil nil = refl
  beside-nil (tree r k f) = rw (beside-nil f)

  pub beside-assoc : (f g h : Forest R) → beside (beside f g) h ≡ beside f (beside g h)
  beside-assoc nil g h = refl
  beside-assoc (tree r k f) g h = rw (beside-assoc f g h)

  pub write-beside : (d : ℕ) (f g : Forest R) → write d (beside f g) ≡ write d f ++ write d g
  write-beside d nil g = refl
  write-beside d (tree r k f) g = rw (write-beside d f g, append_assoc (write (suc d) k) (closing d ∷ write d f) (write d g))

-- The algebra of forests, in which every chunk's hill keeps all of the chunk.
abbrev pub free : (R : Type 0) → Algebra R
free R = record { Fig = Forest R; ι = nil; ◌⊗◌ = beside; node = λ r k. tree r k nil }

abbrev pub free-laws : (R : Type 0) → Laws (free R)
free-laws R = record { assoc = beside-assoc; unit-l = λ f. refl; unit-r = beside-nil }

module _ {R : Type 0} (𝒜 : Algebra R) (ℒ : Laws 𝒜) where
  open 𝒜 use {Fig, ι, ◌⊗◌, node}

  infixl 70 ◌⊗◌
  open ℒ use {assoc, unit-l, unit-r}

  pub value-beside : (f g : Forest R) → value 𝒜 (beside f g) ≡ value 𝒜 f ⊗ value 𝒜 g
  value-beside nil g = sym (unit-l (value 𝒜 g))
  value-beside (tree r k f) g = rw (value-beside f g, assoc (node r (value 𝒜 k)) (value 𝒜 f) (value 𝒜 g))

  -- The figure of a forest is the one map from forests that keeps the operations.
  abbrev pub value-hom : Hom (free R) 𝒜
  value-hom = record { φ = value 𝒜; φ-ι = refl; φ-⊗ = value-beside; φ-node = λ r h. unit-r (node r (value 𝒜 h)) }

  -- A traversal joins the forest's figure to the level where it stands.
  pub run-write : (a : Hill Fig R) (d : ℕ) (f : Forest R) → run 𝒜 a (write d f) ≡ join 𝒜 (value 𝒜 f) a
  run-write a d nil = sym (join-unit 𝒜 ℒ a)
  run-write (hill u m s) d (tree r k f) =
      rw (run-append 𝒜 (hill u m ((r, ι) ∷ s)) (write (suc d) k) (closing d ∷ write d f))
      (rw (run-write (hill u m ((r, ι) ∷ s)) (suc d) k, unit-l (value 𝒜 k))
      (run-write (join 𝒜 (node r (value 𝒜 k)) (hill u m s)) d f ∙ join-join 𝒜 ℒ (node r (value 𝒜 k)) (value 𝒜 f) (hill u m s)))

  -- The hill of a traversal is the forest's figure, with no slopes.
  pub hill_of-write : (d : ℕ) (f : Forest R) → hill_of 𝒜 (write d f) ≡ hill [] (value 𝒜 f) []
  hill_of-write d f = run-write (empty 𝒜) d f ∙ rw (unit-l (value 𝒜 f))

pub value-free : {R : Type 0} (f : Forest R) → value (free R) f ≡ f
value-free nil = refl
value-free (tree r k f) = rw (value-free k, value-free f)
