-- The hill of a chunk record by record, and merging as actions on the left hill: the form that proofs and code go by.
-- Merging is a homomorphism for every cut, associative on all hills, and the empty hill is its unit. Assumes nothing.
use Rattle.std.specs.Prelude.{◌≡◌, refl, List, [], ◌∷◌, ◌++◌}
use Rattle.std.proofs.Common.{sym, ◌∙◌, append_assoc, append-nil}
use Rattle.algebra.specs.Algebra.{Algebra, Laws}
use Rattle.hill.specs.Log.{Record, opening, closing}
use Rattle.hill.specs.Summary.{Hill, hill}
use Rattle.hill.specs.Building.{close, closes, empty, hill_of, join, merge, push, run, step}

module _ {R : Type 0} (𝒜 : Algebra R) where
  open 𝒜 use {Fig, ι, ◌⊗◌, node}

  infixl 70 ◌⊗◌
  pub push-nil : (a : Hill Fig R) → push [] a ≡ a
  push-nil (hill u m d) = refl

  push-push : (e d : List (R × Fig)) (a : Hill Fig R) → push e (push d a) ≡ push (e ++ d) a
  push-push e d (hill u m f) = rw (append_assoc e d f)

  join-push : (w : Fig) (e : R × Fig) (d : List (R × Fig)) (a : Hill Fig R) → join 𝒜 w (push (e ∷ d) a) ≡ push ((e.0, e.1 ⊗ w) ∷ d) a
  join-push w e d (hill u m f) = refl

  close-push : (e : R × Fig) (d : List (R × Fig)) (a : Hill Fig R) → close 𝒜 (push (e ∷ d) a) ≡ join 𝒜 (node e.0 e.1) (push d a)
  close-push e d (hill u m f) = refl

  pub run-append : (a : Hill Fig R) (xs ys : List (Record R)) → run 𝒜 a (xs ++ ys) ≡ run 𝒜 (run 𝒜 a xs) ys
  run-append a [] ys = refl
  run-append a (x ∷ xs) ys = run-append (step 𝒜 a x) xs ys

  module _ (ℒ : Laws 𝒜) where
    open ℒ use {assoc, unit-l, unit-r}

    pub join-unit : (a : Hill Fig R) → join 𝒜 ι a ≡ a
    join-unit (hill u m []) = rw (unit-r m)
    join-unit (hill u m (e ∷ d)) = rw (unit-r e.1)

    pub join-join : (v w : Fig) (a : Hill Fig R) → join 𝒜 w (join 𝒜 v a) ≡ join 𝒜 (v ⊗ w) a
    join-join v w (hill u m []) = rw (assoc m v w)
    join-join v w (hill u m (e ∷ d)) = rw (assoc e.1 v w)

    -- Merging commutes with all that is done to the right side.
    merge-push : (a : Hill Fig R) (e : List (R × Fig)) (b : Hill Fig R) → merge 𝒜 a (push e b) ≡ push e (merge 𝒜 a b)
    merge-push a e (hill u m d) = sym (push-push e d (join 𝒜 m (closes 𝒜 a u)))

    merge-join : (a : Hill Fig R) (w : Fig) (b : Hill Fig R) → merge 𝒜 a (join 𝒜 w b) ≡ join 𝒜 w (merge 𝒜 a b)
    merge-join a w (hill u m []) = simp (push-nil, join-join)
    merge-join a w (hill u m (e ∷ d)) = simp join-push

    merge-close : (a b : Hill Fig R) → merge 𝒜 a (close 𝒜 b) ≡ close 𝒜 (merge 𝒜 a b)
    merge-close a (hill u m []) = simp (push-nil, join-unit)
    merge-close a (hill u m (e ∷ d)) = simp (close-push, merge-join)

    merge_step : (a b : Hill Fig R) (x : Record R) → merge 𝒜 a (step 𝒜 b x) ≡ step 𝒜 (merge 𝒜 a b) x
    merge_step a b (opening c r) = merge-push a ((r, ι) ∷ []) b
    merge_step a b (closing c) = merge-close a b

    merge-run : (a b : Hill Fig R) (xs : List (Record R)) → merge 𝒜 a (run 𝒜 b xs) ≡ run 𝒜 (merge 𝒜 a b) xs
    merge-run a b [] = refl
    merge-run a b (x ∷ xs) = merge-run a (step 𝒜 b x) xs ∙ rw (merge_step a b x)

    -- The empty hill is the unit.
    pub merge-empty : (a : Hill Fig R) → merge 𝒜 a (empty 𝒜) ≡ a
    merge-empty a = simp (push-nil, join-unit)

    closes-empty : (u : List Fig) → closes 𝒜 (empty 𝒜) u ≡ hill u ι []
    closes-empty [] = refl
    closes-empty (l ∷ u) = rw (closes-empty u, unit-l l)

    pub empty-merge : (a : Hill Fig R) → merge 𝒜 (empty 𝒜) a ≡ a
    empty-merge (hill u m d) = rw (closes-empty u, unit-l m, append-nil d)

    -- Merging the hills of two chunks gives the hill of the joined chunks.
    pub hill_of-append : (xs ys : List (Record R)) → hill_of 𝒜 (xs ++ ys) ≡ merge 𝒜 (hill_of 𝒜 xs) (hill_of 𝒜 ys)
    hill_of-append xs ys = run-append (empty 𝒜) xs ys ∙ rw (merge-run (hill_of 𝒜 xs) (empty 𝒜) ys, merge-empty (hill_of 𝒜 xs))

    -- Merging is associative on all hills, also on those that no chunk makes.
    merge-closes : (a b : Hill Fig R) (u : List Fig) → merge 𝒜 a (closes 𝒜 b u) ≡ closes 𝒜 (merge 𝒜 a b) u
    merge-closes a b [] = refl
    merge-closes a b (l ∷ u) = simp (merge-close, merge-join, merge-closes a b u)

    pub merge-assoc : (a b c : Hill Fig R) → merge 𝒜 (merge 𝒜 a b) c ≡ merge 𝒜 a (merge 𝒜 b c)
    merge-assoc a b (hill u m d) = simp (merge-push, merge-join, merge-closes)
