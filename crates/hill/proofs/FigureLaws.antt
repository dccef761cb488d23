-- The figure read off the log is the figure of the log's tree. Assumes nothing.
use Rattle.std.specs.Prelude.{◌≡◌, refl, List, [], ◌∷◌, ◌++◌, ℕ, suc, ◌<◌}
use Rattle.std.proofs.Common.{ap, sym, ◌∙◌, append_assoc, arith, eq-eqb, ne_eqb}
use Rattle.algebra.specs.Algebra.{Algebra, Laws}
use Rattle.hill.specs.Verdict.{pass}
use Rattle.hill.specs.Log.{Record, closing, log_fault}
use Rattle.hill.specs.Tree.{Forest, nil, tree, write, value}
use Rattle.hill.specs.Figure.{held, figure_of}
use Rattle.hill.proofs.Spell.{tree_of, tree_of-write}
use Rattle.hill.proofs.WellFormed.{well-formed, one-tree}

module _ {R : Type 0} (𝒜 : Algebra R) where
  open 𝒜 use {Fig, ι, ◌⊗◌, node}

  infixl 70 ◌⊗◌
  -- Deeper trees are passed over.
  held-deeper : (d e : ℕ) (k : Forest R) (zs : List (Record R)) → d < e → held 𝒜 d (write e k ++ zs) ≡ held 𝒜 d zs
  held-deeper d e nil zs l = refl
  held-deeper d e (tree r k f) zs l =
      rw (ne_eqb e d (omega arith), append_assoc (write (suc e) k) (closing e ∷ write e f) zs, held-deeper d (suc e) k (closing e ∷ (write e f ++ zs)) (omega arith), ne_eqb (suc e) d (omega arith))
      (held-deeper d e f zs l)

  module _ (ℒ : Laws 𝒜) where
    open ℒ use {assoc, unit-l, unit-r}

    pub held-write : (d : ℕ) (f : Forest R) (ys : List (Record R)) → held 𝒜 d (write d f ++ ys) ≡ value 𝒜 f ⊗ held 𝒜 d ys
    held-write d nil ys = sym (unit-l (held 𝒜 d ys))
    held-write d (tree r k f) ys =
        rw (eq-eqb d d refl, append_assoc (write (suc d) k) (closing d ∷ write d f) ys, held-deeper d (suc d) k (closing d ∷ (write d f ++ ys)) (omega arith), ne_eqb (suc d) d (omega arith))
        (rw (held-write (suc d) k (closing d ∷ (write d f ++ ys)), eq-eqb (suc d) (suc d) refl, unit-r (value 𝒜 k), held-write d f ys) (sym (assoc (node r (value 𝒜 k)) (value 𝒜 f) (held 𝒜 d ys))))

    pub figure-write : (r : R) (k : Forest R) → figure_of 𝒜 (write 0 (tree r k nil)) ≡ value 𝒜 (tree r k nil)
    figure-write r k = rw (held-write 1 k (closing 0 ∷ []), unit-r (value 𝒜 k)) (sym (unit-r (node r (value 𝒜 k))))

-- The one tree of a log, and the log's figure.
pub record TreeOfLog {R : Type 0} (𝒜 : Algebra R) (log : List (Record R)) : Type 0 where
  pub root : R
  pub below : Forest R
  pub traversal : write 0 (tree root below nil) ≡ log
  pub only : (f : Forest R) → write 0 f ≡ log → f ≡ tree root below nil
  pub its-figure : figure_of 𝒜 log ≡ value 𝒜 (tree root below nil)

module _ {R : Type 0} (𝒜 : Algebra R) (ℒ : Laws 𝒜) where
  pub figure-tree : (log : List (Record R)) → log_fault log ≡ pass → figure_of 𝒜 log ≡ value 𝒜 (tree_of log)
  figure-tree log v =
      let t = one-tree log v in
      ap (figure_of 𝒜) (sym (well-formed log v)) ∙ rw t.2 (figure-write 𝒜 ℒ t.0 t.1)

  -- A LOG WITHOUT FAULT is the traversal of exactly one tree, and its figure is the tree's.
  pub log-tree : (log : List (Record R)) → log_fault log ≡ pass → TreeOfLog 𝒜 log
  log-tree log v =
      let t = one-tree log v in
      record {
        root = t.0;
        below = t.1;
        traversal = ap (write 0) (sym t.2) ∙ well-formed log v;
        only = λ f e. sym (tree_of-write 0 f) ∙ ap tree_of e ∙ t.2;
        its-figure = figure-tree log v ∙ ap (value 𝒜) t.2;
      }
