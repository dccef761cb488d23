-- A record's own subtree as a log of its own: it has no fault, its figure is the record's in the whole log, and its tree is the record's subtree. And how large
-- that figure gets. Assumes nothing.
use Rattle.std.specs.Prelude.{◌≡◌, refl, List, [], ◌∷◌, ◌++◌, map, ℕ, zero, suc, ◌+◌, ◌-◌, ◌*◌, ◌≤◌, take, drop}
use Rattle.std.proofs.Common.{sym, ap, ap₂, subst, ◌∙◌, mul-le-mul_left, add-zero, arith}
use Rattle.std.proofs.lemmas.List.{map-append}
use Rattle.algebra.specs.Algebra.{Algebra, Laws}
use Rattle.algebra.specs.Sizes.{Sizes}
use Rattle.hill.specs.Verdict.{pass}
use Rattle.hill.proofs.VerdictLaws.{count-few}
use Rattle.hill.specs.Log.{Record, opening, closing, opened_of, log_fault}
use Rattle.hill.specs.Closing.{ClosedBy}
use Rattle.hill.specs.Tree.{Forest, nil, tree, write, value}
use Rattle.hill.specs.Figure.{figure_of, figure_at}
use Rattle.hill.specs.Valid.{AllReadable}
use Rattle.hill.proofs.Growth.{opened-append}
use Rattle.hill.proofs.WellFormed.{log-joints, log-few, tree-log}
use Rattle.hill.proofs.FigureLaws.{figure-write}
use Rattle.hill.proofs.Subtree.{Subtree, subtree}
use Rattle.hill.specs.OwnLog.{lowered, own_log}

module _ {R : Type 0} where
  -- ---- the traversal of trees, d levels lower

  lower-write : (d e c : ℕ) (f : Forest R) → d + e ≡ c → map (lowered d) (write c f) ≡ write e f
  lower-write d e c nil h = refl
  lower-write d e c (tree r k f) h =
      let n : c - d ≡ e = omega arith in
      ap₂ (λ (i : ℕ) (ys : List (Record R)). opening i r ∷ ys) n
      (map-append (lowered d) (write (suc c) k) (closing c ∷ write c f) ∙
      ap₂ ◌++◌ (lower-write d (suc e) (suc c) k (omega arith)) (ap₂ (λ (i : ℕ) (ys : List (Record R)). closing i ∷ ys) n (lower-write d e c f h)))

  -- ---- no more records are opened in a part

  pub opened-take : (n : ℕ) (xs : List (Record R)) → opened_of (take n xs) ≤ opened_of xs
  opened-take zero xs = omega arith
  opened-take (suc n) [] = omega arith
  opened-take (suc n) (x ∷ xs) = omega (arith, opened-take n xs)

  opened-drop : (n : ℕ) (xs : List (Record R)) → opened_of (drop n xs) ≤ opened_of xs
  opened-drop zero xs = omega arith
  opened-drop (suc n) [] = omega arith
  opened-drop (suc n) (x ∷ xs) = omega (arith, opened-drop n xs)

  opened-write : (c d : ℕ) (f : Forest R) → opened_of (write c f) ≡ opened_of (write d f)
  opened-write c d nil = refl
  opened-write c d (tree r k f) =
      omega (arith, opened-append (write (suc c) k) (closing c ∷ write c f), opened-append (write (suc d) k) (closing d ∷ write d f), opened-write (suc c) (suc d) k, opened-write c d f)

  log-subtree : (𝒜 : Algebra R) → Laws 𝒜 → (log : List (Record R)) → log_fault log ≡ pass → (p q d : ℕ) → ClosedBy log p q d → Subtree 𝒜 log p q d
  log-subtree 𝒜 ℒ [] v p q d c = absurd (omega (arith, c.inside))
  log-subtree 𝒜 ℒ (x ∷ xs) v p q d c = subtree 𝒜 ℒ x xs (log-joints x xs v) p q d c

module _ {R : Type 0} (𝒜 : Algebra R) (ℒ : Laws 𝒜) (log : List (Record R)) (v : log_fault log ≡ pass) (p q d : ℕ) (c : ClosedBy log p q d) where
  abbrev part : Subtree 𝒜 log p q d
  part = log-subtree 𝒜 ℒ log v p q d c

  own-written : own_log log p q d ≡ write 0 (tree part.root part.below nil)
  own-written = ap (map (lowered d)) part.traversal ∙ lower-write d 0 d (tree part.root part.below nil) (add-zero d)

  opened-part : opened_of (write d (tree part.root part.below nil)) ≤ opened_of log
  opened-part = omega (arith, ap opened_of part.traversal, opened-take (suc q - p) (drop p log), opened-drop p log)

  -- IT IS A LOG WITHOUT FAULT, ..
  pub own-fine : log_fault (own_log log p q d) ≡ pass
  own-fine =
      let t : Forest R = tree part.root part.below nil in
      ap log_fault own-written ∙ tree-log part.root part.below ∙ count-few (opened_of (write 0 t)) (omega (arith, opened-write 0 d t, opened-part, log-few log v))

  -- .. AND ITS FIGURE IS THE RECORD'S.
  pub own-figure : figure_at 𝒜 log p ≡ figure_of 𝒜 (own_log log p q d)
  own-figure = part.its-figure ∙ sym (figure-write 𝒜 ℒ part.root part.below) ∙ ap (figure_of 𝒜) (sym own-written)

-- ---- how large a figure gets

module _ {R : Type 0} (𝒜 : Algebra R) {Fine : R → Type 0} (𝒮 : Sizes 𝒜 Fine) where
  open 𝒜 use {Fig, ι, ◌⊗◌, node}
  open 𝒮 use {unit, size, size-ι, size-⊗, size-node}

  pub readable-first : (xs ys : List (Record R)) → AllReadable 𝒜 𝒮 (xs ++ ys) → AllReadable 𝒜 𝒮 xs
  readable-first [] ys a = tt
  readable-first (x ∷ xs) ys a = (a.0, readable-first xs ys a.1)

  pub readable-last : (xs ys : List (Record R)) → AllReadable 𝒜 𝒮 (xs ++ ys) → AllReadable 𝒜 𝒮 ys
  readable-last [] ys a = a
  readable-last (x ∷ xs) ys a = readable-last xs ys a.1

  readable-take : (n : ℕ) (xs : List (Record R)) → AllReadable 𝒜 𝒮 xs → AllReadable 𝒜 𝒮 (take n xs)
  readable-take zero xs a = tt
  readable-take (suc n) [] a = tt
  readable-take (suc n) (x ∷ xs) a = (a.0, readable-take n xs a.1)

  readable-drop : (n : ℕ) (xs : List (Record R)) → AllReadable 𝒜 𝒮 xs → AllReadable 𝒜 𝒮 (drop n xs)
  readable-drop zero xs a = a
  readable-drop (suc n) [] a = tt
  readable-drop (suc n) (x ∷ xs) a = readable-drop n xs a.1

  -- A record adds at most `unit`.
  value-size : (d : ℕ) (f : Forest R) → AllReadable 𝒜 𝒮 (write d f) → size (value 𝒜 f) ≤ unit * opened_of (write d f)
  value-size d nil a = omega (arith, size-ι)
  value-size d (tree r k f) a =
      let inner = readable-first (write (suc d) k) (closing d ∷ write d f) a.1 in
      let after = readable-last (write (suc d) k) (closing d ∷ write d f) a.1 in
      let n : opened_of (write d (tree r k f)) ≡ 1 + (opened_of (write (suc d) k) + opened_of (write d f)) = omega (arith, opened-append (write (suc d) k) (closing d ∷ write d f)) in
      rw n (omega (arith, size-⊗ (node r (value 𝒜 k)) (value 𝒜 f), size-node r (value 𝒜 k) a.0.1, value-size (suc d) k inner, value-size d f after.1))

  -- THE FIGURE OF A RECORD of a log is no larger than `unit` for each record that the log opens.
  pub figure-size : (ℒ : Laws 𝒜) (log : List (Record R)) → log_fault log ≡ pass → AllReadable 𝒜 𝒮 log → (p q d : ℕ) → ClosedBy log p q d → size (figure_at 𝒜 log p) ≤ unit * opened_of log
  figure-size ℒ log v a p q d c =
      let s = log-subtree 𝒜 ℒ log v p q d c in
      let t : Forest R = tree s.root s.below nil in
      let b : AllReadable 𝒜 𝒮 (write d t) = subst (AllReadable 𝒜 𝒮) s.traversal (readable-take (suc q - p) (drop p log) (readable-drop p log a)) in
      omega (arith, ap size s.its-figure, value-size d t b, mul-le-mul_left unit (opened-part 𝒜 ℒ log v p q d c))
