-- A log without fault is the traversal of exactly one tree, and the traversal of a tree is a log without fault. Assumes nothing.
use Rattle.std.specs.Prelude.{◌≡◌, ℕ, suc, ◌≤◌}
use Rattle.std.proofs.Math.Path.{refl}
use Rattle.std.proofs.Common.{sym, ◌∙◌}
use mathlib.Core.List.{List, [], ◌∷◌, ◌++◌, append_assoc}
use Rattle.hill.specs.Verdict.{Verdict, pass, low, joint, count, ends}
use Rattle.hill.proofs.VerdictLaws.{low-pass, low-fst, low-snd, joint-same, count-pass, ends-pass, refuse-pass}
use Rattle.hill.specs.Log.{Record, opening, closing, start_level, end_level, end_of, joints, opened_of, fault_of, log_fault}
use Rattle.hill.specs.Tree.{Forest, nil, tree, write}
use Rattle.hill.proofs.Growth.{end-last}
use Rattle.hill.proofs.Spell.{tree_of, write-tree_of, joints-meet, end-from}

module _ {R : Type 0} where
  -- No level between records is 0: so a well-formed log is one tree.
  inner : (x : Record R) (ys : List (Record R)) (a b : Record R) (zs : List (Record R)) → joints x (ys ++ (a ∷ (b ∷ zs))) ≡ pass → joint (end_level a) (start_level b) ≡ pass
  inner x [] a b zs v =
      low-fst (joint (end_level a) (start_level b)) (joints b zs) (low-snd (joint (end_level x) (start_level a)) (joints a (b ∷ zs)) v)
  inner x (y ∷ ys) a b zs v = inner y ys a b zs (low-snd (joint (end_level x) (start_level y)) (joints y (ys ++ (a ∷ (b ∷ zs)))) v)

  pub log-joints : (x : Record R) (xs : List (Record R)) → log_fault (x ∷ xs) ≡ pass → joints x xs ≡ pass
  log-joints x xs v = low-fst (joints x xs) (count (opened_of (x ∷ xs))) (low-fst (fault_of x xs) (ends (start_level x) (end_of x xs)) v)

  pub log-few : (log : List (Record R)) → log_fault log ≡ pass → opened_of log ≤ 100_000
  log-few [] v = absurd (refuse-pass v)
  log-few (x ∷ xs) v = count-pass (opened_of (x ∷ xs)) (low-snd (joints x xs) (count (opened_of (x ∷ xs))) (low-fst (fault_of x xs) (ends (start_level x) (end_of x xs)) v))

  -- A well-formed log is the traversal of its forest, ..
  pub well-formed : (log : List (Record R)) → log_fault log ≡ pass → write 0 (tree_of log) ≡ log
  well-formed [] v = cc
  well-formed (x ∷ xs) v =
      let e = ends-pass (start_level x) (end_of x xs) (low-snd (fault_of x xs) (ends (start_level x) (end_of x xs)) v) in
      write-tree_of (x ∷ xs) (sym e.0, joints-meet x xs (log-joints x xs v)) (end-from x xs ∙ e.1)

  -- .. which is one tree: the record that the log begins with.
  alone : (f : Forest R) → log_fault (write 0 f) ≡ pass → (r : R) × (k : Forest R) × (f ≡ tree r k nil)
  unfolding joint
  alone nil v = absurd (refuse-pass v)
  alone (tree r k nil) v = (r, k, refl)
  alone (tree r k (tree s j f)) v =
      absurd (refuse-pass
      (inner (opening 0 r) (write 1 k) (closing 0) (opening 0 s) (write 1 j ++ (closing 0 ∷ write 0 f))
      (log-joints (opening 0 r) (write 1 k ++ (closing 0 ∷ (opening 0 s ∷ (write 1 j ++ (closing 0 ∷ write 0 f))))) v)))

  pub one-tree : (log : List (Record R)) → log_fault log ≡ pass → (r : R) × (k : Forest R) × (tree_of log ≡ tree r k nil)
  one-tree log v = alone (tree_of log) (rw (well-formed log v) v)

  -- The joints of records that follow level l.
  after : ℕ → List (Record R) → Verdict
  after l [] = pass
  after l (x ∷ xs) = low (joint l (start_level x)) (after (end_level x) xs)

  after-joints : (x : Record R) (xs : List (Record R)) → joints x xs ≡ after (end_level x) xs
  unfolding after
  after-joints x [] = refl
  after-joints x (y ∷ ys) = rw (after-joints y ys)

  -- A traversal above level 0 leaves no fault.
  after_write : (l : ℕ) (f : Forest R) (ys : List (Record R)) → after (suc l) (write (suc l) f ++ ys) ≡ after (suc l) ys
  unfolding after
  after_write l nil ys = refl
  after_write l (tree r k f) ys =
      rw (joint-same l, append_assoc (write (suc (suc l)) k) (closing (suc l) ∷ write (suc l) f) ys, after_write (suc l) k (closing (suc l) ∷ (write (suc l) f ++ ys)), joint-same (suc l))
      (after_write l f ys)

  -- The traversal of one tree is well formed, unless it opens too many records.
  pub tree-log : (r : R) (k : Forest R) → log_fault (write 0 (tree r k nil)) ≡ count (opened_of (write 0 (tree r k nil)))
  unfolding after ends
  tree-log r k =
      rw (after-joints (opening 0 r) (write 1 k ++ (closing 0 ∷ [])), after_write 0 k (closing 0 ∷ []), joint-same 0, end-last (opening 0 r) (write 1 k) (closing 0)) (low-pass (count (opened_of (write 0 (tree r k nil)))))
