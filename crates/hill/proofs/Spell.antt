-- In the algebra of forests the hill of a chunk spells the chunk. So a log from level 0 to level 0 is the traversal of just one forest. Assumes nothing.
use Rattle.std.specs.Prelude.{◌≡◌, refl, List, [], ◌∷◌, ◌++◌, ℕ, suc, ◌+◌, min, length}
use Rattle.std.proofs.Common.{ap, sym, ◌∙◌, append_assoc, append-nil, add-zero, add-suc, arith}
use Rattle.hill.specs.Verdict.{pass, joint}
use Rattle.hill.proofs.VerdictLaws.{low-fst, low-snd, joint-pass}
use Rattle.hill.specs.Log.{Record, opening, closing, depth, start_level, end_level, end_of, peak_of, joints}
use Rattle.hill.specs.Tree.{Forest, nil, tree, write}
use Rattle.hill.specs.Summary.{Hill, hill, rise, fall, middle}
use Rattle.hill.specs.Building.{empty, join, step, run, hill_of}
use Rattle.hill.proofs.Slopes.{fall-join, rise-join}
use Rattle.hill.proofs.Peak.{depth-least, peak-depth}
use Rattle.hill.proofs.TreeLaws.{write-beside, free, free-laws, hill_of-write, value-free}

module _ {R : Type 0} where
  -- The records of the left slope over peak p, and of the right slope.
  abbrev pub left : ℕ → List (Forest R) → List (Record R)
  left p [] = []
  left p (f ∷ u) = left (suc p) u ++ (write (suc p) f ++ (closing p ∷ []))

  abbrev pub right : ℕ → List (R × Forest R) → List (Record R)
  right p [] = []
  right p (e ∷ d) = right p d ++ (opening (p + length d) e.0 ∷ write (suc (p + length d)) e.1)

  abbrev pub spell : ℕ → Hill (Forest R) R → List (Record R)
  spell p (hill u m d) = left p u ++ (write p m ++ right p d)

  spell-join : (p : ℕ) (w : Forest R) (a : Hill (Forest R) R) → spell p (join (free R) w a) ≡ spell p a ++ write (p + fall a) w
  spell-join p w (hill u m []) = simp (write-beside, append-nil, append_assoc, add-zero)
  spell-join p w (hill u m (e ∷ d)) = simp (write-beside, append_assoc, add-suc)

  -- One record more.
  spell-step : (p : ℕ) (a : Hill (Forest R) R) (x : Record R) → p + fall a ≡ start_level x → spell (min p (depth x)) (step (free R) a x) ≡ spell p a ++ (x ∷ [])
  spell-step p (hill u m d) (opening c r) l =
      let q : min p c ≡ p = omega arith in
      let k : c ≡ p + length d = omega arith in
      ap (λ t. spell t (step (free R) (hill u m d) (opening c r))) q ∙ rw k (simp append_assoc)
  spell-step p (hill u m []) (closing c) l =
      let q : min p c ≡ c = omega arith in
      let k : p ≡ suc c = omega arith in
      rw (q, k) (simp (append_assoc, append-nil))
  spell-step p (hill u m (e ∷ d)) (closing c) l =
      let q : min p c ≡ p = omega arith in
      let k : c ≡ p + length d = omega arith in
      rw (q, k) (spell-join p (tree e.0 e.1 nil) (hill u m d) ∙ simp append_assoc)

  rise-step : (p : ℕ) (a : Hill (Forest R) R) (x : Record R) → p + fall a ≡ start_level x → min p (depth x) + rise (step (free R) a x) ≡ p + rise a
  rise-step p (hill u m d) (opening c r) l = omega arith
  rise-step p (hill u m []) (closing c) l = omega arith
  rise-step p (hill u m (e ∷ d)) (closing c) l = rw (rise-join (free R) (tree e.0 e.1 nil) (hill u m d)) (omega arith)

  fall-step : (p : ℕ) (a : Hill (Forest R) R) (x : Record R) → p + fall a ≡ start_level x → min p (depth x) + fall (step (free R) a x) ≡ end_level x
  fall-step p (hill u m d) (opening c r) l = omega arith
  fall-step p (hill u m []) (closing c) l = omega arith
  fall-step p (hill u m (e ∷ d)) (closing c) l = rw (fall-join (free R) (tree e.0 e.1 nil) (hill u m d)) (omega arith)

  -- Records that meet, from level l on; where they end, and the lowest level if they start over peak p.
  abbrev pub Meets : ℕ → List (Record R) → Type 0
  Meets l [] = Unit {0}
  Meets l (x ∷ xs) = (l ≡ start_level x) × Meets (end_level x) xs

  abbrev pub end_from : ℕ → List (Record R) → ℕ
  end_from l [] = l
  end_from l (x ∷ xs) = end_from (end_level x) xs

  abbrev pub peak_from : ℕ → List (Record R) → ℕ
  peak_from p [] = p
  peak_from p (x ∷ xs) = peak_from (min p (depth x)) xs

  -- A hill grows by just the records that it is run on.
  pub spell-run : (p : ℕ) (a : Hill (Forest R) R) (xs : List (Record R)) → Meets (p + fall a) xs →
      (spell (peak_from p xs) (run (free R) a xs) ≡ spell p a ++ xs) ×
      (peak_from p xs + rise (run (free R) a xs) ≡ p + rise a) ×
      (peak_from p xs + fall (run (free R) a xs) ≡ end_from (p + fall a) xs)
  spell-run p a [] k = (sym (append-nil (spell p a)), refl, refl)
  spell-run p a (x ∷ xs) k =
      let ih = spell-run (min p (depth x)) (step (free R) a x) xs (rw (fall-step p a x k.0) k.1) in
      (ih.0 ∙ rw (spell-step p a x k.0) (append_assoc (spell p a) (x ∷ []) xs), ih.1 ∙ rise-step p a x k.0, ih.2 ∙ rw (fall-step p a x k.0))

  -- The forest of a log.
  abbrev pub tree_of : List (Record R) → Forest R
  tree_of log = middle (hill_of (free R) log)

  -- A hill with no slopes.
  pub flat : (p : ℕ) (a : Hill (Forest R) R) (log : List (Record R)) → spell p a ≡ log → rise a ≡ 0 → fall a ≡ 0 → write p (middle a) ≡ log
  flat p (hill [] m []) log s j k = sym (append-nil (write p m)) ∙ s
  flat p (hill [] m (e ∷ d)) log s j k = absurd (omega arith)
  flat p (hill (f ∷ u) m d) log s j k = absurd (omega arith)

  -- Records that meet, go from level l to level l and reach no lower one are the traversal of their forest at depth l.
  pub write-level : (l : ℕ) (xs : List (Record R)) → Meets l xs → end_from l xs ≡ l → peak_from l xs ≡ l → write l (tree_of xs) ≡ xs
  write-level l xs k e q =
      let z : l + 0 ≡ l = add-zero l in
      let t = spell-run l (empty (free R)) xs (rw z k) in
      let s : spell l (hill_of (free R) xs) ≡ xs = ap (λ p. spell p (hill_of (free R) xs)) (sym q) ∙ t.0 in
      flat l (hill_of (free R) xs) xs s (omega (arith, t.1, q)) (omega (arith, t.2, q, ap (λ n. end_from n xs) z, e))

  peak-ground : (xs : List (Record R)) → peak_from 0 xs ≡ 0
  peak-ground [] = refl
  peak-ground (x ∷ xs) = let e : min 0 (depth x) ≡ 0 = omega arith in ap (λ p. peak_from p xs) e ∙ peak-ground xs

  -- A log whose records meet and that goes from level 0 to level 0 is the traversal of its forest ..
  pub write-tree_of : (log : List (Record R)) → Meets 0 log → end_from 0 log ≡ 0 → write 0 (tree_of log) ≡ log
  write-tree_of log k e = write-level 0 log k e (peak-ground log)

  -- .. and of no other.
  pub tree_of-write : (d : ℕ) (f : Forest R) → tree_of (write d f) ≡ f
  tree_of-write d f = rw (hill_of-write (free R) (free-laws R) d f) (value-free f)

  -- Records between which nothing is at fault meet in level.
  pub joints-meet : (x : Record R) (xs : List (Record R)) → joints x xs ≡ pass → Meets (end_level x) xs
  joints-meet x [] v = tt
  joints-meet x (y ∷ ys) v = (
    joint-pass (end_level x) (start_level y) (low-fst (joint (end_level x) (start_level y)) (joints y ys) v),
    joints-meet y ys (low-snd (joint (end_level x) (start_level y)) (joints y ys) v),
  )

  pub end-from : (x : Record R) (xs : List (Record R)) → end_from (end_level x) xs ≡ end_of x xs
  end-from x [] = refl
  end-from x (y ∷ ys) = end-from y ys

  peak-from : (p : ℕ) (x : Record R) (xs : List (Record R)) → peak_from p (x ∷ xs) ≡ min p (peak_of x xs)
  peak-from p x [] = refl
  peak-from p x (y ∷ ys) = peak-from (min p (depth x)) y ys ∙ omega arith

  -- A chunk whose records meet is spelt by its hill in the algebra of forests, over the lowest level it reaches, between its start and its end level.
  pub chunk-spelt : (x : Record R) (xs : List (Record R)) → joints x xs ≡ pass →
      (spell (peak_of x xs) (hill_of (free R) (x ∷ xs)) ≡ x ∷ xs) ×
      (peak_of x xs + rise (hill_of (free R) (x ∷ xs)) ≡ start_level x) ×
      (peak_of x xs + fall (hill_of (free R) (x ∷ xs)) ≡ end_of x xs)
  chunk-spelt x xs v =
      let t = spell-run (start_level x) (empty (free R)) (x ∷ xs) (add-zero (start_level x), joints-meet x xs v) in
      let k : peak_of x xs ≡ peak_from (start_level x) (x ∷ xs) = sym (peak-from (start_level x) x xs ∙ omega (arith, (depth-least x).0, peak-depth x xs 0 (omega arith))) in
      let h : Hill (Forest R) R = hill_of (free R) (x ∷ xs) in
      (ap (λ (p : ℕ). spell p h) k ∙ t.0, ap (λ (p : ℕ). p + rise h) k ∙ t.1 ∙ add-zero (start_level x), ap (λ (p : ℕ). p + fall h) k ∙ t.2 ∙ end-from x xs)
