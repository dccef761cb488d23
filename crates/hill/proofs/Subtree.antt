-- Lemma 1 of METR 2006-64: the records from an open at depth d to the first close at depth d are the traversal of one tree, and the figure
-- of the record opened there is that tree's. Assumes nothing.
use Rattle.std.specs.Prelude.{◌≡◌, refl, ◌≢◌, Bool, true, false, cond, ◌||◌, List, [], ◌∷◌, ◌++◌, ℕ, zero, suc, ◌+◌, ◌-◌, ◌≤◌, ◌<◌, min, eqb, length, take, drop}
use Rattle.std.proofs.Common.{ap, sym, subst, ◌∙◌, append_assoc, arith, length-append, get_or-drop, drop-cons, take_at, eqb-true, eq-eqb}
use Rattle.std.proofs.Math.Logic.{dite}
use Rattle.std.proofs.Math.Decide.{dec_lt}
use Rattle.std.proofs.Math.ListN.{get_or-append}
use Rattle.std.proofs.Math.Seq.{get_or-append_seam}
use Rattle.std.proofs.lemmas.Bool.{eqb-false}
use Rattle.algebra.specs.Algebra.{Algebra, Laws}
use Rattle.hill.specs.Verdict.{pass}
use Rattle.hill.specs.Log.{Record, opening, closing, start_level, end_level, joints}
use Rattle.hill.specs.Closing.{at, ClosedBy}
use Rattle.hill.specs.Tree.{Forest, nil, tree, write, value}
use Rattle.hill.specs.Figure.{held, figure_of, figure_at}
use Rattle.hill.specs.Summary.{closed_in}
use Rattle.hill.proofs.Spell.{Meets, end_from, peak_from, tree_of, write-level, joints-meet}
use Rattle.hill.proofs.FigureLaws.{held-write}
use Rattle.hill.proofs.HeldPlaces.{opening-closing}
use Rattle.hill.proofs.Crossings.{closed_in-closed}

module _ {R : Type 0} where
  -- What stands before the first close at depth d, and what after it.
  abbrev pub inside : ℕ → List (Record R) → List (Record R)
  inside d [] = []
  inside d (opening c r ∷ xs) = opening c r ∷ inside d xs
  inside d (closing c ∷ xs) = cond (eqb c d) [] (closing c ∷ inside d xs)

  abbrev pub beyond : ℕ → List (Record R) → List (Record R)
  beyond d [] = []
  beyond d (opening c r ∷ xs) = beyond d xs
  beyond d (closing c ∷ xs) = cond (eqb c d) xs (beyond d xs)

  inside-beyond : (d : ℕ) (xs : List (Record R)) → closed_in d xs ≡ true → inside d xs ++ (closing d ∷ beyond d xs) ≡ xs
  inside-beyond d [] e = cc
  inside-beyond d (opening c r ∷ xs) e = rw (inside-beyond d xs e)
  inside-beyond d (closing c ∷ xs) e = go (eqb c d) refl (inside-beyond d xs) e
    where
      go : (b : Bool) → eqb c d ≡ b → (closed_in d xs ≡ true → inside d xs ++ (closing d ∷ beyond d xs) ≡ xs) → b || closed_in d xs ≡ true →
          cond b [] (closing c ∷ inside d xs) ++ (closing d ∷ cond b xs (beyond d xs)) ≡ closing c ∷ xs
      go true t ih e = rw (eqb-true c d t)
      go false t ih e = rw (ih e)

  -- Up to that close the records meet, stay above level d, and come back to level d + 1.
  abbrev Stays : ℕ → ℕ → List (Record R) → Type 0
  Stays d l xs = Meets l (inside d xs) × (end_from l (inside d xs) ≡ suc d) × (peak_from (suc d) (inside d xs) ≡ suc d)

  stays : (d l : ℕ) (xs : List (Record R)) → Meets l xs → d < l → closed_in d xs ≡ true → Stays d l xs
  stays d l [] m h e = absurd (let z : ◌≡◌ {A = ℕ} 0 1 = cc in omega arith)
  stays d l (opening c r ∷ xs) m h e =
      let ih = stays d (suc c) xs m.1 (omega (arith, m.0)) e in
      let q : min (suc d) c ≡ suc d = omega (arith, m.0) in
      ((m.0, ih.0), ih.1, ap (λ p. peak_from p (inside d xs)) q ∙ ih.2)
  stays d l (closing c ∷ xs) m h e = go (eqb c d) refl (λ k. stays d c xs m.1 k) e
    where
      go : (b : Bool) → eqb c d ≡ b → (d < c → closed_in d xs ≡ true → Stays d c xs) → b || closed_in d xs ≡ true →
          Meets l (cond b [] (closing c ∷ inside d xs)) × (end_from l (cond b [] (closing c ∷ inside d xs)) ≡ suc d) × (peak_from (suc d) (cond b [] (closing c ∷ inside d xs)) ≡ suc d)
      go true t ih e = (tt, omega (arith, m.0, eqb-true c d t), refl)
      go false t ih e =
          let n : c ≢ d = eqb-false c d t in
          let k : d < c = omega (arith, m.0) in
          let w = ih k e in
          let q : min (suc d) c ≡ suc d = omega (arith, k) in
          ((m.0, w.0), w.1, ap (λ p. peak_from p (inside d xs)) q ∙ w.2)

  -- Between an open at depth d and its close stands the traversal of a forest at depth d + 1.
  write-inside : (d : ℕ) (xs : List (Record R)) → Meets (suc d) xs → closed_in d xs ≡ true → write (suc d) (tree_of (inside d xs)) ≡ inside d xs
  write-inside d xs m e = let s : Stays d (suc d) xs = stays d (suc d) xs m (omega arith) e in write-level (suc d) (inside d xs) s.0 s.1 s.2

  forest-inside : (d : ℕ) (xs : List (Record R)) → Meets (suc d) xs → closed_in d xs ≡ true → write (suc d) (tree_of (inside d xs)) ++ (closing d ∷ beyond d xs) ≡ xs
  forest-inside d xs m e = ap (λ ys. ys ++ (closing d ∷ beyond d xs)) (write-inside d xs m e) ∙ inside-beyond d xs e

  inside-none : (d : ℕ) (xs : List (Record R)) (k : ℕ) → k < length (inside d xs) → at (inside d xs) k ≢ closing d
  inside-none d [] k l = absurd (omega arith)
  inside-none d (opening c r ∷ xs) zero l = λ e. opening-closing (opening c r) c d r refl e
  inside-none d (opening c r ∷ xs) (suc k) l = inside-none d xs k (omega arith)
  inside-none d (closing c ∷ xs) k l = go (eqb c d) refl k l (inside-none d xs)
    where
      go : (b : Bool) → eqb c d ≡ b → (k : ℕ) → k < length (cond b [] (closing c ∷ inside d xs)) → ((k : ℕ) → k < length (inside d xs) → at (inside d xs) k ≢ closing d) →
          at (cond b [] (closing c ∷ inside d xs)) k ≢ closing d
      go true t k l ih = absurd (omega arith)
      go false t zero l ih = λ e. eqb-false c d t (cc)
      go false t (suc k) l ih = ih k (omega arith)

  meets-drop : (l : ℕ) (log : List (Record R)) (p : ℕ) → Meets l log → p < length log → Meets (end_level (at log p)) (drop (suc p) log)
  meets-drop l [] p m h = absurd (omega arith)
  meets-drop l (x ∷ xs) zero m h = m.1
  meets-drop l (x ∷ xs) (suc p) m h = meets-drop (end_level x) xs p m.1 (omega arith)

  -- The close of the record opened at p stands right after its forest.
  close-place : (log : List (Record R)) (p q d : ℕ) → ClosedBy log p q d → length (inside d (drop (suc p) log)) ≡ q - suc p
  close-place log p q d c = omega (arith, c.order, upper, lower)
    where
      ys : List (Record R)
      ys = drop (suc p) log

      n : ℕ
      n = length (inside d ys)

      split : inside d ys ++ (closing d ∷ beyond d ys) ≡ ys
      split = inside-beyond d ys (closed_in-closed log p d (q, c))

      at_n : at log (suc p + n) ≡ closing d
      at_n = sym (get_or-drop (suc p) log n (closing 0)) ∙ ap (λ l. at l n) (sym split) ∙ get_or-append_seam (inside d ys) (closing d) (beyond d ys) (closing 0)

      upper : q ≤ suc p + n
      upper = dite (dec_lt (suc p + n) q) (λ h. absurd (c.first (suc p + n) (omega arith) h at_n)) (λ h. omega arith)

      at-q : at ys (q - suc p) ≡ closing d
      at-q = let e : suc p + (q - suc p) ≡ q = omega (arith, c.order) in get_or-drop (suc p) log (q - suc p) (closing 0) ∙ ap (λ k. at log k) e ∙ c.closed

      lower : n ≤ q - suc p
      lower = dite (dec_lt (q - suc p) n)
          (λ h. absurd (inside-none d ys (q - suc p) h (sym (get_or-append (inside d ys) (closing d ∷ beyond d ys) (closing 0) (q - suc p) h) ∙ ap (λ l. at l (q - suc p)) split ∙ at-q)))
          (λ h. omega arith)

-- A subtree of the log: the records from p to q are the traversal of the tree, at depth d, and the figure of the record opened at p is the tree's.
pub record Subtree {R : Type 0} (𝒜 : Algebra R) (log : List (Record R)) (p q d : ℕ) : Type 0 where
  pub root : R
  pub below : Forest R
  pub traversal : take (suc q - p) (drop p log) ≡ write d (tree root below nil)
  pub its-figure : figure_at 𝒜 log p ≡ value 𝒜 (tree root below nil)

module _ {R : Type 0} (𝒜 : Algebra R) (ℒ : Laws 𝒜) where
  open ℒ use {unit-r}

  held-inside : (d : ℕ) (xs : List (Record R)) → Meets (suc d) xs → closed_in d xs ≡ true → held 𝒜 (suc d) xs ≡ value 𝒜 (tree_of (inside d xs))
  held-inside d xs m e =
      ap (held 𝒜 (suc d)) (sym (forest-inside d xs m e)) ∙ held-write 𝒜 ℒ (suc d) (tree_of (inside d xs)) (closing d ∷ beyond d xs) ∙
      rw (eq-eqb (suc d) (suc d) refl) (unit-r (value 𝒜 (tree_of (inside d xs))))

  pub subtree : (x : Record R) (xs : List (Record R)) → joints x xs ≡ pass → (p q d : ℕ) → ClosedBy (x ∷ xs) p q d → Subtree 𝒜 (x ∷ xs) p q d
  subtree x xs v p q d c = record {
    root = c.opened.0;
    below = tree_of (inside d ys);
    traversal = ap (take (suc q - p)) (here ∙ ap (λ zs. opening d c.opened.0 ∷ zs) (sym (forest-inside d ys meets closes) ∙ sym (append_assoc (write (suc d) (tree_of (inside d ys))) (closing d ∷ []) (beyond d ys)))) ∙
        take_at (write d (tree c.opened.0 (tree_of (inside d ys)) nil)) (beyond d ys) (suc q - p) size;
    its-figure = ap (figure_of 𝒜) here ∙ ap (𝒜.node c.opened.0) (held-inside d ys meets closes) ∙ sym (unit-r (𝒜.node c.opened.0 (value 𝒜 (tree_of (inside d ys)))));
  }
    where
      ys : List (Record R)
      ys = drop (suc p) (x ∷ xs)

      inner : p < length (x ∷ xs)
      inner = omega (arith, c.order, c.inside)

      here : drop p (x ∷ xs) ≡ opening d c.opened.0 ∷ ys
      here = drop-cons (x ∷ xs) p (closing 0) inner ∙ ap (λ y. y ∷ ys) c.opened.1

      meets : Meets (suc d) ys
      meets = subst (λ l. Meets l ys) (ap end_level c.opened.1) (meets-drop (start_level x) (x ∷ xs) p (refl, joints-meet x xs v) inner)

      closes : closed_in d ys ≡ true
      closes = closed_in-closed (x ∷ xs) p d (q, c)

      size : length (write d (tree c.opened.0 (tree_of (inside d ys)) nil)) ≡ suc q - p
      size = omega (arith, length-append (write (suc d) (tree_of (inside d ys))) (closing d ∷ []), ap length (write-inside d ys meets closes), close-place (x ∷ xs) p q d c, c.order)
