-- Chunks joined: what was read of a chunk is read of it with others behind it. Assumes nothing.
use Rattle.std.specs.Prelude.{◌≡◌, Bool, cond, List, [], ◌∷◌, ◌++◌, ℕ, zero, suc, ◌≤◌, drop, eqb}
use Rattle.std.proofs.Math.Path.{refl}
use Rattle.std.proofs.Common.{sym, ap, ◌∙◌, subst, le_refl, arith, length-drop, lit≤}
use Rattle.std.proofs.Math.Bool.{true, false}
use Rattle.std.proofs.Math.ListN.{length, length-append}
use Rattle.std.proofs.lemmas.List.{drop-append-le}
use Rattle.std.proofs.Math.Dec.{leb}
use borrow.Author.Tests.{le-leb, leb-true, eqb-true}
use Rattle.gate.specs.Outcome.{Outcome, refused, granted}
use Rattle.number.specs.Bytes.{le_at}
use Rattle.number.specs.Laws.{le_at-append}
use Rattle.record.specs.Record.{accepted, whole, by_shape, read_of, before, records_of, batch_of, open_of, full_open, open_with_batch, short_open, close}
use Rattle.record.proofs.Laws.{sound, records-nil, records-bad, records-next, onto, onto-nil}
use Rattle.record.specs.declared.Fields.{Fields}

-- y reads the record that x reads, if x reads one
Reads : Outcome Fields → Outcome Fields → Type 0
Reads x y = (f : Fields) → x ≡ granted f → y ≡ granted f

no_record : (y : Outcome Fields) → Reads (refused 3) y
unfolding Reads
no_record y f e = let z : ◌≡◌ {A = ℕ} 0 1 = cc in absurd (omega arith)

either : (b : Bool) (x y x' y' : Outcome Fields) → Reads x x' → Reads y y' → Reads (cond b x y) (cond b x' y')
either true x y x' y' p q = p
either false x y x' y' p q = q

-- ---- a layout looks at its own bytes alone

module _ (a b : List ℕ) where
  batch-same : (len : ℕ) → len ≤ length a → batch_of len (a ++ b) ≡ batch_of len a
  batch-same len h = go (eqb len 22) refl
    where
      go : (t : Bool) → eqb len 22 ≡ t → cond t (le_at 4 (a ++ b) 18) 0 ≡ cond t (le_at 4 a 18) 0
      go true e = le_at-append 4 a b 18 (omega (arith, eqb-true len 22 e))
      go false e = refl

  pub open-same : (len : ℕ) → 18 ≤ len → len ≤ length a → open_of len (a ++ b) ≡ open_of len a
  open-same len k h =
      rw (batch-same len h, le_at-append 2 a b 4 (omega arith), le_at-append 4 a b 6 (omega arith), le_at-append 4 a b 10 (omega arith), le_at-append 4 a b 14 (omega arith))

  pub short-same : 10 ≤ length a → short_open (a ++ b) ≡ short_open a
  short-same h = rw (le_at-append 2 a b 4 (omega arith), le_at-append 4 a b 6 (omega arith))

  pub close-same : 6 ≤ length a → close (a ++ b) ≡ close a
  close-same h = rw (le_at-append 2 a b 4 (omega arith))

module _ (a b : List ℕ) where
  -- so what is read of it is read of it with others behind it
  whole-reads : (F : List ℕ → Fields) → ((F a).length ≤ length a → F (a ++ b) ≡ F a) → Reads (whole a (F a)) (whole (a ++ b) (F (a ++ b)))
  unfolding Reads whole
  whole-reads F same = go (leb (F a).length (length a)) refl
    where
      go : (t : Bool) → leb (F a).length (length a) ≡ t → Reads (cond t (accepted (F a)) (refused 3)) (whole (a ++ b) (F (a ++ b)))
      go true e f h =
          let n : (F a).length ≤ length a = leb-true _ _ e in
          rw (same n, le-leb (F a).length (length (a ++ b)) (omega (arith, length-append a b))) h
      go false e f h = no_record (whole (a ++ b) (F (a ++ b))) f h

  shape-reads : (kind len : ℕ) → Reads (by_shape kind len a) (by_shape kind len (a ++ b))
  unfolding by_shape
  shape-reads kind len =
      either (eqb kind 1) _ _ _ _
      (either (eqb len 18) _ _ _ _ (whole-reads full_open (open-same a b 18 (lit≤ tt)))
      (either (eqb len 10) _ _ _ _ (whole-reads short_open (short-same a b))
      (either (eqb len 22) _ _ _ _ (whole-reads open_with_batch (open-same a b 22 (lit≤ tt))) (no_record _))))
      (either (eqb kind 2) _ _ _ _ (either (eqb len 6) _ _ _ _ (whole-reads close (close-same a b)) (no_record _)) (no_record _))

  -- later bytes, and how many there are, are not judged
  pub read-append : (f : Fields) → read_of a ≡ granted f → read_of (a ++ b) ≡ granted f
  unfolding Reads read_of
  read-append f e =
      let z = sound a f e in
      let six : 6 ≤ length a = omega (arith, z.least-6, z.inside) in
      rw (le_at-append 2 a b 2 (omega arith), le_at-append 2 a b 0 (omega arith)) (shape-reads (le_at 2 a 2) (le_at 2 a 0) f e)

before-onto : (f : Fields) (fs : List Fields) (o : Outcome (List Fields)) → before f (onto fs o) ≡ onto (f ∷ fs) o
unfolding onto
before-onto f fs (refused n) = refl
before-onto f fs (granted gs) = refl

-- the records of a joined chunk are those of its parts, if those of the first can be read
Joins : ℕ → Type 0
Joins n = (a b : List ℕ) (fs : List Fields) → length a ≤ n → records_of a ≡ granted fs → records_of (a ++ b) ≡ onto fs (records_of b)

joins-nil : (b : List ℕ) (fs : List Fields) → records_of [] ≡ granted fs → records_of b ≡ onto fs (records_of b)
joins-nil b fs e =
    let q : [] ≡ fs = cc records-nil in
    sym (subst (λ (l : List Fields). onto l (records_of b) ≡ records_of b) q (onto-nil (records_of b)))

joins-suc : (n : ℕ) → Joins n → Joins (suc n)
unfolding Joins
joins-suc n ih [] b fs h e = joins-nil b fs e
joins-suc n ih (x ∷ a) b fs h e = go (read_of (x ∷ a)) refl
  where
    go : (r : Outcome Fields) → read_of (x ∷ a) ≡ r → records_of ((x ∷ a) ++ b) ≡ onto fs (records_of b)
    go (refused k) p = let z : ◌≡◌ {A = ℕ} 0 1 = cc (records-bad (x ∷ a) k (omega arith) p) in absurd (omega arith)
    go (granted f) p = rest (records_of (drop f.length (x ∷ a))) refl
      where
        rest : (o : Outcome (List Fields)) → records_of (drop f.length (x ∷ a)) ≡ o → records_of ((x ∷ a) ++ b) ≡ onto fs (records_of b)
        rest (refused n) q = let z : ◌≡◌ {A = ℕ} 0 1 = cc (records-next (x ∷ a) f p) in absurd (omega arith)
        rest (granted gs) q =
            let w = sound (x ∷ a) f p in
            let k : f ∷ gs ≡ fs = cc (records-next (x ∷ a) f p) in
            records-next ((x ∷ a) ++ b) f (read-append (x ∷ a) b f p) ∙
            ap (λ (l : List ℕ). before f (records_of l)) (drop-append-le f.length (x ∷ a) b w.inside) ∙
            ap (before f) (ih (drop f.length (x ∷ a)) b gs (omega (arith, w.least-6, length-drop f.length (x ∷ a))) q) ∙
            before-onto f gs (records_of b) ∙ ap (λ (l : List Fields). onto l (records_of b)) k

joins : (n : ℕ) → Joins n
unfolding Joins
joins zero [] b fs h e = joins-nil b fs e
joins zero (x ∷ a) b fs h e = absurd (omega arith)
joins (suc n) a b fs h e = joins-suc n (joins n) a b fs h e

pub records-append : (a b : List ℕ) (fs : List Fields) → records_of a ≡ granted fs → records_of (a ++ b) ≡ onto fs (records_of b)
unfolding Joins
records-append a b fs e = joins (length a) a b fs (le_refl _) e
