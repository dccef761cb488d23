-- Laws of the reader's definitions. Assumes nothing.
use Rattle.std.specs.Prelude.{◌≡◌, refl, Bool, true, false, cond, ◌&&◌, List, [], ◌∷◌, ◌++◌, ℕ, zero, suc, ◌≤◌, ◌<◌, length, drop, T, leb, eqb, ℤ, pos, negsuc, nat_abs}
use Rattle.std.proofs.Common.{sym, ap, ◌∙◌, subst, append_assoc, le_refl, arith, length-drop, lit≤, leb-true, eqb-true}
use Rattle.std.proofs.lemmas.Bool.{lt-leb}
use Rattle.gate.specs.Outcome.{Outcome, refused, granted}
use Rattle.gate.proofs.Laws.{not-result, one_number}
use Rattle.number.specs.Bytes.{le_at}
use Rattle.record.specs.Record.{kind_number, within, in_range, accepted, whole, by_shape, read_of, before, and_then, records_in, records_of, full_open, open_with_batch, short_fields, short_open, close}
use Rattle.record.specs.declared.Fields.{Fields}
use Rattle.record.specs.declared.Kind.{Kind}
use Rattle.record.specs.declared.Kind.TheVariants as kind

cond_same : (b : Bool) (r : Outcome Fields) → cond b r r ≡ r
cond_same true r = refl
cond_same false r = refl

-- fewer bytes than the shortest record has
pub read_short : (s : List ℕ) → length s < 6 → read_of s ≡ refused 3
unfolding read_of by_shape whole
read_short s h =
    simp (lt-leb 22 (length s) (omega arith), lt-leb 18 (length s) (omega arith), lt-leb 10 (length s) (omega arith), lt-leb 6 (length s) h, cond_same)

-- ---- a record that was read

-- what is known of a record that was read: its bytes are there, and its fields are in range
pub record Sound (s : List ℕ) (f : Fields) : Type 0 where
  pub least-6 : 6 ≤ f.length
  pub inside : f.length ≤ length s
  pub ranged : in_range f.depth f.value f.floor f.ceiling ≡ true

abbrev SoundRead : List ℕ → Outcome Fields → Type 0
SoundRead s (granted f) = Sound s f
SoundRead s (refused n) = n ≡ 3

either : (P : Outcome Fields → Type 0) (b : Bool) (x y : Outcome Fields) → (b ≡ true → P x) → P y → P (cond b x y)
either P true x y p q = p refl
either P false x y p q = q

whole-sound : (s : List ℕ) (f : Fields) → 6 ≤ f.length → SoundRead s (whole s f)
unfolding whole accepted
whole-sound s f h =
    either (SoundRead s) (leb f.length (length s)) (accepted f) (refused 3) (λ e. either (SoundRead s) (in_range f.depth f.value f.floor f.ceiling) (granted f) (refused 3) (λ r. record { least-6 = h; inside = leb-true _ _ e; ranged = r }) refl) refl

read-sound : (s : List ℕ) → SoundRead s (read_of s)
unfolding read_of by_shape
read-sound s =
    either (SoundRead s) (eqb (le_at 2 s 2) 1) _ _
    (λ _. either (SoundRead s) (eqb (le_at 2 s 0) 18) _ _ (λ _. whole-sound s (full_open s) (lit≤ tt))
    (either (SoundRead s) (eqb (le_at 2 s 0) 10) _ _ (λ _. whole-sound s (short_open s) (lit≤ tt))
    (either (SoundRead s) (eqb (le_at 2 s 0) 22) _ _ (λ _. whole-sound s (open_with_batch s) (lit≤ tt)) refl)))
    (either (SoundRead s) (eqb (le_at 2 s 2) 2) _ _ (λ _. either (SoundRead s) (eqb (le_at 2 s 0) 6) _ _ (λ _. whole-sound s (close s) (lit≤ tt)) refl) refl)

pub sound : (s : List ℕ) (f : Fields) → read_of s ≡ granted f → Sound s f
sound s f e = subst (SoundRead s) e (read-sound s)

-- reading is refused by 3 alone
read-3 : (s : List ℕ) (n : ℕ) → read_of s ≡ refused n → n ≡ 3
read-3 s n e = subst (SoundRead s) e (read-sound s)

pub and_left : (a b : Bool) → a && b ≡ true → a ≡ true
and_left true b e = refl
and_left false b e = e

pub and_right : (a b : Bool) → a && b ≡ true → b ≡ true
and_right true b e = e
and_right false b e = absurd (subst T (sym e) tt)

pub within-size : (z : ℤ) → within z ≡ true → nat_abs z ≤ 1_000_000_000
unfolding within
within-size (pos n) e = leb-true n 1_000_000_000 e
within-size (negsuc n) e = omega (arith, leb-true n 999_999_999 (and_left (leb n 999_999_999) true e))

-- ---- the layout that a record was read by

pub data Shape (s : List ℕ) : Fields → Type 0 where
  full : le_at 2 s 0 ≡ 18 → le_at 2 s 2 ≡ 1 → Shape s (full_open s)
  short : le_at 2 s 0 ≡ 10 → le_at 2 s 2 ≡ 1 → Shape s (short_open s)
  batched : le_at 2 s 0 ≡ 22 → le_at 2 s 2 ≡ 1 → Shape s (open_with_batch s)
  closed : le_at 2 s 0 ≡ 6 → le_at 2 s 2 ≡ 2 → Shape s (close s)

abbrev ShapeRead : List ℕ → Outcome Fields → Type 0
ShapeRead s (granted f) = Shape s f
ShapeRead s (refused n) = Unit {0}

whole-shape : (s : List ℕ) (f : Fields) → Shape s f → ShapeRead s (whole s f)
unfolding whole accepted
whole-shape s f h =
    either (ShapeRead s) (leb f.length (length s)) (accepted f) (refused 3) (λ _. either (ShapeRead s) (in_range f.depth f.value f.floor f.ceiling) (granted f) (refused 3) (λ _. h) tt) tt

read-shape : (s : List ℕ) → ShapeRead s (read_of s)
unfolding read_of by_shape
read-shape s =
    either (ShapeRead s) (eqb (le_at 2 s 2) 1) _ _
    (λ k. either (ShapeRead s) (eqb (le_at 2 s 0) 18) _ _ (λ l. whole-shape s (full_open s) (full (eqb-true _ _ l) (eqb-true _ _ k)))
    (either (ShapeRead s) (eqb (le_at 2 s 0) 10) _ _ (λ l. whole-shape s (short_open s) (short (eqb-true _ _ l) (eqb-true _ _ k)))
    (either (ShapeRead s) (eqb (le_at 2 s 0) 22) _ _ (λ l. whole-shape s (open_with_batch s) (batched (eqb-true _ _ l) (eqb-true _ _ k))) tt)))
    (either (ShapeRead s) (eqb (le_at 2 s 2) 2) _ _ (λ k. either (ShapeRead s) (eqb (le_at 2 s 0) 6) _ _ (λ l. whole-shape s (close s) (closed (eqb-true _ _ l) (eqb-true _ _ k))) tt) tt)

pub shape : (s : List ℕ) (f : Fields) → read_of s ≡ granted f → Shape s f
shape s f e = subst (ShapeRead s) e (read-shape s)

-- a record of length 10 has the default floor and ceiling, and no batch
pub short-is : (s : List ℕ) (f : Fields) → read_of s ≡ granted f → f.length ≡ 10 → f ≡ short_fields f.depth f.value
short-is s f e = go f (shape s f e)
  where
    go : (f : Fields) → Shape s f → f.length ≡ 10 → f ≡ short_fields f.depth f.value
    go f (full e0 e2) l = absurd (omega arith)
    go f (short e0 e2) l = refl
    go f (batched e0 e2) l = absurd (omega arith)
    go f (closed e0 e2) l = absurd (omega arith)

-- ---- the records of a chunk

nil-in : (n : ℕ) → records_in n [] ≡ granted []
unfolding records_in
nil-in zero = refl
nil-in (suc n) = refl

shorter : (b : ℕ) (s : List ℕ) (f : Fields) → read_of (b ∷ s) ≡ granted f → length (drop f.length (b ∷ s)) ≤ length s
shorter b s f e = omega (arith, sound (b ∷ s) f e, length-drop f.length (b ∷ s))

-- any fuel that is enough gives the same
Same : ℕ → Type 0
Same n = (m : ℕ) (s : List ℕ) → length s ≤ n → length s ≤ m → records_in n s ≡ records_in m s

same-zero : Same zero
unfolding Same
same-zero m [] h k = nil-in zero ∙ sym (nil-in m)
same-zero m (b ∷ s) h k = absurd (omega arith)

same-suc : (n : ℕ) → Same n → Same (suc n)
unfolding Same records_in
same-suc n ih m [] h k = sym (nil-in m)
same-suc n ih zero (b ∷ s) h k = absurd (omega arith)
same-suc n ih (suc m) (b ∷ s) h k = go (read_of (b ∷ s)) refl
  where
    go : (r : Outcome Fields) → read_of (b ∷ s) ≡ r → and_then r (λ f. records_in n (drop f.length (b ∷ s))) ≡ and_then r (λ f. records_in m (drop f.length (b ∷ s)))
    go (granted f) e =
        let l = shorter b s f e in
        ap (before f) (ih m (drop f.length (b ∷ s)) (omega arith) (omega arith))
    go (refused k) e = refl

enough : (n : ℕ) → Same n
enough zero = same-zero
enough (suc n) = same-suc n (enough n)

in-3 : (m : ℕ) (s : List ℕ) (n : ℕ) → records_in m s ≡ refused n → n ≡ 3
unfolding records_in
in-3 zero [] n e = absurd (not-result n [] (sym e))
in-3 zero (b ∷ s) n e = sym (one_number e)
in-3 (suc m) [] n e = absurd (not-result n [] (sym e))
in-3 (suc m) (b ∷ s) n e = go (read_of (b ∷ s)) refl (λ f. in-3 m (drop f.length (b ∷ s)) n) e
  where
    rest : (f : Fields) (o : Outcome (List Fields)) → (o ≡ refused n → n ≡ 3) → before f o ≡ refused n → n ≡ 3
    rest f (refused k) ih e = ih (ap refused (one_number e))
    rest f (granted fs) ih e = absurd (not-result n (f ∷ fs) (sym e))

    go : (r : Outcome Fields) → read_of (b ∷ s) ≡ r → ((f : Fields) → records_in m (drop f.length (b ∷ s)) ≡ refused n → n ≡ 3) → and_then r (λ f. records_in m (drop f.length (b ∷ s))) ≡ refused n → n ≡ 3
    go (refused k) h ih e = sym (one_number e) ∙ read-3 (b ∷ s) k h
    go (granted f) h ih e = rest f (records_in m (drop f.length (b ∷ s))) (ih f) e

-- so is reading all
pub records-3 : (s : List ℕ) (n : ℕ) → records_of s ≡ refused n → n ≡ 3
unfolding records_of
records-3 s n e = in-3 (length s) s n e

pub records-nil : records_of [] ≡ granted []
unfolding records_of records_in
records-nil = refl

pub records-bad : (s : List ℕ) (n : ℕ) → 0 < length s → read_of s ≡ refused n → records_of s ≡ refused n
unfolding records_of records_in
records-bad [] n h e = absurd (omega arith)
records-bad (b ∷ s) n h e = rw e

pub records-next : (s : List ℕ) (f : Fields) → read_of s ≡ granted f → records_of s ≡ before f (records_of (drop f.length s))
unfolding records_of records_in Same
records-next [] f e = absurd (omega (arith, sound [] f e))
records-next (b ∷ s) f e =
    rw e (ap (before f) (enough (length s) (length (drop f.length (b ∷ s))) (drop f.length (b ∷ s)) (shorter b s f e) (le_refl _)))

-- no record both opens and closes one
pub not-both : {k : Kind} → k ≡ kind.Open → k ≡ kind.Close → ⊥
not-both o c = let z : ◌≡◌ {A = ℕ} 1 2 = ap kind_number (sym o ∙ c) in omega arith

-- ---- records one after the other

-- these records before the others
unfoldable pub onto : List Fields → Outcome (List Fields) → Outcome (List Fields)
onto done (refused n) = refused n
onto done (granted fs) = granted (done ++ fs)

pub onto-nil : (o : Outcome (List Fields)) → onto [] o ≡ o
unfolding onto
onto-nil (refused n) = refl
onto-nil (granted fs) = refl

pub onto-next : (done : List Fields) (f : Fields) (o : Outcome (List Fields)) → onto done (before f o) ≡ onto (done ++ (f ∷ [])) o
unfolding onto
onto-next done f (refused n) = refl
onto-next done f (granted fs) = ap granted (sym (append_assoc done (f ∷ []) fs))
