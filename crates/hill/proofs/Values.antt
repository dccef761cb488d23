-- The values of a chunk's hill in the paper's words are those of the hill built record by record. Assumes nothing.
use Rattle.std.specs.Prelude.{◌≡◌, refl, Bool, true, false, ◌&&◌, ◌||◌, not, List, [], ◌∷◌, ◌++◌, ℕ, zero, suc, ◌+◌, ◌-◌, ◌<◌, ◌≤◌, eqb, length}
use Rattle.std.proofs.Common.{ap, ap₂, sym, ◌∙◌, append_assoc, append-nil, add-zero, add-suc, arith, eq-eqb, ne_eqb, eqb-true}
use Rattle.algebra.specs.Algebra.{Algebra, Laws}
use Rattle.hill.specs.Verdict.{pass}
use Rattle.hill.specs.Log.{Record, opening, closing, start_level, end_of, peak_of, joints}
use Rattle.hill.specs.Tree.{Forest, nil, tree, write, value}
use Rattle.hill.specs.Summary.{Hill, hill, rise, fall, closed_in, done, pending, lefts_of, rights_of, values_of}
use Rattle.hill.specs.Building.{hill_of}
use Rattle.hill.proofs.Map.{map_up, map_down, map_hill, map-hill_of}
use Rattle.hill.proofs.TreeLaws.{free, value-hom}
use Rattle.hill.proofs.Spell.{left, right, spell, chunk-spelt}
use Rattle.hill.proofs.FigureLaws.{held-write}

and-false : (b : Bool) → b && false ≡ false
and-false true = refl
and-false false = refl

module _ {R : Type 0} where
  closed_in-append : (d : ℕ) (xs ys : List (Record R)) → closed_in d (xs ++ ys) ≡ closed_in d xs || closed_in d ys
  closed_in-append d [] ys = refl
  closed_in-append d (opening c r ∷ xs) ys = closed_in-append d xs ys
  closed_in-append d (closing c ∷ xs) ys = go (eqb c d) (closed_in-append d xs ys)
    where
      go : (b : Bool) → closed_in d (xs ++ ys) ≡ closed_in d xs || closed_in d ys → b || closed_in d (xs ++ ys) ≡ b || closed_in d xs || closed_in d ys
      go true e = refl
      go false e = e

  closed_in-deeper : (d e : ℕ) (f : Forest R) (ys : List (Record R)) → d < e → closed_in d (write e f ++ ys) ≡ closed_in d ys
  closed_in-deeper d e nil ys l = refl
  closed_in-deeper d e (tree r k f) ys l =
      rw (append_assoc (write (suc e) k) (closing e ∷ write e f) ys, closed_in-deeper d (suc e) k (closing e ∷ (write e f ++ ys)) (omega arith), ne_eqb e d (omega arith))
      (closed_in-deeper d e f ys l)

  closed_in-here : (d : ℕ) (xs ys : List (Record R)) → closed_in d (xs ++ (closing d ∷ ys)) ≡ true
  closed_in-here d [] ys = rw (eq-eqb d d refl)
  closed_in-here d (opening c r ∷ xs) ys = closed_in-here d xs ys
  closed_in-here d (closing c ∷ xs) ys = go (eqb c d) (closed_in-here d xs ys)
    where
      go : (b : Bool) → closed_in d (xs ++ (closing d ∷ ys)) ≡ true → b || closed_in d (xs ++ (closing d ∷ ys)) ≡ true
      go true e = refl
      go false e = e

  -- The open at depth e of a tree is closed after it.
  open-closed : (c e : ℕ) (xs ys : List (Record R)) → eqb e c && not (closed_in c (xs ++ (closing e ∷ ys))) ≡ false
  open-closed c e xs ys = go (eqb e c) refl
    where
      go : (b : Bool) → eqb e c ≡ b → b && not (closed_in c (xs ++ (closing e ∷ ys))) ≡ false
      go true p = rw (eqb-true e c p, closed_in-here c xs ys)
      go false p = refl

module _ {R : Type 0} (𝒜 : Algebra R) where
  open 𝒜 use {Fig, ι, ◌⊗◌, node}

  infixl 70 ◌⊗◌
  done-deeper : (d e : ℕ) (f : Forest R) (ys : List (Record R)) → d < e → done 𝒜 d (write e f ++ ys) ≡ done 𝒜 d ys
  done-deeper d e nil ys l = refl
  done-deeper d e (tree r k f) ys l =
      rw (ne_eqb e d (omega arith), append_assoc (write (suc e) k) (closing e ∷ write e f) ys, done-deeper d (suc e) k (closing e ∷ (write e f ++ ys)) (omega arith), ne_eqb (suc e) d (omega arith))
      (done-deeper d e f ys l)

  -- A record that is closed is not pending.
  pending-write : (c e : ℕ) (f : Forest R) (ys : List (Record R)) → pending 𝒜 c (write e f ++ ys) ≡ pending 𝒜 c ys
  pending-write c e nil ys = refl
  pending-write c e (tree r k f) ys =
      rw (append_assoc (write (suc e) k) (closing e ∷ write e f) ys, open-closed c e (write (suc e) k) (write e f ++ ys), pending-write c (suc e) k (closing e ∷ (write e f ++ ys)))
      (pending-write c e f ys)

  -- Over the left slope: no record of its peak's depth or a lower one is opened, and each that it opens is closed.
  done-left : (l p : ℕ) (u : List (Forest R)) (ys : List (Record R)) → l ≤ p → done 𝒜 l (left p u ++ ys) ≡ done 𝒜 l ys
  done-left l p [] ys h = refl
  done-left l p (f ∷ u) ys h =
      rw (
        append_assoc (left (suc p) u) (write (suc p) f ++ (closing p ∷ [])) ys,
        append_assoc (write (suc p) f) (closing p ∷ []) ys,
        done-left l (suc p) u (write (suc p) f ++ (closing p ∷ ys)) (omega arith),
        done-deeper l (suc p) f (closing p ∷ ys) (omega arith),
        ne_eqb (suc p) l (omega arith),
      )

  pending-left : (c p : ℕ) (u : List (Forest R)) (ys : List (Record R)) → pending 𝒜 c (left p u ++ ys) ≡ pending 𝒜 c ys
  pending-left c p [] ys = refl
  pending-left c p (f ∷ u) ys =
      rw (append_assoc (left (suc p) u) (write (suc p) f ++ (closing p ∷ [])) ys, append_assoc (write (suc p) f) (closing p ∷ []) ys, pending-left c (suc p) u (write (suc p) f ++ (closing p ∷ ys)), pending-write c (suc p) f (closing p ∷ ys))

  -- Records at level t that close nothing below and open nothing that they close: what follows on a right slope.
  abbrev Quiet : ℕ → List (Record R) → Type 0
  Quiet t ys = ((c : ℕ) → c < t → closed_in c ys ≡ false) × ((l : ℕ) → l ≤ t → done 𝒜 l ys ≡ ι)

  quiet-open : (t : ℕ) (r : R) (h : Forest R) (ys : List (Record R)) → Quiet (suc t) ys → Quiet t (opening t r ∷ (write (suc t) h ++ ys))
  quiet-open t r h ys q = (
    λ c l. closed_in-deeper c (suc t) h ys (omega arith) ∙ q.0 c (omega arith),
    λ l g. rw (closed_in-deeper l (suc t) h ys (omega arith), q.0 l (omega arith), and-false (eqb t l), done-deeper l (suc t) h ys (omega arith)) (q.1 l (omega arith)),
  )

  pending-right : (c p : ℕ) (d : List (R × Forest R)) (ys : List (Record R)) → p + length d ≤ c → pending 𝒜 c (right p d ++ ys) ≡ pending 𝒜 c ys
  pending-right c p [] ys l = refl
  pending-right c p (e ∷ d) ys l =
      rw (
        append_assoc (right p d) (opening (p + length d) e.0 ∷ write (suc (p + length d)) e.1) ys,
        pending-right c p d (opening (p + length d) e.0 ∷ (write (suc (p + length d)) e.1 ++ ys)) (omega arith),
        ne_eqb (p + length d) c (omega arith),
        pending-write c (suc (p + length d)) e.1 ys,
      )

  rights-left : (p n q : ℕ) (u : List (Forest R)) (ys : List (Record R)) → rights_of 𝒜 p n (left q u ++ ys) ≡ rights_of 𝒜 p n ys
  rights-left p zero q u ys = refl
  rights-left p (suc n) q u ys = rw (pending-left (p + n) q u ys, rights-left p n q u ys)

  rights-write : (p n e : ℕ) (f : Forest R) (ys : List (Record R)) → rights_of 𝒜 p n (write e f ++ ys) ≡ rights_of 𝒜 p n ys
  rights-write p zero e f ys = refl
  rights-write p (suc n) e f ys = rw (pending-write (p + n) e f ys, rights-write p n e f ys)

  module _ (ℒ : Laws 𝒜) where
    open ℒ use {assoc, unit-l, unit-r}

    done-write : (d : ℕ) (f : Forest R) (ys : List (Record R)) → done 𝒜 d (write d f ++ ys) ≡ value 𝒜 f ⊗ done 𝒜 d ys
    done-write d nil ys = sym (unit-l (done 𝒜 d ys))
    done-write d (tree r k f) ys =
        rw (
          eq-eqb d d refl,
          append_assoc (write (suc d) k) (closing d ∷ write d f) ys,
          closed_in-here d (write (suc d) k) (write d f ++ ys),
          done-deeper d (suc d) k (closing d ∷ (write d f ++ ys)) (omega arith),
          ne_eqb (suc d) d (omega arith),
        )
        (rw (held-write 𝒜 ℒ (suc d) k (closing d ∷ (write d f ++ ys)), eq-eqb (suc d) (suc d) refl, unit-r (value 𝒜 k), done-write d f ys) (sym (assoc (node r (value 𝒜 k)) (value 𝒜 f) (done 𝒜 d ys))))

    left_split : (p : ℕ) (f : Forest R) (u : List (Forest R)) (ys : List (Record R)) → left p (f ∷ u) ++ ys ≡ left (suc p) u ++ (write (suc p) f ++ (closing p ∷ ys))
    left_split p f u ys = simp append_assoc

    left-value : (p : ℕ) (f : Forest R) (u : List (Forest R)) (ys : List (Record R)) → done 𝒜 (suc p) (left p (f ∷ u) ++ ys) ≡ value 𝒜 f
    left-value p f u ys =
        rw (
          left_split p f u ys,
          done-left (suc p) (suc p) u (write (suc p) f ++ (closing p ∷ ys)) (omega arith),
          done-write (suc p) f (closing p ∷ ys),
          eq-eqb (suc p) (suc p) refl,
          unit-r (value 𝒜 f),
        )

    lefts-left : (p : ℕ) (u : List (Forest R)) (ys : List (Record R)) → lefts_of 𝒜 p (length u) (left p u ++ ys) ≡ map_up (value 𝒜) u
    lefts-left p [] ys = refl
    lefts-left p (f ∷ u) ys =
        ap₂ ◌∷◌ (left-value p f u ys) (ap (lefts_of 𝒜 (suc p) (length u)) (left_split p f u ys) ∙ lefts-left (suc p) u (write (suc p) f ++ (closing p ∷ ys)))

    rights-right : (p : ℕ) (d : List (R × Forest R)) (ys : List (Record R)) → Quiet (p + length d) ys → rights_of 𝒜 p (length d) (right p d ++ ys) ≡ map_down (value 𝒜) d
    rights-right p [] ys q = refl
    rights-right p (e ∷ d) ys q =
        let t : ℕ = p + length d in
        let k : Quiet (suc t) ys = rw add-suc at q in
        rw (
          append_assoc (right p d) (opening t e.0 ∷ write (suc t) e.1) ys,
          pending-right t p d (opening t e.0 ∷ (write (suc t) e.1 ++ ys)) (omega arith),
          eq-eqb t t refl,
          closed_in-deeper t (suc t) e.1 ys (omega arith),
          k.0 t (omega arith),
          done-write (suc t) e.1 ys,
          k.1 (suc t) (omega arith),
          unit-r (value 𝒜 e.1),
          rights-right p d (opening t e.0 ∷ (write (suc t) e.1 ++ ys)) (quiet-open t e.0 e.1 ys k),
        )

    quiet-right : (p : ℕ) (d : List (R × Forest R)) (ys : List (Record R)) → Quiet (p + length d) ys → Quiet p (right p d ++ ys)
    quiet-right p [] ys q = rw add-zero at q
    quiet-right p (e ∷ d) ys q =
        let t : ℕ = p + length d in
        rw (append_assoc (right p d) (opening t e.0 ∷ write (suc t) e.1) ys)
        (quiet-right p d (opening t e.0 ∷ (write (suc t) e.1 ++ ys)) (quiet-open t e.0 e.1 ys (rw add-suc at q)))

    values-spell : (p : ℕ) (a : Hill (Forest R) R) → values_of 𝒜 p (rise a) (fall a) (spell p a) ≡ map_hill (value 𝒜) a
    values-spell p (hill u m d) =
        let q : Quiet (p + length d) [] = (λ c l. refl, λ l g. refl) in
        let none : done 𝒜 p (right p d) ≡ ι = rw (append-nil (right p d)) at ((quiet-right p d [] q).1 p (omega arith)) in
        let some : rights_of 𝒜 p (length d) (right p d) ≡ map_down (value 𝒜) d = rw (append-nil (right p d)) at (rights-right p d [] q) in
        rw (
          lefts-left p u (write p m ++ right p d),
          done-left p p u (write p m ++ right p d) (omega arith),
          done-write p m (right p d),
          none,
          unit-r (value 𝒜 m),
          rights-left p (length d) p u (write p m ++ right p d),
          rights-write p (length d) p m (right p d),
          some,
        )

module _ {R : Type 0} (𝒜 : Algebra R) (ℒ : Laws 𝒜) where
  -- The hill of a chunk has just the values that document 01 says.
  pub hill_of-values : (x : Record R) (xs : List (Record R)) → joints x xs ≡ pass →
      hill_of 𝒜 (x ∷ xs) ≡ values_of 𝒜 (peak_of x xs) (start_level x - peak_of x xs) (end_of x xs - peak_of x xs) (x ∷ xs)
  hill_of-values x xs v =
      let h : Hill (Forest R) R = hill_of (free R) (x ∷ xs) in
      let t = chunk-spelt x xs v in
      let i : rise h ≡ start_level x - peak_of x xs = omega (arith, t.1) in
      let j : fall h ≡ end_of x xs - peak_of x xs = omega (arith, t.2) in
      sym (map-hill_of (free R) 𝒜 (value-hom 𝒜 ℒ) (x ∷ xs)) ∙ sym (values-spell 𝒜 ℒ (peak_of x xs) h) ∙ rw (t.0, i, j)
