-- A log's first hills, merged, are a stack of open records over a middle value; and what merging the next hill makes of it, level by level.
-- Assumes nothing.
use Rattle.std.specs.Prelude.{◌≡◌, refl, drop}
use Rattle.std.proofs.Math.Path.{ap, sym}
use Rattle.std.proofs.Common.{◌∙◌, arith, length-drop}
use mathlib.Core.List.{List, [], ◌∷◌, ◌++◌}
use Prim.Native.Nat.{ℕ, zero, suc, ◌+◌, ◌-◌, ◌≤◌, ◌<◌}
use Rattle.std.proofs.Math.ListN.{length}
use Rattle.algebra.specs.Algebra.{Algebra, Laws}
use Rattle.algebra.specs.Run.{Level, through, step}
use Rattle.hill.specs.Summary.{Hill, hill, rights, rise, fall, middle}
use Rattle.hill.specs.Building.{push, join, close, closes, merge}
use Rattle.hill.proofs.Building.{join-unit, join-join}
use Rattle.plan_work.specs.Runs.{left_value_at, open_from, level_of, levels_down}
use Rattle.plan_work.proofs.Fold.{fold, fold-zero, fold-suc, fold-low, fold-cong}

-- a list with more than n members, from the n-th on
pub drop_more : {A : Type 0} (n : ℕ) (l : List A) → n < length l → (x : A) × (drop n l ≡ x ∷ drop (suc n) l)
drop_more zero [] h = absurd (omega arith)
drop_more zero (x ∷ l) h = (x, refl)
drop_more (suc n) [] h = absurd (omega arith)
drop_more (suc n) (x ∷ l) h = drop_more n l (omega arith)

module _ {R : Type 0} (𝒜 : Algebra R) where
  open 𝒜 use {Fig, ι, ◌⊗◌, node}

  infixl 70 ◌⊗◌
  -- What the first of these unclosed records makes of y, which it comes to hold besides its held figures so far.
  abbrev pub shut : List (R × Fig) → Fig → Fig
  shut [] y = y
  shut (e ∷ d) y = node e.0 (e.1 ⊗ y)

  -- One level at which the records d of a stack are closed by a hill over the peak q.
  abbrev pub closing : ℕ → List (R × Fig) → ℕ → Hill Fig R → ℕ → Fig → Fig
  closing s d q h l z = shut (drop (s - l) d) (z ⊗ left_value_at 𝒜 q h l)

  -- One level at which the unclosed records of the hill g, over the peak p, are closed by h, over q.
  abbrev pub own : ℕ → Hill Fig R → ℕ → Hill Fig R → ℕ → Fig → Fig
  own p g q h l z = shut (open_from 𝒜 p g l) (z ⊗ left_value_at 𝒜 q h l)

  -- The first of these records also holds w.
  abbrev pub lay : Fig → List (R × Fig) → List (R × Fig)
  lay w [] = []
  lay w (e ∷ d) = (e.0, e.1 ⊗ w) ∷ d

  -- The middle value m, which also holds w where no record stands above it.
  abbrev pub base : Fig → Fig → List (R × Fig) → Fig
  base w m [] = m ⊗ w
  base w m (e ∷ d) = m

  pub length-lay : (w : Fig) (d : List (R × Fig)) → length (lay w d) ≡ length d
  length-lay w [] = refl
  length-lay w (e ∷ d) = refl

  pub drop-lay : (w : Fig) (d : List (R × Fig)) (n : ℕ) → drop (suc n) (lay w d) ≡ drop (suc n) d
  drop-lay w [] n = refl
  drop-lay w (e ∷ d) n = refl

  pub shut-append : (c d : List (R × Fig)) (y : Fig) → 0 < length c → shut (c ++ d) y ≡ shut c y
  shut-append [] d y h = absurd (omega arith)
  shut-append (e ∷ c) d y h = refl

  module _ (ℒ : Laws 𝒜) where
    open ℒ use {assoc, unit-l, unit-r}

    pub shut-lay : (w : Fig) (d : List (R × Fig)) (y : Fig) → 0 < length d → shut (lay w d) y ≡ shut d (w ⊗ y)
    shut-lay w [] y h = absurd (omega arith)
    shut-lay w (e ∷ d) y h = rw (assoc e.1 w y)

    -- A level that has its record, and a run through such levels: a fold.
    through-level : (d : List (R × Fig)) (v : Fig) (ls : List (Level 𝒜)) (x : Fig) → 0 < length d → through 𝒜 (level_of 𝒜 d v ++ ls) x ≡ through 𝒜 ls (shut d (x ⊗ v))
    unfolding through step
    through-level [] v ls x h = absurd (omega arith)
    through-level (e ∷ d) v ls x h = ap (λ (y : Fig). through 𝒜 ls (node e.0 y)) (assoc e.1 x v)

    pub through-levels : (p : ℕ) (g : Hill Fig R) (q : ℕ) (h : Hill Fig R) (lo n : ℕ) (x : Fig) → p ≤ lo → lo + n ≤ p + fall g →
        through 𝒜 (levels_down 𝒜 p g q h lo n) x ≡ fold (own p g q h) lo n x
    unfolding through levels_down
    through-levels p g q h lo zero x a b = sym (fold-zero (own p g q h) lo x)
    through-levels p (hill u m d) q h lo (suc n) x a b =
        through-level (drop (p + length d - suc (lo + n)) d) (left_value_at 𝒜 q h (suc (lo + n))) (levels_down 𝒜 p (hill u m d) q h lo n) x
        (rw (length-drop (p + length d - suc (lo + n)) d) (omega arith))
        ∙ through-levels p (hill u m d) q h lo n (own p (hill u m d) q h (suc (lo + n)) x) a (omega arith)
        ∙ sym (fold-suc (own p (hill u m d) q h) lo n x)

    -- One level of a stack is closed: x comes from deeper, and v is the right's value there.
    close-stack : (m : Fig) (d : List (R × Fig)) (n : ℕ) (x v : Fig) → n < length d →
        close 𝒜 (join 𝒜 v (join 𝒜 x (hill [] m (drop n d)))) ≡ join 𝒜 (shut (drop n d) (x ⊗ v)) (hill [] m (drop (suc n) d))
    close-stack m [] n x v h = absurd (omega arith)
    close-stack m (e ∷ d) zero x v h = ap (λ (y : Fig). join 𝒜 (node e.0 y) (hill [] m d)) (assoc e.1 x v)
    close-stack m (e ∷ d) (suc n) x v h = close-stack m d n x v (omega arith)

    -- A stack that is closed by left values: what comes from the levels above the peak p joins the record at p.
    closes-stack : (m : Fig) (d : List (R × Fig)) (p : ℕ) (u : List Fig) (c : Fig) (r : List (R × Fig)) → p + length u ≡ length d →
        closes 𝒜 (hill [] m d) u ≡ join 𝒜 (fold (closing (length d) d p (hill u c r)) p (length u) ι) (hill [] m (drop (length u) d))
    closes-stack m d p [] c r e = sym (join-unit 𝒜 ℒ (hill [] m d)) ∙ ap (λ (y : Fig). join 𝒜 y (hill [] m d)) (sym (fold-zero (closing (length d) d p (hill [] c r)) p ι))
    closes-stack m d p (v ∷ u) c r e =
        let i : length d - suc p ≡ length u = omega arith in
        let z : suc p - suc p ≡ 0 = omega arith in
        ap (λ (a : Hill Fig R). close 𝒜 (join 𝒜 v a)) (closes-stack m d (suc p) u c r (omega arith))
        ∙ close-stack m d (length u) (fold (closing (length d) d (suc p) (hill u c r)) (suc p) (length u) ι) v (omega arith)
        ∙ ap (λ (y : Fig). join 𝒜 y (hill [] m (drop (suc (length u)) d))) (rw (fold-low (closing (length d) d p (hill (v ∷ u) c r)) p (length u) ι, ← same, i, z))
      where
        same : fold (closing (length d) d (suc p) (hill u c r)) (suc p) (length u) ι ≡ fold (closing (length d) d p (hill (v ∷ u) c r)) (suc p) (length u) ι
        same = fold-cong (closing (length d) d (suc p) (hill u c r)) (closing (length d) d p (hill (v ∷ u) c r)) (suc p) (length u) ι
            (λ l y a b. let q : l - suc p ≡ suc (l - suc (suc p)) = omega arith in rw q)

    lay-join : (r : List (R × Fig)) (w m : Fig) (d : List (R × Fig)) → push r (join 𝒜 w (hill [] m d)) ≡ hill [] (base w m d) (r ++ lay w d)
    lay-join r w m [] = refl
    lay-join r w m (e ∷ d) = refl

    pub merge-stack : (m : Fig) (d : List (R × Fig)) (p : ℕ) (g : Hill Fig R) → p + rise g ≡ length d →
        merge 𝒜 (hill [] m d) g ≡
        hill [] (base (fold (closing (length d) d p g) p (rise g) ι ⊗ middle g) m (drop (rise g) d)) (rights g ++ lay (fold (closing (length d) d p g) p (rise g) ι ⊗ middle g) (drop (rise g) d))
    merge-stack m d p (hill u c r) e =
        rw (closes-stack m d p u c r e, join-join 𝒜 ℒ (fold (closing (length d) d p (hill u c r)) p (length u) ι) c (hill [] m (drop (length u) d)))
        (lay-join r (fold (closing (length d) d p (hill u c r)) p (length u) ι ⊗ c) m (drop (length u) d))
