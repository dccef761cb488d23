-- A hill's 64-bit values: as the loops read them, and as question 5 has them. Assumes nothing.
use mathlib.Core.Path.{◌≡◌, refl, ap, ap₂, ◌∙◌}
use mathlib.Core.Bool.{Bool, true, false, cond, ◌&&◌}
use mathlib.Core.List.{List}
use Prim.Native.Nat.{ℕ, suc, ◌+◌, ◌*◌, min}
use native.Mathlib.Numerals.{add-one}
use native.Mathlib.Omega.{arith}
use lib.Dec.{leb, ltb}
use lib.IntN.{ℤ, nat_abs}
use borrow.Author.Tests.{leb-true, leb-false, lt-ltb, le-ltb, eq-eqb, ne_eqb}
use Rattle.number.specs.Integer.{same}
use Rattle.number.specs.Bytes.{i64_at}
use Rattle.modes.specs.FourModes.{limit, nothing, read_held, is_stamp}
use Rattle.modes.specs.Bound.{size_held}
use Rattle.figure.specs.Mode.{stores_nothing, mode_of}
use Rattle.figure.specs.Stored.{size_of, none, none_is, size_is}
use Rattle.summary.specs.Judge.{mode_at, rise_at, fall_at, opened_at, left_at, middle_at, held_at, sum_to, nothing_in, counted}
use Rattle.summary.specs.Decide.{all_to, values_fit}
use Rattle.summary.proofs.ModeValues.{size-held}
use Rattle.judge.specs.Laid.{stamps_fit, sizes_fit, value_in}
use Rattle.judge.proofs.Loops.{all_same, sum_same, capped_same}

-- ---- by the mode's number, in use or not

pub nothing_is : (m : ℕ) → none (mode_of m) ≡ nothing_in m
unfolding nothing_in
nothing_is m = none_is m

size-counted : (m : ℕ) → (m ≡ 4 → ⊥) → (z : ℤ) → size_of (mode_of m) z ≡ counted m z
unfolding counted
size-counted m n z = size_is m n z ∙ go (stores_nothing m)
  where
    go : (t : Bool) → cond t (size_held (read_held z)) (nat_abs z) ≡ cond (t && same z nothing) 0 (nat_abs z)
    go true = size-held z
    go false = refl

stamp-is : (z : ℤ) → (mode_of 4).is_figure z ≡ is_stamp z
unfolding mode_of is_stamp
stamp-is z = refl

-- numbers that are the same up to one more than n are both at most n or neither
under-cap : (x y n : ℕ) → min (n + 1) x ≡ min (n + 1) y → ltb x (n + 1) ≡ leb y n
under-cap x y n h = go (leb y n) refl
  where
    go : (t : Bool) → leb y n ≡ t → ltb x (n + 1) ≡ t
    go true e = lt-ltb x (n + 1) (omega (arith, leb-true y n e))
    go false e = le-ltb x (n + 1) (omega (arith, leb-false y n e))

add-capped : (cap k a b x y : ℕ) → min cap a ≡ min cap x → min cap b ≡ min cap y → min cap (k + a + b) ≡ min cap (k + (x + y))
add-capped cap k a b x y p q = omega arith

module _ (b : List ℕ) where
  -- where what a record holds stands
  held-at : (j : ℕ) → value_in b (36 + 8 * rise_at b) 20 j ≡ held_at b j
  held-at j = ap (i64_at b) (omega arith)

  -- ---- mode 4

  pub stamps-fit : (left right opened : ℕ) (l r : Bool) → left ≡ rise_at b → right ≡ fall_at b → opened ≡ opened_at b
      → l ≡ all_to (left + 1) (λ i. (mode_of 4).is_figure (value_in b 16 8 i))
      → r ≡ all_to right (λ j. (mode_of 4).is_figure (value_in b (36 + 8 * left) 20 j))
      → l && r && leb right opened ≡ stamps_fit b
  unfolding all_to
  stamps-fit left right opened l r x y o p q =
      let lefts : l ≡ all_to (rise_at b) (λ i. is_stamp (left_at b i)) && is_stamp (middle_at b) =
      p ∙ ap (λ (k : ℕ). all_to k (λ i. (mode_of 4).is_figure (value_in b 16 8 i))) (add-one left ∙ ap suc x) ∙ all_same _ _ (λ i. stamp-is (value_in b 16 8 i)) (suc (rise_at b)) in
      let rights : r ≡ all_to (fall_at b) (λ j. is_stamp (held_at b j)) =
      q ∙ ap₂ (λ (n k : ℕ). all_to k (λ j. (mode_of 4).is_figure (value_in b (36 + 8 * n) 20 j))) x y ∙ all_same _ _ (λ j. stamp-is (value_in b (36 + 8 * rise_at b) 20 j) ∙ ap is_stamp (held-at j)) (fall_at b) in
      ap₂ ◌&&◌ (ap₂ ◌&&◌ lefts rights) (ap₂ leb y o)

  -- ---- modes 1, 2 and 5

  pub sizes-fit : (m left right opened cap lefts helds : ℕ) → left ≡ rise_at b → right ≡ fall_at b → opened ≡ opened_at b
      → cap ≡ limit * opened + 1
      → lefts ≡ sum_to (left + 1) (λ i. min cap (size_of (mode_of m) (value_in b 16 8 i)))
      → helds ≡ sum_to right (λ j. min cap (size_of (mode_of m) (value_in b (36 + 8 * left) 20 j)))
      → ltb (limit * right + lefts + helds) cap ≡ sizes_fit m b
  unfolding sum_to
  sizes-fit m left right opened cap lefts helds x y o c l h =
      let s : sum_to (left + 1) (λ i. size_of (mode_of m) (value_in b 16 8 i)) ≡ sum_to (rise_at b) (λ i. size_of (mode_of m) (left_at b i)) + size_of (mode_of m) (middle_at b) =
      ap (λ (k : ℕ). sum_to k (λ i. size_of (mode_of m) (value_in b 16 8 i))) (add-one left ∙ ap suc x) in
      let t : sum_to right (λ j. size_of (mode_of m) (value_in b (36 + 8 * left) 20 j)) ≡ sum_to (fall_at b) (λ j. size_of (mode_of m) (held_at b j)) =
      ap₂ (λ (n k : ℕ). sum_to k (λ j. size_of (mode_of m) (value_in b (36 + 8 * n) 20 j))) x y ∙ sum_same _ _ (λ j. ap (size_of (mode_of m)) (held-at j)) (fall_at b) in
      let p = ap (min cap) l ∙ capped_same cap (λ i. size_of (mode_of m) (value_in b 16 8 i)) (left + 1) ∙ ap (min cap) s in
      let q = ap (min cap) h ∙ capped_same cap (λ j. size_of (mode_of m) (value_in b (36 + 8 * left) 20 j)) right ∙ ap (min cap) t in
      let k : cap ≡ limit * opened_at b + 1 = omega arith in
      let e = add-capped cap (limit * right) lefts helds _ _ p q in
      rw (k, y) (under-cap _ _ (limit * opened_at b) (rw (k, y) at e))

  -- ---- both

  pub values-stamps : mode_at b ≡ 4 → stamps_fit b ≡ values_fit b
  unfolding values_fit
  values-stamps e = rw (eq-eqb (mode_at b) 4 e)

  pub values-sizes : (mode_at b ≡ 4 → ⊥) → sizes_fit (mode_at b) b ≡ values_fit b
  unfolding values_fit
  values-sizes n =
      let l = sum_same (λ i. size_of (mode_of (mode_at b)) (left_at b i)) (λ i. counted (mode_at b) (left_at b i)) (λ i. size-counted (mode_at b) n (left_at b i)) (rise_at b) in
      let m = size-counted (mode_at b) n (middle_at b) in
      let h = sum_same (λ j. size_of (mode_of (mode_at b)) (held_at b j)) (λ j. counted (mode_at b) (held_at b j)) (λ j. size-counted (mode_at b) n (held_at b j)) (fall_at b) in
      rw (ne_eqb (mode_at b) 4 n) (ap (λ (x : ℕ). leb (limit * fall_at b + x) (limit * opened_at b)) (ap₂ ◌+◌ (ap₂ ◌+◌ l m) h))
