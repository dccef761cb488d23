-- The hills of a row merged one after another, read level by level. Assumes nothing.
use Rattle.std.specs.Prelude.{◌≡◌, List, [], ◌∷◌, ◌++◌, drop}
use Rattle.std.proofs.Math.Path.{refl, sym}
use Rattle.std.proofs.Common.{◌∙◌, arith, length-append, drop_of_length-le, drop-drop}
use Prim.Native.Nat.{ℕ, zero, suc, ◌+◌, ◌-◌, ◌≤◌, ◌<◌}
use Rattle.std.proofs.Math.ListN.{length, length-drop}
use Rattle.std.proofs.Math.Seq.{drop-append-le, drop-append-add}
use Rattle.algebra.specs.Algebra.{Algebra, Laws}
use Rattle.hill.specs.Summary.{Hill, hill, rights, rise, fall, middle}
use Rattle.hill.specs.Building.{empty, merge}
use Rattle.plan_work.specs.Runs.{open_from}
use Rattle.plan_work.proofs.Fold.{down}
use Rattle.plan_work.proofs.Stack.{shut, closing, lay, base, length-lay, drop-lay, shut-append, shut-lay, merge-stack}

-- The hills of a row, one after another: `p n` is the peak of the hill n, and `lv n` the level before it.
module _ {R : Type 0} (𝒜 : Algebra R) (h : ℕ → Hill 𝒜.Fig R) where
  open 𝒜 use {Fig, ι, ◌⊗◌, node}

  infixl 70 ◌⊗◌
  -- The first n hills, merged onto the hill a.
  unfoldable pub merged : Hill Fig R → ℕ → Hill Fig R
  merged a zero = a
  merged a (suc n) = merge 𝒜 (merged a n) (h n)

  module _ (p lv : ℕ → ℕ) where
    -- What closing the levels above lo by the hill n gives, where the records d are open before it.
    unfoldable pub closed : List (R × Fig) → (n lo : ℕ) → Fig
    closed d n lo = down (closing 𝒜 (lv n) d (p n) (h n)) lo (lv n) ι

    -- The records open before the hill n, the deepest first, and the middle value below them.
    unfoldable pub stack : ℕ → List (R × Fig)
    stack zero = []
    stack (suc n) = rights (h n) ++ lay 𝒜 (closed (stack n) n (p n) ⊗ middle (h n)) (drop (lv n - p n) (stack n))

    unfoldable pub centre : ℕ → Fig
    centre zero = ι
    centre (suc n) = base 𝒜 (closed (stack n) n (p n) ⊗ middle (h n)) (centre n) (drop (lv n - p n) (stack n))

    -- What the record at level l that is open before the hill n makes of y.
    abbrev pub state : ℕ → ℕ → Fig → Fig
    state n l y = shut 𝒜 (drop (lv n - l) (stack n)) y

    -- What the hill n gets from closing the levels above lo.
    abbrev pub pit : ℕ → ℕ → Fig
    pit n lo = closed (stack n) n lo

    pub record Meeting : Type 0 where
      pub ground : lv 0 ≡ 0
      pub rises : (n : ℕ) → p n + rise (h n) ≡ lv n
      pub falls : (n : ℕ) → p n + fall (h n) ≡ lv (suc n)

    module _ (ℒ : Laws 𝒜) (w : Meeting) where
      fall-rights : (g : Hill Fig R) → length (rights g) ≡ fall g
      fall-rights (hill u m d) = refl

      pub size : (n : ℕ) → length (stack n) ≡ lv n
      unfolding stack
      size zero = sym w.ground
      size (suc n) =
          let e : length (stack n) ≡ lv n = size n in
          rw (length-append, length-lay, length-drop, fall-rights (h n)) (omega (arith, w.rises n, w.falls n))

      pub merged-stack : (n : ℕ) → merged (empty 𝒜) n ≡ hill [] (centre n) (stack n)
      unfolding merged stack centre closed
      merged-stack zero = refl
      merged-stack (suc n) =
          let e : rise (h n) ≡ lv n - p n = omega (arith, w.rises n) in
          rw (merged-stack n, merge-stack 𝒜 ℒ (centre n) (stack n) (p n) (h n) (w.rises n ∙ sym (size n)), size n, e)

      open-rights : (q : ℕ) (g : Hill Fig R) (l : ℕ) → open_from 𝒜 q g l ≡ drop (q + fall g - l) (rights g)
      open-rights q (hill u m d) l = refl

      -- Above the peak of the hill n stand its own records, ..
      pub state-own : (n l : ℕ) (y : Fig) → p n < l → l ≤ lv (suc n) → state (suc n) l y ≡ shut 𝒜 (open_from 𝒜 (p n) (h n) l) y
      unfolding stack
      state-own n l y a b =
          rw (
            open-rights (p n) (h n) l,
            w.falls n,
            drop-append-le (lv (suc n) - l) (rights (h n)) (lay 𝒜 (pit n (p n) ⊗ middle (h n)) (drop (lv n - p n) (stack n))) (omega (arith, fall-rights (h n), w.falls n)),
          )
          (shut-append 𝒜 (drop (lv (suc n) - l) (rights (h n))) (lay 𝒜 (pit n (p n) ⊗ middle (h n)) (drop (lv n - p n) (stack n))) y
          (rw length-drop (omega (arith, fall-rights (h n), w.falls n))))

      under-rights : (n l : ℕ) → l ≤ p n → drop (lv (suc n) - l) (stack (suc n)) ≡ drop (p n - l) (lay 𝒜 (pit n (p n) ⊗ middle (h n)) (drop (lv n - p n) (stack n)))
      unfolding stack
      under-rights n l a =
          let e : lv (suc n) - l ≡ length (rights (h n)) + (p n - l) = omega (arith, fall-rights (h n), w.falls n) in
          rw e (drop-append-add (rights (h n)) (lay 𝒜 (pit n (p n) ⊗ middle (h n)) (drop (lv n - p n) (stack n))) (p n - l))

      -- .. at its peak one that now holds its valley and its middle value too, ..
      pub state-peak : (n l : ℕ) (y : Fig) → l ≡ p n → 0 < l → state (suc n) l y ≡ state n l (pit n (p n) ⊗ middle (h n) ⊗ y)
      state-peak n l y e a =
          let z : p n - p n ≡ 0 = omega arith in
          rw (e, under-rights n (p n) (omega arith), z)
          (shut-lay 𝒜 ℒ (pit n (p n) ⊗ middle (h n)) (drop (lv n - p n) (stack n)) y (rw (length-drop, size n) (omega (arith, w.rises n))))

      -- .. and below it the others.
      pub state-under : (n l : ℕ) (y : Fig) → l < p n → state (suc n) l y ≡ state n l y
      state-under n l y a =
          let e : p n - l ≡ suc (p n - suc l) = omega arith in
          let q : (lv n - p n) + suc (p n - suc l) ≡ lv n - l = omega (arith, w.rises n) in
          rw (under-rights n l (omega arith), e, drop-lay 𝒜 (pit n (p n) ⊗ middle (h n)) (drop (lv n - p n) (stack n)) (p n - suc l), drop-drop (suc (p n - suc l)) (lv n - p n) (stack n), q)

      -- The middle value changes only where a hill comes down to level 0.
      base-up : (v m : Fig) (d : List (R × Fig)) → 0 < length d → base 𝒜 v m d ≡ m
      base-up v m [] a = absurd (omega arith)
      base-up v m (e ∷ d) a = refl

      pub centre-up : (n : ℕ) → 0 < p n → centre (suc n) ≡ centre n
      unfolding centre
      centre-up n a = base-up (pit n (p n) ⊗ middle (h n)) (centre n) (drop (lv n - p n) (stack n)) (rw (length-drop, size n) (omega (arith, w.rises n)))

      pub centre-down : (n : ℕ) → p n ≡ 0 → centre (suc n) ≡ centre n ⊗ (pit n (p n) ⊗ middle (h n))
      unfolding centre
      centre-down n e = rw (drop_of_length-le (stack n) {i = lv n - p n} (omega (arith, size n)))
