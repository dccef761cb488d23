-- The loops over a slope's numbers: a test of each, and a sum of each up to a cap. Assumes nothing.
use mathlib.Core.Path.{◌≡◌, refl, sym, ap, ap₂, ◌∙◌}
use mathlib.Core.Bool.{Bool, true, ◌&&◌}
use Prim.Native.Nat.{ℕ, zero, suc, ◌+◌, ◌*◌, ◌^◌, ◌≤◌, ◌<◌, min}
use native.Mathlib.Numerals.{add-one}
use native.Mathlib.Omega.{arith}
use Rattle.summary.specs.Judge.{sum_to}
use Rattle.summary.specs.Decide.{all_to}
use Rattle.judge.specs.Laid.{Room}

-- ---- all of them

pub record AllSo (f : ℕ → Bool) (n i : ℕ) (all : Bool) : Type 0 where
  pub passed : i ≤ n
  pub so : all ≡ all_to i f

module _ (f : ℕ → Bool) (n : ℕ) where
  pub all_start : AllSo f n 0 true
  unfolding all_to
  all_start = record { passed = omega arith; so = refl }

  pub all-next : (i : ℕ) {all r : Bool} → AllSo f n i all → i < n → r ≡ f i → AllSo f n (i + 1) (all && r)
  unfolding all_to
  all-next i s h e = record { passed = omega arith; so = ap₂ ◌&&◌ s.so e ∙ sym (ap (λ (k : ℕ). all_to k f) (add-one i)) }

  pub all_end : (i : ℕ) {all : Bool} → AllSo f n i all → n ≤ i → all ≡ all_to n f
  all_end i s h = let p = s.passed in let e : i ≡ n = omega arith in s.so ∙ ap (λ (k : ℕ). all_to k f) e

-- ---- their sum

pub record SumSo (f : ℕ → ℕ) (n i sum : ℕ) : Type 0 where
  pub passed : i ≤ n
  pub so : sum ≡ sum_to i f

module _ (f : ℕ → ℕ) (n : ℕ) where
  pub sum-start : SumSo f n 0 0
  unfolding sum_to
  sum-start = record { passed = omega arith; so = refl }

  pub sum-next : (i : ℕ) {sum x : ℕ} → SumSo f n i sum → i < n → x ≡ f i → SumSo f n (i + 1) (sum + x)
  unfolding sum_to
  sum-next i s h e = record { passed = omega arith; so = ap₂ ◌+◌ s.so e ∙ sym (ap (λ (k : ℕ). sum_to k f) (add-one i)) }

  pub sum-end : (i : ℕ) {sum : ℕ} → SumSo f n i sum → n ≤ i → sum ≡ sum_to n f
  sum-end i s h = let p = s.passed in let e : i ≡ n = omega arith in s.so ∙ ap (λ (k : ℕ). sum_to k f) e

-- ---- each cut to a cap

module _ (cap : ℕ) (f : ℕ → ℕ) where
  pub capped_small : cap ≤ 2 ^ 56 → (n : ℕ) → sum_to n (λ i. min cap (f i)) ≤ 2 ^ 56 * n
  unfolding sum_to
  capped_small h zero = omega arith
  capped_small h (suc n) = omega (arith, capped_small h n)

  -- what n of them come to
  pub capped-room : (n r : ℕ) → Room n cap → r ≡ sum_to n (λ i. min cap (f i)) → r ≤ 2 ^ 56 * 65
  capped-room n r m e = omega (arith, capped_small m.each n)

  -- the sum reaches the cap if and only if it did uncut
  pub capped_same : (n : ℕ) → min cap (sum_to n (λ i. min cap (f i))) ≡ min cap (sum_to n f)
  unfolding sum_to
  capped_same zero = refl
  capped_same (suc n) = omega (arith, capped_same n)

-- ---- the same numbers in other words

pub all_same : (f g : ℕ → Bool) → ((i : ℕ) → f i ≡ g i) → (n : ℕ) → all_to n f ≡ all_to n g
unfolding all_to
all_same f g h zero = refl
all_same f g h (suc n) = ap₂ ◌&&◌ (all_same f g h n) (h n)

pub sum_same : (f g : ℕ → ℕ) → ((i : ℕ) → f i ≡ g i) → (n : ℕ) → sum_to n f ≡ sum_to n g
unfolding sum_to
sum_same f g h zero = refl
sum_same f g h (suc n) = ap₂ ◌+◌ (sum_same f g h n) (h n)
