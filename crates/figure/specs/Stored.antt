-- The operations on stored numbers, and their laws, the same for each mode. Assumes nothing.
use Rattle.std.specs.Prelude.{◌≡◌, ℕ, zero, suc, ◌+◌, ◌^◌, ◌<◌, ◌≤◌, Bool, true, false, cond, T, ℤ, pos, ◌==◌, ◌≢◌, unsigned_abs, refl}
use Rattle.std.proofs.Common.{sym, ◌∙◌, arith, lit≤, ne_eqb}
use Rattle.std.proofs.Math.Path.{ap, subst}
use Rattle.algebra.specs.Run.{Level}
use Rattle.algebra.specs.Sizes.{cost}
use Rattle.modes.specs.FourModes.{Amounts, limit, InRange, nothing, store_held, read_held}
use Rattle.figure.specs.Mode.{Mode, mode_in_use, stores_nothing, mode_of}
use Rattle.modes.specs.Bound.{size_held}
use Rattle.modes.specs.declared.Run.{Run}

-- ---- definitions

-- a number that stands for a figure: 0 to 2^32 - 1 in mode 4, any in the others
unfoldable pub IsStored : Mode → ℤ → Type 0
IsStored M z = M.store (M.read z) ≡ z

-- what it counts in document 01's bound
unfoldable pub size_of : Mode → ℤ → ℕ
size_of M z = M.sizes.size (M.read z)

-- nothing held; two figures combined; a figure through a record
unfoldable pub none : Mode → ℤ
none M = M.store M.algebra.ι

unfoldable pub combined : Mode → ℤ → ℤ → ℤ
combined M a b = M.store (M.algebra.◌⊗◌ (M.read a) (M.read b))

unfoldable pub passed : Mode → Amounts → ℤ → ℤ
passed M r h = M.store (M.algebra.node r (M.read h))

abbrev pub amounts : ℤ → ℤ → ℤ → Amounts
amounts v f c = record { value = v; floor = f; ceiling = c }

-- the run of one level: a record, with the figures that it holds before the inner part and after it
abbrev pub level_of : (M : Mode) → Amounts → ℤ → ℤ → Level M.algebra
level_of M r b a = record { carried = r; before = M.read b; after = M.read a }

unfoldable pub level_run : Mode → Amounts → ℤ → ℤ → Run
level_run M r b a = M.store_run (M.context.level (level_of M r b a))

-- the run f around the run g
unfoldable pub run_after : Mode → Run → Run → Run
run_after M f g = M.store_run (M.context.compose (M.read_run f) (M.read_run g))

unfoldable pub IsRun : Mode → Run → Type 0
IsRun M k = M.store_run (M.read_run k) ≡ k

-- each number of the run is at most n, nothing counting 0
unfoldable pub RunWithin : Mode → Run → ℕ → Type 0
RunWithin M k n = M.run_sizes.Within (M.read_run k) n

-- ---- what the functions ask

pub record Combines (M : Mode) (a b : ℤ) : Type 0 where
  pub first : IsStored M a
  pub second : IsStored M b
  pub room : size_of M a + size_of M b < 2 ^ 63

pub record Passes (M : Mode) (v h : ℤ) : Type 0 where
  pub stored : IsStored M h
  pub room : unsigned_abs v + size_of M h < 2 ^ 63

pub record Levels (M : Mode) (v b a : ℤ) : Type 0 where
  pub first : IsStored M b
  pub second : IsStored M a
  pub room : unsigned_abs v + (size_of M b + size_of M a) < 2 ^ 63

pub record Composes (M : Mode) (f g : Run) : Type 0 where
  pub outer : ℕ
  pub inner : ℕ
  pub outer-run : IsRun M f
  pub inner-run : IsRun M g
  pub outer-within : RunWithin M f outer
  pub inner-within : RunWithin M g inner
  pub room : outer + inner < 2 ^ 63

-- ---- the modes by their numbers

-- no mode in use has a number above 5
above : (k m : ℕ) → k ≤ 5 → (suc (suc (suc (suc (suc (suc m))))) == k) ≡ false
above k m h = ne_eqb (suc (suc (suc (suc (suc (suc m)))))) k (λ e. omega (arith, h, e))

above-out : (m : ℕ) → mode_in_use (suc (suc (suc (suc (suc (suc m)))))) ≡ false
unfolding mode_in_use
above-out m = rw (above 1 m (lit≤ tt), above 2 m (lit≤ tt), above 4 m (lit≤ tt), above 5 m (lit≤ tt))

above-plain : (m : ℕ) → stores_nothing (suc (suc (suc (suc (suc (suc m)))))) ≡ false
above-plain m = rw (above 2 m (lit≤ tt), above 5 m (lit≤ tt))

pub mode_small : (m : ℕ) → mode_in_use m ≡ true → m ≤ 5
mode_small zero u = omega arith
mode_small (suc zero) u = omega arith
mode_small (suc (suc zero)) u = omega arith
mode_small (suc (suc (suc zero))) u = omega arith
mode_small (suc (suc (suc (suc zero)))) u = omega arith
mode_small (suc (suc (suc (suc (suc zero))))) u = omega arith
mode_small (suc (suc (suc (suc (suc (suc m)))))) u = absurd (subst T (sym u ∙ above-out m) tt)

-- What holds in modes 1, 2, 4 and 5 holds in every mode in use.
pub by_mode : (P : ℕ → Type 0) → P 1 → P 2 → P 4 → P 5 → (m : ℕ) → mode_in_use m ≡ true → P m
unfolding mode_in_use
by_mode P a b c d zero u = absurd (subst T (sym u) tt)
by_mode P a b c d (suc zero) u = a
by_mode P a b c d (suc (suc zero)) u = b
by_mode P a b c d (suc (suc (suc zero))) u = absurd (subst T (sym u) tt)
by_mode P a b c d (suc (suc (suc (suc zero)))) u = c
by_mode P a b c d (suc (suc (suc (suc (suc zero))))) u = d
by_mode P a b c d (suc (suc (suc (suc (suc (suc m)))))) u = absurd (omega (arith, mode_small (suc (suc (suc (suc (suc (suc m)))))) u))

-- nothing held, and what a number counts, by whether nothing held is no number; in mode 4 a number counts 0
pub none_is : (m : ℕ) → none (mode_of m) ≡ cond (stores_nothing m) nothing (pos 0)
unfolding none mode_of store_held
none_is zero = refl
none_is (suc zero) = refl
none_is (suc (suc zero)) = refl
none_is (suc (suc (suc zero))) = refl
none_is (suc (suc (suc (suc zero)))) = refl
none_is (suc (suc (suc (suc (suc zero))))) = refl
none_is (suc (suc (suc (suc (suc (suc m)))))) = sym (ap (λ (t : Bool). cond t nothing (pos 0)) (above-plain m))

pub size_is : (m : ℕ) → (m ≢ 4) → (z : ℤ) → size_of (mode_of m) z ≡ cond (stores_nothing m) (size_held (read_held z)) (unsigned_abs z)
unfolding size_of mode_of
size_is zero n z = refl
size_is (suc zero) n z = refl
size_is (suc (suc zero)) n z = refl
size_is (suc (suc (suc zero))) n z = refl
size_is (suc (suc (suc (suc zero)))) n z = absurd (n refl)
size_is (suc (suc (suc (suc (suc zero))))) n z = refl
size_is (suc (suc (suc (suc (suc (suc m)))))) n z = sym (ap (λ (t : Bool). cond t (size_held (read_held z)) (unsigned_abs z)) (above-plain m))

-- ---- nothing held

module _ (M : Mode) where
  none-small : M.sizes.size M.algebra.ι < 2 ^ 63
  none-small = omega (arith, M.sizes.size-ι)

  pub none_read : M.read (none M) ≡ M.algebra.ι
  unfolding none
  none_read = M.read_back M.algebra.ι none-small

  pub none-size : size_of M (none M) ≡ 0
  unfolding size_of
  none-size = ap M.sizes.size none_read ∙ M.sizes.size-ι

  pub none-stored : IsStored M (none M)
  unfolding IsStored none
  none-stored = ap M.store (M.read_back M.algebra.ι none-small)

-- ---- two figures combined

module _ (M : Mode) (a b : ℤ) (room : size_of M a + size_of M b < 2 ^ 63) where
  combined-small : M.sizes.size (M.algebra.◌⊗◌ (M.read a) (M.read b)) < 2 ^ 63
  unfolding size_of
  combined-small = omega (arith, M.sizes.size-⊗ (M.read a) (M.read b), room)

  -- read back, it is the two figures combined
  pub combined-read : M.read (combined M a b) ≡ M.algebra.◌⊗◌ (M.read a) (M.read b)
  unfolding combined
  combined-read = M.read_back _ combined-small

  pub combined-size : size_of M (combined M a b) ≤ size_of M a + size_of M b
  unfolding size_of
  combined-size = subst (λ v. M.sizes.size v ≤ size_of M a + size_of M b) (sym combined-read) (M.sizes.size-⊗ (M.read a) (M.read b))

  pub combined-stored : IsStored M (combined M a b)
  unfolding IsStored combined
  combined-stored = ap M.store (M.read_back _ combined-small)

-- ---- a figure through a record

module _ (M : Mode) (r : Amounts) (h : ℤ) (in-range : InRange r) (room : limit + size_of M h < 2 ^ 63) where
  passed-small : M.sizes.size (M.algebra.node r (M.read h)) < 2 ^ 63
  unfolding size_of
  passed-small = omega (arith, M.sizes.size-node r (M.read h) in-range, M.unit-small, room)

  pub passed-read : M.read (passed M r h) ≡ M.algebra.node r (M.read h)
  unfolding passed
  passed-read = M.read_back _ passed-small

  pub passed-size : size_of M (passed M r h) ≤ M.sizes.unit + size_of M h
  unfolding size_of
  passed-size = subst (λ v. M.sizes.size v ≤ M.sizes.unit + size_of M h) (sym passed-read) (M.sizes.size-node r (M.read h) in-range)

  pub passed-stored : IsStored M (passed M r h)
  unfolding IsStored passed
  passed-stored = ap M.store (M.read_back _ passed-small)

  pub passes : IsStored M h → Passes M r.value h
  passes s = record { stored = s; room = omega (arith, in-range.value_in) }

-- ---- the run of one level

module _ (M : Mode) (r : Amounts) (b a : ℤ) (in-range : InRange r) (room : limit + (size_of M b + size_of M a) < 2 ^ 63) where
  level-small : cost M.sizes (level_of M r b a) < 2 ^ 63
  unfolding size_of
  level-small = omega (arith, M.unit-small, room)

  pub level_run-read : M.read_run (level_run M r b a) ≡ M.context.level (level_of M r b a)
  unfolding level_run
  level_run-read = M.run-back _ _ (M.run_sizes.within_level (level_of M r b a) in-range) level-small

  pub level_run-within : RunWithin M (level_run M r b a) (M.sizes.unit + (size_of M b + size_of M a))
  unfolding RunWithin size_of
  level_run-within = subst (λ k. M.run_sizes.Within k (cost M.sizes (level_of M r b a))) (sym level_run-read) (M.run_sizes.within_level (level_of M r b a) in-range)

  pub level_run-is : IsRun M (level_run M r b a)
  unfolding IsRun level_run
  level_run-is = ap M.store_run (M.run-back _ _ (M.run_sizes.within_level (level_of M r b a) in-range) level-small)

  pub levels : IsStored M b → IsStored M a → Levels M r.value b a
  levels s t = record { first = s; second = t; room = omega (arith, in-range.value_in) }

-- ---- one run around another

module _ (M : Mode) (f g : Run) (c : Composes M f g) where
  both-within : M.run_sizes.Within (M.context.compose (M.read_run f) (M.read_run g)) (c.outer + c.inner)
  unfolding RunWithin
  both-within = M.run_sizes.within-compose _ _ c.outer c.inner c.outer-within c.inner-within

  pub run_after-read : M.read_run (run_after M f g) ≡ M.context.compose (M.read_run f) (M.read_run g)
  unfolding run_after
  run_after-read = M.run-back _ _ both-within c.room

  pub run_after-within : RunWithin M (run_after M f g) (c.outer + c.inner)
  unfolding RunWithin
  run_after-within = subst (λ k. M.run_sizes.Within k (c.outer + c.inner)) (sym run_after-read) both-within

  pub run_after-is : IsRun M (run_after M f g)
  unfolding IsRun run_after
  run_after-is = ap M.store_run (M.run-back _ _ both-within c.room)
