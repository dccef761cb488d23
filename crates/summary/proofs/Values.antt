-- The hill that bytes say: its slopes' lengths, what it weighs, and its records in range. Assumes nothing.
use Rattle.std.specs.Prelude.{◌≡◌, true, List, length, ℤ, pos, negsuc, nat_abs}
use Rattle.std.proofs.Math.Path.{refl}
use Rattle.std.proofs.Common.{ap, le_refl, le-leb}
use Prim.Native.Nat.{ℕ, zero, suc, ◌+◌, ◌*◌, ◌≤◌, ◌<◌}
use native.Mathlib.Omega.{arith}
use Rattle.record.specs.Record.{within, in_range}
use Rattle.record.proofs.Laws.{within-size}
use Rattle.modes.specs.FourModes.{Amounts, InRange, limit}
use Rattle.figure.specs.Mode.{Mode}
use Rattle.figure.specs.Stored.{size_of}
use Rattle.hill.specs.Summary.{blank, part, spoilt, whole}
use Rattle.hill.specs.Valid.{weight_up, weight_down, AllFine}
use Rattle.summary.specs.Judge.{kind_at, fault_at, spoilt_start_at, peak_at, end_at, opened_at, left_at, held_at, sum_to}
use Rattle.summary.specs.Decode.{amounts_at, lefts_in, rights_in, hill_in, reading}
use Rattle.summary.proofs.Tests.{Tells, tells-and, tells-also, tells-le, tells-order, one_more}

-- ---- a record's range, as it is read and as the modes take it

inside : (z : ℤ) → nat_abs z ≤ limit → within z ≡ true
unfolding within
inside (pos n) h = le-leb n 1_000_000_000 h
inside (negsuc n) h = rw (le-leb n 999_999_999 (omega arith))

tells-within : (z : ℤ) → Tells (nat_abs z ≤ limit) (within z)
tells-within z = record { to = inside z; from = within-size z }

pub tells-range : (d : ℕ) (r : Amounts) → Tells ((d ≤ 63) × InRange r) (in_range d r.value r.floor r.ceiling)
unfolding in_range
tells-range d r =
    tells-and (tells-le d 63)
    (tells-also (λ p. record { value_in = p.0.0.0; floor-in = p.0.0.1; ceiling-in = p.0.1; ordered = p.1 })
    (λ r. (((r.value_in, r.floor-in), r.ceiling-in), r.ordered))
    (tells-and (tells-and (tells-and (tells-within r.value) (tells-within r.floor)) (tells-within r.ceiling)) (tells-order r.floor r.ceiling)))

-- ---- the slopes

module _ {Fig : Type 0} (read : ℤ → Fig) (b : List ℕ) where
  pub lefts-length : (n : ℕ) → length (lefts_in read b n) ≡ n
  lefts-length zero = refl
  lefts-length (suc n) = ap suc (lefts-length n)

  pub rights-length : (n : ℕ) → length (rights_in read b n) ≡ n
  rights-length zero = refl
  rights-length (suc n) = ap suc (rights-length n)

module _ (M : Mode) (b : List ℕ) where
  pub lefts-weight : (n : ℕ) → weight_up M.algebra M.sizes (lefts_in M.read b n) ≡ sum_to n (λ i. size_of M (left_at b i))
  unfolding size_of sum_to
  lefts-weight zero = refl
  lefts-weight (suc n) = omega (arith, lefts-weight n)

  pub rights-weight : (n : ℕ) → weight_down M.algebra M.sizes (rights_in M.read b n) ≡ M.sizes.unit * n + sum_to n (λ j. size_of M (held_at b j))
  unfolding size_of sum_to
  rights-weight zero = omega arith
  rights-weight (suc n) = omega (arith, rights-weight n)

  pub rights-fine : (n : ℕ) → ((j : ℕ) → j < n → InRange (amounts_at b j)) → AllFine M.algebra M.sizes (rights_in M.read b n)
  rights-fine zero h = tt
  rights-fine (suc n) h = (h n (le_refl _), rights-fine n (λ j l. h j (omega arith)))

  pub fine-rights : (n : ℕ) → AllFine M.algebra M.sizes (rights_in M.read b n) → (j : ℕ) → j < n → InRange (amounts_at b j)
  fine-rights zero f j l = absurd (omega arith)
  fine-rights (suc n) f j l = one_more (λ (i : ℕ). InRange (amounts_at b i)) n (fine-rights n f.1) f.0 j l

-- ---- what bytes say, by their kind

module _ {Fig : Type 0} (read : ℤ → Fig) (b : List ℕ) where
  pub reading-blank : kind_at b ≡ 16 → reading read b ≡ blank
  reading-blank e = rw e

  pub reading-spoilt : kind_at b ≡ 17 → reading read b ≡ part (spoilt (fault_at b) (spoilt_start_at b) (end_at b) (opened_at b))
  reading-spoilt e = rw e

  pub reading-hill : kind_at b ≡ 18 → reading read b ≡ part (whole (peak_at b) (opened_at b) (hill_in read b))
  reading-hill e = rw e
