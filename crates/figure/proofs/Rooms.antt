-- What the composition of two runs asks and the level of a run asks, mode by mode, over plain numbers. Assumes nothing.
use Rattle.std.proofs.Common.{◌≡◌, ◌+◌, ◌^◌, ◌<◌, ℤ, nat_abs, ap, arith, w64, to_z, of_z}
use lib.Signed.{mag}
use Rattle.number.specs.Word.{back}
use Rattle.modes.specs.FourModes.{Amounts, read_held}
use Rattle.modes.specs.Bound.{size_held}
use Rattle.figure.specs.Mode.{Mode, mode_of}
use Rattle.figure.specs.Stored.{IsStored, size_of, combined, passed, IsRun, RunWithin, Composes, combined-read}
use Rattle.modes.specs.declared.Run.{Run}

module _ (f g : Run) where
  pub net-room : Composes (mode_of 1) f g → nat_abs g.first + nat_abs f.first < 2 ^ 63
  unfolding RunWithin mode_of
  net-room c = omega (arith, c.outer-within, c.inner-within, c.room)

  pub record HeaviestRoom : Type 0 where
    pub empty : nat_abs g.first + nat_abs f.third < 2 ^ 63
    pub other : size_held (read_held g.second) + nat_abs f.third < 2 ^ 63
    pub add : nat_abs g.third + nat_abs f.third < 2 ^ 63

  pub heaviest-room : Composes (mode_of 2) f g → HeaviestRoom
  unfolding RunWithin mode_of
  heaviest-room c = omega (arith, c.outer-within, c.inner-within, c.room)

  pub record EatenRoom : Type 0 where
    pub empty : nat_abs g.first + nat_abs f.second < 2 ^ 63
    pub add : nat_abs g.second + nat_abs f.second < 2 ^ 63
    pub low : nat_abs g.third + nat_abs f.second < 2 ^ 63
    pub high : nat_abs g.fourth + nat_abs f.second < 2 ^ 63

  pub eaten-room : Composes (mode_of 5) f g → EatenRoom
  unfolding RunWithin mode_of
  eaten-room c = omega (arith, c.outer-within, c.inner-within, c.room)

-- the numbers of a run, as the machine reads them
pub record Back (k : Run) : Type 0 where
  pub first_back : to_z w64 (of_z w64 k.first) ≡ k.first
  pub second_back : to_z w64 (of_z w64 k.second) ≡ k.second
  pub third_back : to_z w64 (of_z w64 k.third) ≡ k.third
  pub fourth-back : to_z w64 (of_z w64 k.fourth) ≡ k.fourth

pub fields_back : (k : Run) → mag k.first < 2 ^ 63 → mag k.second < 2 ^ 63 → mag k.third < 2 ^ 63 → mag k.fourth < 2 ^ 63 → Back k
fields_back k p q r s = record { first_back = back w64 k.first p; second_back = back w64 k.second q; third_back = back w64 k.third r; fourth-back = back w64 k.fourth s }

-- both numbers of a run of mode 4 are stored stamps
pub stamp-first : (k : Run) → IsRun (mode_of 4) k → IsStored (mode_of 4) k.first
unfolding IsRun IsStored mode_of
stamp-first k e = ap (λ (r : Run). r.first) e

pub stamp-second : (k : Run) → IsRun (mode_of 4) k → IsStored (mode_of 4) k.second
unfolding IsRun IsStored mode_of
stamp-second k e = ap (λ (r : Run). r.second) e

-- two figures combined and then put through a record
pub passed-combined : (M : Mode) (r : Amounts) (a b : ℤ) → size_of M a + size_of M b < 2 ^ 63
    → passed M r (combined M a b) ≡ M.store (M.algebra.node r (M.algebra.◌⊗◌ (M.read a) (M.read b)))
unfolding passed
passed-combined M r a b h = ap (λ v. M.store (M.algebra.node r v)) (combined-read M a b h)
