-- The modes as a match on the number leaves them, and the ranges of stored stamps. Assumes nothing.
use Rattle.std.proofs.Common.{◌≡◌, ℕ, zero, suc, ◌%◌, ◌^◌, true, ℤ, pos, ◌+ℤ◌, nat_abs, ◌≤ℤ◌, ◌<ℤ◌, sym, refl, ap}
use Rattle.number.specs.Integer.{up}
use Rattle.modes.proofs.StoreLaws.{stored-range}
use Rattle.figure.specs.Mode.{Mode, mode_of}
use Rattle.figure.specs.Stored.{IsStored, size_of, combined}

-- a stored stamp is 0 to 2^32 - 1
pub stamp-range : (z : ℤ) → IsStored (mode_of 4) z → (pos 0 ≤ℤ z) × (z <ℤ pos 4294967296)
unfolding IsStored mode_of
stamp-range z e = stored-range z e

pub stamp-number : (z : ℤ) → IsStored (mode_of 4) z → up z ≡ up z % 2 ^ 32
unfolding IsStored mode_of
stamp-number z e = sym (ap up e)

-- a number other than 2, 4 and 5 stands for mode 1
pub other-mode : (m : ℕ) → (m ≡ 2 → ⊥) → (m ≡ 4 → ⊥) → (m ≡ 5 → ⊥) → mode_of m ≡ mode_of 1
unfolding mode_of
other-mode zero n2 n4 n5 = refl
other-mode (suc zero) n2 n4 n5 = refl
other-mode (suc (suc zero)) n2 n4 n5 = absurd (n2 refl)
other-mode (suc (suc (suc zero))) n2 n4 n5 = refl
other-mode (suc (suc (suc (suc zero)))) n2 n4 n5 = absurd (n4 refl)
other-mode (suc (suc (suc (suc (suc zero))))) n2 n4 n5 = absurd (n5 refl)
other-mode (suc (suc (suc (suc (suc (suc n)))))) n2 n4 n5 = refl

-- whose figures are plain numbers
module _ (m : ℕ) (not-2 : m ≡ 2 → ⊥) (not-4 : m ≡ 4 → ⊥) (not-5 : m ≡ 5 → ⊥) where
  pub plain_size : (z : ℤ) → size_of (mode_of m) z ≡ nat_abs z
  unfolding size_of mode_of
  plain_size z = ap (λ (M : Mode). M.sizes.size (M.read z)) (other-mode m not-2 not-4 not-5)

  pub plain-combined : (a b : ℤ) → combined (mode_of m) a b ≡ a +ℤ b
  unfolding combined mode_of
  plain-combined a b = ap (λ (M : Mode). combined M a b) (other-mode m not-2 not-4 not-5)

-- every number stands for a figure, but in mode 4
pub any-figure : (m : ℕ) → (m ≡ 4 → ⊥) → (z : ℤ) → (mode_of m).is_figure z ≡ true
unfolding mode_of
any-figure zero n4 z = refl
any-figure (suc zero) n4 z = refl
any-figure (suc (suc zero)) n4 z = refl
any-figure (suc (suc (suc zero))) n4 z = refl
any-figure (suc (suc (suc (suc zero)))) n4 z = absurd (n4 refl)
any-figure (suc (suc (suc (suc (suc zero))))) n4 z = refl
any-figure (suc (suc (suc (suc (suc (suc n)))))) n4 z = refl
