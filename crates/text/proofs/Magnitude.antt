-- The decimal text of a signed number by its sign and its magnitude: y is the number as a local holds it. Assumes nothing.
use Rattle.std.specs.Prelude.{◌≡◌, true, false, ◌∷◌, ℕ, ℤ, pos, negsuc, nat_abs}
use Rattle.std.proofs.Common.{ap}
use Rattle.std.specs.Int.Signed.{lt_z}
use Rattle.number.specs.IntegerLaws.{zed}
use Rattle.text.specs.Decimal.{digits_of, decimal_of}

pub plain : (z : ℤ) {y : ℤ} {m : ℕ} → y ≡ z → m ≡ nat_abs y → lt_z y (pos 0) ≡ false → decimal_of z ≡ digits_of m
unfolding decimal_of
plain (pos n) e f h = ap digits_of (cc)
plain (negsuc n) e f h = absurd (omega (zed, e, h))

pub minus : (z : ℤ) {y : ℤ} {m : ℕ} → y ≡ z → m ≡ nat_abs y → lt_z y (pos 0) ≡ true → decimal_of z ≡ 45 ∷ digits_of m
unfolding decimal_of
minus (pos n) e f h = absurd (omega (zed, e, h))
minus (negsuc n) e f h = ap (λ (m : ℕ). 45 ∷ digits_of m) (cc)
