-- What the machine reads back from the bits of a signed number that fits. Assumes nothing.
use Rattle.std.specs.Prelude.{◌≡◌, ◌<◌, ◌^◌, ℤ}
use Rattle.std.proofs.Common.{◌∙◌, to_z-of_z}
use Rattle.std.specs.Int.Signed.{mag}
use Rattle.std.specs.Int.{Width, w32, w64}
use mir.Val.{SFits, hbits, to_z, of_z}

pub back : (w : Width) (z : ℤ) → mag z < 2 ^ hbits w → to_z w (of_z w z) ≡ z
back w z h = to_z-of_z (record { sfits = h })

-- a number of 32 bits that a callee has made one of 64
pub widened : (r x : ℤ) → mag r < 2 ^ 63 → r ≡ to_z w32 (of_z w32 x) → SFits w32 x → to_z w64 (of_z w64 r) ≡ x
widened r x h e f = back w64 r h ∙ e ∙ to_z-of_z f
