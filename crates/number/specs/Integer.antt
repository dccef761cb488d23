-- Whether two integers are the same, the smaller and the greater of two, a number held between two ends, one with what is negative as 0, and a number modulo 2^32.
use Rattle.std.specs.Prelude.{Bool, cond, ◌&&◌, ℕ, ◌-◌, ◌%◌, ◌^◌, ℤ, pos, negsuc}
use Rattle.std.specs.Int.Signed.{le_z}

-- a = b, as a test
abbrev pub same : ℤ → ℤ → Bool
same a b = le_z a b && le_z b a

unfoldable pub min_z : ℤ → ℤ → ℤ
min_z a b = cond (le_z a b) a b

unfoldable pub max_z : ℤ → ℤ → ℤ
max_z a b = cond (le_z a b) b a

-- raised to lo if below it, then lowered to hi if above it
unfoldable pub clamp : ℤ → ℤ → ℤ → ℤ
clamp x lo hi = min_z (max_z x lo) hi

-- z, or 0 where it is negative
abbrev pub up : ℤ → ℕ
up (pos n) = n
up (negsuc n) = 0

-- z modulo 2^32; `negsuc n` is -1 - n
unfoldable pub wrap : ℤ → ℕ
wrap (pos n) = n % 2 ^ 32
wrap (negsuc n) = 2 ^ 32 - 1 - n % 2 ^ 32
