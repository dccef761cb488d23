-- The inverse of an odd number modulo 2^32, by Newton's iteration: a fixed number of steps. Definitions only; `InverseLaws.one-inverse` says what it is.
use Rattle.std.specs.Prelude.{◌≡◌, ℕ, ◌+◌, ◌-◌, ◌*◌, ◌%◌, ◌^◌, ◌<◌}

-- "31 times that is 1 modulo 2^32": m times i is.
pub record IsInverse (m i : ℕ) : Type 0 where
  pub small : i < 2 ^ 32
  pub product : (m * i) % 2 ^ 32 ≡ 1

-- x (2 - m x): an inverse of m modulo 2^n becomes one modulo 2^(2n).
unfoldable pub newton : ℕ → ℕ → ℕ
newton m x = (x * (2 + (2 ^ 32 - (m * x) % 2 ^ 32))) % 2 ^ 32

-- From 1, which is right modulo 2, five steps: 2^2, 2^4, 2^8, 2^16, 2^32.
unfoldable pub inverse : ℕ → ℕ
inverse m = newton m (newton m (newton m (newton m (newton m 1))))
