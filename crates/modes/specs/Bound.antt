-- How large the figures and the numbers of a run get: a record adds at most 10^9 to what the values weigh. Assumes nothing.
-- Document 01's bound is one formula: unit × unclosed + the sizes of the values ≤ unit × opened. In modes 1, 2 and 5 the unit is 10^9 and a size
-- is an absolute value, -2^63 counting 0 in modes 2 and 5; in mode 4 the unit is 1 and every size 0: "opened is at least the unclosed records".
use Rattle.std.specs.Prelude.{ℕ, ◌≤◌, unsigned_abs}
use Rattle.modes.specs.Run.{HeaviestNumbers, Between, EatenNumbers}
use Rattle.modes.specs.declared.Held.{Held}
use Rattle.modes.specs.declared.Held.TheVariants.{Nothing, Figure}

-- ---- mode 2

unfoldable pub size_held : Held → ℕ
size_held Nothing = 0
size_held (Figure z) = unsigned_abs z

pub record LineIn (k : HeaviestNumbers) (n : ℕ) : Type 0 where
  pub empty-in : unsigned_abs k.empty ≤ n
  pub other-in : size_held k.other ≤ n
  pub add-in : unsigned_abs k.add ≤ n

pub record BetweenIn (k : Between) (n : ℕ) : Type 0 where
  pub add-in : unsigned_abs k.add ≤ n
  pub low-in : unsigned_abs k.low ≤ n
  pub high-in : unsigned_abs k.high ≤ n

pub record EatenIn (k : EatenNumbers) (n : ℕ) : Type 0 where
  pub empty-in : unsigned_abs k.empty ≤ n
  pub some_in : BetweenIn k.some n
