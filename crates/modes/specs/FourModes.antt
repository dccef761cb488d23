-- The four modes in use: 1, 2 and 4 of document 01, "Four modes", and 5 of request L3; and how their figures are stored in 64 bits.
use Rattle.std.specs.Prelude.{ℕ, ◌+◌, ◌*◌, ◌%◌, ◌^◌, ◌<◌, ◌≤◌, Bool, true, false, ◌&&◌, ℤ, pos, negsuc, ◌+ℤ◌, ◌≤ℤ◌, ◌==◌, int_le, unsigned_abs}
use Rattle.std.proofs.Common.{mod-lt, lit<}
use Rattle.algebra.specs.Algebra.{Algebra}
use Rattle.number.specs.Integer.{max_z, clamp, wrap, up}
use Rattle.number.specs.Modulo.{wrap-small}
use Rattle.modes.specs.declared.Held.{Held}
use Rattle.modes.specs.declared.Held.TheVariants.{Nothing, Figure}

-- What an open record says, in grams.
pub record Amounts : Type 0 where
  pub value : ℤ
  pub floor : ℤ
  pub ceiling : ℤ

-- 10^9
abbrev pub limit : ℕ
limit = 1000000000

-- "value, floor and ceiling lie within ±1,000,000,000, and floor is not above ceiling"
pub record InRange (r : Amounts) : Type 0 where
  pub value_in : unsigned_abs r.value ≤ limit
  pub floor-in : unsigned_abs r.floor ≤ limit
  pub ceiling-in : unsigned_abs r.ceiling ≤ limit
  pub ordered : r.floor ≤ℤ r.ceiling

-- 1. Net: "v + the sum of the held figures".
abbrev pub net : Algebra Amounts
net = record { Fig = ℤ; ι = pos 0; ◌⊗◌ = ◌+ℤ◌; node = λ r h. r.value +ℤ h }

-- 2. Heaviest line: "v + the greatest held figure; v alone if it holds none". Nothing held "is no number".

-- an operation on numbers, where nothing held adds nothing
unfoldable pub lift : (ℤ → ℤ → ℤ) → Held → Held → Held
lift f Nothing y = y
lift f (Figure a) Nothing = Figure a
lift f (Figure a) (Figure b) = Figure (f a b)

unfoldable pub line_of : ℤ → Held → ℤ
line_of v Nothing = v
line_of v (Figure s) = v +ℤ s

abbrev pub heaviest : Algebra Amounts
heaviest = record { Fig = Held; ι = Nothing; ◌⊗◌ = lift max_z; node = λ r h. Figure (line_of r.value h) }

-- 4. Stamp: "(v + 31 × the sum of the held stamps) modulo 2^32. Its sums wrap on purpose."
pub record Stamp : Type 0 where
  pub num : ℕ
  pub small : num < 2 ^ 32

-- n modulo 2^32
abbrev pub stamp_of : ℕ → Stamp
stamp_of n = record { num = n % 2 ^ 32; small = mod-lt n (lit< tt) }

abbrev pub stamp : Algebra Amounts
stamp =
    record {
      Fig = Stamp;
      ι = stamp_of 0;
      ◌⊗◌ = λ a b. stamp_of (a.num + b.num);
      node = λ r h. record { num = wrap (r.value +ℤ pos (31 * h.num)); small = wrap-small (r.value +ℤ pos (31 * h.num)) };
    }

-- 5. Eaten, a drop at its value: "v + the sum of the held figures, raised to the floor if below, lowered to the ceiling if above", where
-- "floor and ceiling bind only a record that holds others"; v alone if it holds none. Nothing held is no number, as in mode 2.
unfoldable pub eaten_of : Amounts → Held → ℤ
eaten_of r Nothing = r.value
eaten_of r (Figure s) = clamp (r.value +ℤ s) r.floor r.ceiling

abbrev pub eaten : Algebra Amounts
eaten = record { Fig = Held; ι = Nothing; ◌⊗◌ = lift ◌+ℤ◌; node = λ r h. Figure (eaten_of r h) }

-- "In mode 2 it is no number, and is stored as -2^63", and in mode 5. `negsuc n` is -1 - n. A figure is stored as it is.
abbrev pub nothing : ℤ
nothing = negsuc 9223372036854775807

unfoldable pub store_held : Held → ℤ
store_held Nothing = nothing
store_held (Figure z) = z

abbrev pub held_if : Bool → ℤ → Held
held_if true z = Nothing
held_if false z = Figure z

unfoldable pub read_held : ℤ → Held
read_held (pos n) = Figure (pos n)
read_held (negsuc n) = held_if (n == 9223372036854775807) (negsuc n)

abbrev pub store_stamp : Stamp → ℤ
store_stamp s = pos s.num

abbrev pub read_stamp : ℤ → Stamp
read_stamp z = stamp_of (up z)

-- "In mode 4, 64-bit values are 0 to 2^32 - 1."
unfoldable pub is_stamp : ℤ → Bool
is_stamp z = int_le (pos 0) z && int_le z (pos 4294967295)
