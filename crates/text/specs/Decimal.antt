-- Numbers as decimal text: lists of ASCII bytes. Digits are 48 ('0') to 57 ('9'), the minus sign is 45.
use Rattle.std.specs.Prelude.{true, false, cond, List, [], ◌∷◌, ◌++◌, ℕ, zero, suc, ◌+◌, ◌-◌, ◌*◌, ◌/◌, ◌%◌, ◌≤◌, ◌≢◌, ltb, eqb, length, get_or, ℤ, pos, negsuc, neg_ℤ}

-- The digits of n, most significant first: those of n / 10 and then the last one. At most k of them. (`elim` computes only the case that
-- is taken.)
unfoldable pub digits_in : ℕ → ℕ → List ℕ
digits_in zero n = []
digits_in (suc k) n = elim (ltb n 10) [ true ↦ (48 + n) ∷ [] | false ↦ digits_in k (n / 10) ++ ((48 + n % 10) ∷ []) ]

-- THE DIGITS OF n, "0" for 0. A number n has no more than n + 1 of them.
unfoldable pub digits_of : ℕ → List ℕ
digits_of n = digits_in (suc n) n

-- THE DECIMAL TEXT OF z: a minus first where z is negative; `negsuc n` is -(n + 1).
unfoldable pub decimal_of : ℤ → List ℕ
decimal_of (pos n) = digits_of n
decimal_of (negsuc n) = 45 ∷ digits_of (suc n)

-- ---- the other way, for the laws

-- The number that digits stand for, after a number that was read before them.
unfoldable pub read_after : ℕ → List ℕ → ℕ
read_after n [] = n
read_after n (d ∷ s) = read_after (10 * n + (d - 48)) s

abbrev pub read_digits : List ℕ → ℕ
read_digits s = read_after 0 s

-- The number that a decimal text stands for.
unfoldable pub read_decimal : List ℕ → ℤ
read_decimal [] = pos 0
read_decimal (b ∷ s) = cond (eqb b 45) (neg_ℤ (pos (read_digits s))) (pos (read_digits (b ∷ s)))

-- Every byte is a digit.
abbrev pub Digits : List ℕ → Type 0
Digits [] = Unit {0}
Digits (d ∷ s) = (48 ≤ d) × (d ≤ 57) × Digits s

-- Digits, at least one, with a leading zero only in "0" itself.
pub record Numeral (s : List ℕ) : Type 0 where
  pub digits : Digits s
  pub some : 1 ≤ length s
  pub lead : 2 ≤ length s → get_or s 0 0 ≢ 48
