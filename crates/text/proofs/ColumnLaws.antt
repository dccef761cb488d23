-- Laws of text in columns: how long it is, and that the number in it reads back. Assumes nothing.
use Rattle.std.specs.Prelude.{◌≡◌, refl, List, [], ◌∷◌, ◌++◌, ℕ, zero, suc, ◌-◌, ◌≤◌, length, ℤ, pos, negsuc}
use Rattle.std.proofs.Common.{ap, ◌∙◌, arith, ne_eqb, length-append}
use Rattle.text.specs.Decimal.{digits_of, decimal_of, read_digits, read_decimal, Digits}
use Rattle.text.proofs.DecimalLaws.{digits-digits, digits-some, read-digits, read-decimal}
use Rattle.text.specs.Columns.{blanks, right_aligned, after_blanks}

pub length-blanks : (n : ℕ) → length (blanks n) ≡ n
length-blanks zero = refl
length-blanks (suc n) = ap suc (length-blanks n)

-- JUST SO MANY COLUMNS, where the text is no longer.
pub length-aligned : (columns : ℕ) (s : List ℕ) → length s ≤ columns → length (right_aligned columns s) ≡ columns
unfolding right_aligned
length-aligned columns s h = omega (arith, length-append (blanks (columns - length s)) s, length-blanks (columns - length s))

-- ---- reading back

-- a text that does not begin with a blank
abbrev Begun : List ℕ → Type 0
Begun [] = ⊥
Begun (b ∷ s) = b ≡ 32 → ⊥

after-begun : (s : List ℕ) → Begun s → after_blanks s ≡ s
after-begun [] h = absurd h
after-begun (b ∷ s) h = rw (ne_eqb b 32 h)

after-blanks : (n : ℕ) (s : List ℕ) → after_blanks (blanks n ++ s) ≡ after_blanks s
after-blanks zero s = refl
after-blanks (suc n) s = after-blanks n s

after-aligned : (columns : ℕ) (s : List ℕ) → Begun s → after_blanks (right_aligned columns s) ≡ s
unfolding right_aligned
after-aligned columns s h = after-blanks (columns - length s) s ∙ after-begun s h

begun-digits : (s : List ℕ) → Digits s → 1 ≤ length s → Begun s
begun-digits [] d h = absurd (omega arith)
begun-digits (b ∷ s) d h = λ e. omega (arith, d.0)

number-begun : (n : ℕ) → Begun (digits_of n)
number-begun n = begun-digits (digits_of n) (digits-digits n) (digits-some n)

decimal-begun : (z : ℤ) → Begun (decimal_of z)
unfolding decimal_of
decimal-begun (pos n) = number-begun n
decimal-begun (negsuc n) = λ e. omega (arith, e)

-- THE NUMBER IN THE COLUMNS READS BACK, ..
pub number-back : (columns n : ℕ) → read_digits (after_blanks (right_aligned columns (digits_of n))) ≡ n
number-back columns n = ap read_digits (after-aligned columns (digits_of n) (number-begun n)) ∙ read-digits n

-- .. with its sign.
pub decimal-back : (columns : ℕ) (z : ℤ) → read_decimal (after_blanks (right_aligned columns (decimal_of z))) ≡ z
decimal-back columns z = ap read_decimal (after-aligned columns (decimal_of z) (decimal-begun z)) ∙ read-decimal z
