-- A line whose numbers fit their columns: it has 27 bytes, and reads back. And the numbers of a log's records do fit. Assumes nothing.
use Rattle.std.proofs.Math.Path.{◌≡◌, sym, ap}
use Rattle.std.specs.Prelude.{refl, true, List, [], ◌∷◌, ◌++◌, ℕ, zero, suc, ◌≤◌, length, take, ℤ, pos, negsuc, nat_abs}
use Rattle.std.proofs.Common.{◌∙◌, take_at, drop-drop}
use native.Mathlib.Omega.{arith}
use Rattle.std.proofs.Math.ListN.{drop, length-append}
use Rattle.text.specs.Decimal.{digits_of, decimal_of, read_digits, read_decimal}
use Rattle.text.proofs.DecimalLaws.{digits-length}
use Rattle.text.specs.Columns.{right_aligned, after_blanks}
use Rattle.text.proofs.ColumnLaws.{length-aligned, number-back, decimal-back}
use Rattle.modes.specs.FourModes.{Amounts, Stamp, stamp, store_held}
use Rattle.figure.specs.Mode.{mode_of, mode_in_use}
use Rattle.modes.specs.Bound.{size_held}
use Rattle.figure.specs.Stored.{by_mode}
use Rattle.day_sheet.specs.Sheet.{sheet_line}
use Rattle.day_sheet.specs.Claims.{InColumns, LineRead, read_line}

-- ---- a line

-- what follows a part and the byte after it
past : (a : List ℕ) (x : ℕ) (b : List ℕ) (n : ℕ) → length a ≡ n → drop (suc n) (a ++ (x ∷ b)) ≡ b
past [] x b zero e = refl
past [] x b (suc n) e = absurd (omega arith)
past (y ∷ a) x b zero e = absurd (omega arith)
past (y ∷ a) x b (suc n) e = past a x b n (omega arith)

module _ {n d : ℕ} {z : ℤ} (c : InColumns n d z) where
  -- its parts: what stands from the depth on, and from the figure on
  figure-part : List ℕ
  figure-part = right_aligned 16 (decimal_of z) ++ (10 ∷ [])

  depth-part : List ℕ
  depth-part = right_aligned 2 (digits_of d) ++ (32 ∷ figure-part)

  number-long : length (right_aligned 6 (digits_of n)) ≡ 6
  number-long = length-aligned 6 (digits_of n) c.number_fits

  depth-long : length (right_aligned 2 (digits_of d)) ≡ 2
  depth-long = length-aligned 2 (digits_of d) c.depth-fits

  figure-long : length (right_aligned 16 (decimal_of z)) ≡ 16
  figure-long = length-aligned 16 (decimal_of z) c.figure-fits

  -- 27 BYTES.
  pub line-27 : length (sheet_line n d z) ≡ 27
  unfolding sheet_line figure-part depth-part
  line-27 = omega (
    arith,
    number-long,
    depth-long,
    figure-long,
    length-append (right_aligned 6 (digits_of n)) (32 ∷ depth-part),
    length-append (right_aligned 2 (digits_of d)) (32 ∷ figure-part),
    length-append (right_aligned 16 (decimal_of z)) (10 ∷ []),
  )

  -- IT READS BACK.
  pub line-back : read_line (sheet_line n d z) ≡ record { number = n; depth = d; figure = z }
  unfolding sheet_line figure-part depth-part
  line-back =
      let from-depth : drop 7 (sheet_line n d z) ≡ depth-part = past (right_aligned 6 (digits_of n)) 32 depth-part 6 number-long in
      let from-figure : drop 10 (sheet_line n d z) ≡ figure-part = sym (drop-drop 3 7 (sheet_line n d z)) ∙ ap (drop 3) from-depth ∙ past (right_aligned 2 (digits_of d)) 32 figure-part 2 depth-long in
      three
      (ap (λ s. read_digits (after_blanks s)) (take_at (right_aligned 6 (digits_of n)) (32 ∷ depth-part) 6 number-long) ∙ number-back 6 n)
      (ap (λ s. read_digits (after_blanks (take 2 s))) from-depth ∙ ap (λ s. read_digits (after_blanks s)) (take_at (right_aligned 2 (digits_of d)) (32 ∷ figure-part) 2 depth-long) ∙ number-back 2 d)
      (ap (λ s. read_decimal (after_blanks (take 16 s))) from-figure ∙ ap (λ s. read_decimal (after_blanks s)) (take_at (right_aligned 16 (decimal_of z)) (10 ∷ []) 16 figure-long) ∙ decimal-back 16 z)
    where
      three : {a b : ℕ} {c : ℤ} → a ≡ n → b ≡ d → c ≡ z → ◌≡◌ {A = LineRead} (record { number = a; depth = b; figure = c }) (record { number = n; depth = d; figure = z })
      three ea eb ec = rw (ea, eb, ec)

-- ---- the numbers fit

-- the most that a figure can be: document 01's bound, 10^9 for each of 100,000 records
abbrev pub most : ℕ
most = 100_000_000_000_000

decimal-short : (z : ℤ) → nat_abs z ≤ most → length (decimal_of z) ≤ 16
unfolding decimal_of
decimal-short (pos n) h = omega (arith, digits-length 14 n (omega arith))
decimal-short (negsuc n) h = omega (arith, digits-length 14 (suc n) (omega arith))

pub in-columns : {n d : ℕ} {z : ℤ} → n ≤ 100_000 → d ≤ 63 → nat_abs z ≤ most → InColumns n d z
in-columns {n} {d} {z} a b c = record { number_fits = digits-length 5 n (omega arith); depth-fits = digits-length 1 d (omega arith); figure-fits = decimal-short z c }

-- what is stored of a record's figure is as large as the figure; a stamp is below 2^32, and no record's figure is "nothing held"
abbrev StoredWithin : (m : ℕ) → Type 0
StoredWithin m = (r : Amounts) (h : (mode_of m).algebra.Fig) → (mode_of m).sizes.size ((mode_of m).algebra.node r h) ≤ most → nat_abs ((mode_of m).store ((mode_of m).algebra.node r h)) ≤ most

stored-1 : StoredWithin 1
unfolding mode_of
stored-1 r h l = l

stored-2 : StoredWithin 2
unfolding mode_of size_held store_held
stored-2 r h l = l

stored-4 : StoredWithin 4
unfolding mode_of
stored-4 r h l = let s : Stamp = stamp.node r h in omega (arith, s.small)

stored-5 : StoredWithin 5
unfolding mode_of size_held store_held
stored-5 r h l = l

pub stored-within : (m : ℕ) → mode_in_use m ≡ true → StoredWithin m
stored-within = by_mode StoredWithin stored-1 stored-2 stored-4 stored-5
