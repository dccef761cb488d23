-- Laws that pin decimal text: it reads back to its number, and it is the only text of digits with no leading zero that does.
-- Assumes nothing.
use Rattle.std.specs.Prelude.{◌≡◌, refl, ◌↔◌, ◌≢◌, List, [], ◌∷◌, ◌++◌, ℕ, zero, suc, ◌+◌, ◌-◌, ◌*◌, ◌/◌, ◌%◌, ◌^◌, ◌≤◌, ◌<◌, length, get_or, ℤ, pos, negsuc, neg_ℤ, ◌<ℤ◌}
use Rattle.std.proofs.Common.{sym, ap, ◌∙◌, append_assoc, append-nil, pow-suc, arith, lt-ltb, le-ltb, ne_eqb, lit<, length-append, SFits}
use Rattle.std.proofs.Math.Logic.{dite}
use Rattle.std.proofs.Math.Decide.{dec_lt}
use Rattle.std.proofs.Math.ListN.{get_or-append}
use Rattle.std.specs.Int.{w64}
use Rattle.number.specs.IntegerLaws.{zed}
use Rattle.text.specs.Decimal.{digits_in, digits_of, decimal_of, read_after, read_digits, read_decimal, Digits, Numeral}

-- ---- the bound is never too small

one_in : (k n : ℕ) → n < 10 → digits_in (suc k) n ≡ (48 + n) ∷ []
unfolding digits_in
one_in k n h = rw (lt-ltb n 10 h, digits_in)

more-in : (k n : ℕ) → 10 ≤ n → digits_in (suc k) n ≡ digits_in k (n / 10) ++ ((48 + n % 10) ∷ [])
unfolding digits_in
more-in k n h = rw (le-ltb n 10 h, digits_in)

enough : (k m n : ℕ) → n < k → n < m → digits_in k n ≡ digits_in m n
enough zero m n h g = absurd (omega arith)
enough (suc k) zero n h g = absurd (omega arith)
enough (suc k) (suc m) n h g =
    dite (dec_lt n 10)
    (λ l. one_in k n l ∙ sym (one_in m n l))
    (λ l. let t : 10 ≤ n = omega arith in more-in k n t ∙ ap (λ (s : List ℕ). s ++ ((48 + n % 10) ∷ [])) (enough k m (n / 10) (omega arith) (omega arith)) ∙ sym (more-in m n t))

-- THE TWO EQUATIONS of `digits_of`
pub digits-one : (n : ℕ) → n < 10 → digits_of n ≡ (48 + n) ∷ []
unfolding digits_of
digits-one n h = one_in n n h

pub digits_more : (n : ℕ) → 10 ≤ n → digits_of n ≡ digits_of (n / 10) ++ ((48 + n % 10) ∷ [])
unfolding digits_of
digits_more n h = more-in n n h ∙ ap (λ (s : List ℕ). s ++ ((48 + n % 10) ∷ [])) (enough n (suc (n / 10)) (n / 10) (omega arith) (omega arith))

-- what holds below 10, and of n where it holds of n / 10, holds of every number
by-tens : (P : ℕ → Type 0) → ((n : ℕ) → n < 10 → P n) → ((n : ℕ) → 10 ≤ n → P (n / 10) → P n) → (k n : ℕ) → n < k → P n
by-tens P f g zero n h = absurd (omega arith)
by-tens P f g (suc k) n h = dite (dec_lt n 10) (f n) (λ l. g n (omega arith) (by-tens P f g k (n / 10) (omega arith)))

-- ---- reading back

read-last : (n : ℕ) (s : List ℕ) (d : ℕ) → read_after n (s ++ (d ∷ [])) ≡ 10 * read_after n s + (d - 48)
unfolding read_after
read-last n [] d = refl
read-last n (e ∷ s) d = read-last (10 * n + (e - 48)) s d

-- THE DIGITS READ BACK GIVE THE NUMBER.
pub read-digits : (n : ℕ) → read_digits (digits_of n) ≡ n
unfolding read_after
read-digits n =
    by-tens (λ m. read_digits (digits_of m) ≡ m)
    (λ m h. rw (digits-one m h) (omega arith))
    (λ m h ih. rw (digits_more m h, read-last 0 (digits_of (m / 10)) (48 + m % 10), ih) (omega arith))
    (suc n) n (omega arith)

-- ---- the shape of a numeral

digits_append : (s : List ℕ) (d : ℕ) → Digits s → d < 10 → Digits (s ++ ((48 + d) ∷ []))
digits_append [] d h l = (omega arith, omega arith, tt)
digits_append (e ∷ s) d h l = (h.0, h.1, digits_append s d h.2 l)

pub digits-digits : (n : ℕ) → Digits (digits_of n)
digits-digits n =
    by-tens (λ m. Digits (digits_of m))
    (λ m h. rw (digits-one m h) (omega arith, omega arith, tt))
    (λ m h ih. rw (digits_more m h) (digits_append (digits_of (m / 10)) (m % 10) ih (omega arith)))
    (suc n) n (omega arith)

pub digits-some : (n : ℕ) → 1 ≤ length (digits_of n)
digits-some n =
    dite (dec_lt n 10)
    (λ h. rw (digits-one n h) (omega arith))
    (λ h. rw (digits_more n (omega arith), length-append) (omega arith))

-- NO LEADING ZERO: the text of 0 is "0", and that of another number does not begin with '0'.
pub digits-zero : digits_of 0 ≡ 48 ∷ []
digits-zero = digits-one 0 (lit< tt)

pub digits-lead : (n : ℕ) → 0 < n → get_or (digits_of n) 0 0 ≢ 48
digits-lead n =
    by-tens (λ m. 0 < m → get_or (digits_of m) 0 0 ≢ 48)
    (λ m h p. rw (digits-one m h) (omega arith))
    (λ m h ih p. rw (digits_more m h, get_or-append (digits_of (m / 10)) ((48 + m % 10) ∷ []) 0 0 (digits-some (m / 10))) (ih (omega arith)))
    (suc n) n (omega arith)

pub digits-numeral : (n : ℕ) → Numeral (digits_of n)
digits-numeral n =
    record {
      digits = digits-digits n;
      some = digits-some n;
      lead = λ h. dite (dec_lt 0 n) (digits-lead n) (λ z. let e : n ≡ 0 = omega arith in absurd (omega (arith, ap (λ (m : ℕ). length (digits_of m)) e, ap length digits-zero)));
    }

-- ---- the only text

-- a digit more
digits-next : (n d : ℕ) → 0 < n → 48 ≤ d → d ≤ 57 → digits_of (10 * n + (d - 48)) ≡ digits_of n ++ (d ∷ [])
digits-next n d p l h =
    let q : (10 * n + (d - 48)) / 10 ≡ n = omega arith in
    let r : 48 + (10 * n + (d - 48)) % 10 ≡ d = omega arith in
    digits_more (10 * n + (d - 48)) (omega arith) ∙ rw (q, r)

read-after : (s : List ℕ) (n : ℕ) → 0 < n → Digits s → digits_of (read_after n s) ≡ digits_of n ++ s
unfolding read_after
read-after [] n p h = sym (append-nil (digits_of n))
read-after (d ∷ s) n p h =
    read-after s (10 * n + (d - 48)) (omega arith) h.2 ∙ ap (λ (t : List ℕ). t ++ s) (digits-next n d p h.0 h.1) ∙ append_assoc (digits_of n) (d ∷ []) s

digit : (d : ℕ) → 48 ≤ d → d ≤ 57 → digits_of (d - 48) ≡ d ∷ []
digit d l h = digits-one (d - 48) (omega arith) ∙ ap (λ (e : ℕ). e ∷ []) (omega arith)

-- A NUMERAL IS THE DIGITS OF THE NUMBER IT READS TO.
pub numeral-only : (s : List ℕ) → Numeral s → digits_of (read_digits s) ≡ s
unfolding read_after
numeral-only [] m = absurd (omega (arith, m.some))
numeral-only (d ∷ []) m = ap digits_of (omega arith) ∙ digit d m.digits.0 m.digits.1
numeral-only (d ∷ e ∷ s) m =
    let z : d ≢ 48 = m.lead (omega arith) in
    let a : 10 * 0 + (d - 48) ≡ d - 48 = omega arith in
    let l : 48 ≤ d = m.digits.0 in
    ap (λ (n : ℕ). digits_of (read_after n (e ∷ s))) a ∙ read-after (e ∷ s) (d - 48) (omega arith) m.digits.2 ∙ ap (λ (t : List ℕ). t ++ (e ∷ s)) (digit d l m.digits.1)

-- the same for a number that is named
pub digits-only : (n : ℕ) (s : List ℕ) → Numeral s → read_digits s ≡ n → s ≡ digits_of n
digits-only n s m e = sym (numeral-only s m) ∙ ap digits_of e

-- ---- with a sign

-- a text that begins with a digit is not negative
read_plain : (s : List ℕ) → 48 ≤ get_or s 0 0 → read_decimal s ≡ pos (read_digits s)
unfolding read_decimal
read_plain [] h = absurd (omega arith)
read_plain (b ∷ s) h = rw (ne_eqb b 45 (λ e. absurd (omega arith)))

first-digit : (s : List ℕ) → Digits s → 1 ≤ length s → 48 ≤ get_or s 0 0
first-digit [] d h = absurd (omega arith)
first-digit (b ∷ s) d h = d.0

first : (n : ℕ) → 48 ≤ get_or (digits_of n) 0 0
first n = first-digit (digits_of n) (digits-digits n) (digits-some n)

-- THE TEXT READ BACK GIVES THE NUMBER, with its sign.
pub read-decimal : (z : ℤ) → read_decimal (decimal_of z) ≡ z
unfolding decimal_of read_decimal
read-decimal (pos n) = read_plain (digits_of n) (first n) ∙ ap pos (read-digits n)
read-decimal (negsuc n) = ap (λ (m : ℕ). neg_ℤ (pos m)) (read-digits (suc n))

-- A MINUS EXACTLY WHEN NEGATIVE
pub minus-negative : (z : ℤ) → (get_or (decimal_of z) 0 0 ≡ 45) ↔ (z <ℤ pos 0)
unfolding decimal_of
minus-negative (pos n) = (λ e. absurd (omega (arith, first n)), λ h. absurd (omega (zed, h)))
minus-negative (negsuc n) = (λ e. omega zed, λ h. refl)

-- and the only text: a numeral, or a minus and a numeral that is not "0"
pub decimal-plain : (s : List ℕ) → Numeral s → decimal_of (read_decimal s) ≡ s
unfolding decimal_of
decimal-plain s m = rw (read_plain s (first-digit s m.digits m.some)) (numeral-only s m)

pub decimal-minus : (s : List ℕ) → Numeral s → s ≢ 48 ∷ [] → decimal_of (read_decimal (45 ∷ s)) ≡ 45 ∷ s
unfolding decimal_of read_decimal
decimal-minus s m z = go (read_digits s) refl
  where
    go : (n : ℕ) → read_digits s ≡ n → decimal_of (neg_ℤ (pos n)) ≡ 45 ∷ s
    go zero e = absurd (z (digits-only 0 s m e ∙ digits-zero))
    go (suc n) e = ap (λ (t : List ℕ). 45 ∷ t) (sym (digits-only (suc n) s m e))

-- ---- how long

-- a number below 10^(k+1) has at most k + 1 digits
pub digits-length : (k n : ℕ) → n < 10 ^ suc k → length (digits_of n) ≤ suc k
digits-length zero n h = rw (digits-one n h) (omega arith)
digits-length (suc k) n h =
    let b : n < 10 ^ suc k * 10 = rw pow-suc at h in
    dite (dec_lt n 10)
    (λ l. rw (digits-one n l) (omega arith))
    (λ l. rw (digits_more n (omega arith), length-append) (omega (arith, digits-length k (n / 10) (omega arith))))

pub decimal-length : (z : ℤ) → SFits w64 z → length (decimal_of z) ≤ 20
unfolding decimal_of
decimal-length (pos n) f = digits-length 19 n (omega (arith, f.sfits))
decimal-length (negsuc n) f = omega (arith, digits-length 18 (suc n) (omega (arith, f.sfits)))
