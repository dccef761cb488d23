-- Bytes as fields one after the other: a field behind others, bytes taken apart into their fields, and lists of bytes. Assumes nothing.
use Rattle.std.specs.Prelude.{◌≡◌, refl, List, [], ◌∷◌, ◌++◌, ℕ, zero, suc, ◌+◌, ◌-◌, ◌*◌, ◌/◌, ◌%◌, ◌≤◌, length, get_or, drop}
use Rattle.std.proofs.Common.{sym, ap, ◌∙◌, add-zero, add-suc, suc-add, mod-lt, arith, lit<, get_or-drop, drop-cons, drop_at, drop-drop, Fits, of_z}
use Rattle.std.proofs.Math.Seq.{drop-append-add}
use Rattle.std.specs.Int.{w32}
use Rattle.std.proofs.Math.Facts.{of_z-to_z}
use Rattle.number.specs.Bytes.{AllBytes, le_at, bytes_of, i32_at}
use Rattle.number.specs.Laws.{le_at-drop, le_at-lt, length-bytes_of}

le_at-suc : (n : ℕ) (s : List ℕ) (i : ℕ) → le_at (suc n) s i ≡ get_or s i 0 + 256 * le_at n s (suc i)
unfolding le_at
le_at-suc n s i = refl

bytes_of_suc : (n v : ℕ) → bytes_of (suc n) v ≡ v % 256 ∷ bytes_of n (v / 256)
unfolding bytes_of
bytes_of_suc n v = refl

-- the bytes from i on are those of the field there, and what follows
pub split-field : (n i : ℕ) (b : List ℕ) → AllBytes b → i + n ≤ length b → bytes_of n (le_at n b i) ++ drop (i + n) b ≡ drop i b
unfolding bytes_of
split-field zero i b h l = rw (add-zero i)
split-field (suc n) i b h l =
    let y : ℕ = le_at n b (suc i) in
    let first : (get_or b i 0 + 256 * y) % 256 ≡ get_or b i 0 = omega (arith, h i) in
    let others : (get_or b i 0 + 256 * y) / 256 ≡ y = omega (arith, h i) in
    let rest : bytes_of n y ++ drop (i + suc n) b ≡ drop (suc i) b = rw (add-suc i n, ← suc-add i n) (split-field n (suc i) b h (omega arith)) in
    rw (le_at-suc n b i, first, others, rest) (sym (drop-cons b i 0 (omega arith)))

-- a signed field likewise
pub split-signed : (i : ℕ) (b : List ℕ) → AllBytes b → i + 4 ≤ length b → bytes_of 4 (of_z w32 (i32_at b i)) ++ drop (i + 4) b ≡ drop i b
split-signed i b h l =
    let f : Fits w32 (le_at 4 b i) = record { fits = le_at-lt 4 b i h } in
    rw (of_z-to_z f) (split-field 4 i b h l)

pub bytes-append : (a b : List ℕ) → AllBytes a → AllBytes b → AllBytes (a ++ b)
bytes-append [] b h k i = k i
bytes-append (x ∷ a) b h k zero = h zero
bytes-append (x ∷ a) b h k (suc i) = bytes-append a b (λ j. h (suc j)) k i

pub bytes-nil : AllBytes []
bytes-nil i = omega arith

pub bytes_drop : (n : ℕ) (b : List ℕ) → AllBytes b → AllBytes (drop n b)
bytes_drop n b all i = rw (get_or-drop n b i 0) (all (n + i))

bytes_of_zero : (v : ℕ) → bytes_of zero v ≡ []
unfolding bytes_of
bytes_of_zero v = refl

pub bytes-bytes_of : (n v : ℕ) → AllBytes (bytes_of n v)
bytes-bytes_of zero v i = rw (bytes_of_zero v) (bytes-nil i)
bytes-bytes_of (suc n) v zero = rw (bytes_of_suc n v) (mod-lt v (lit< tt))
bytes-bytes_of (suc n) v (suc i) = rw (bytes_of_suc n v) (bytes-bytes_of n (v / 256) i)

-- what stands behind k bytes that begin at a
pub behind : (a k : ℕ) (b p q : List ℕ) → drop a b ≡ p ++ q → length p ≡ k → drop (a + k) b ≡ q
behind a k b p q e l = sym (drop-drop k a b) ∙ ap (drop k) e ∙ drop_at p q k l

-- the field at the start of what stands from k on, and a field further on
pub field-from : (n k : ℕ) (b q : List ℕ) → drop k b ≡ q → le_at n b k ≡ le_at n q 0
field-from n k b q e = ap (le_at n b) (sym (add-zero k)) ∙ sym (le_at-drop n k b 0) ∙ ap (λ (l : List ℕ). le_at n l 0) e

pub field-further : (n k i : ℕ) (b q : List ℕ) → drop k b ≡ q → le_at n b (k + i) ≡ le_at n q i
field-further n k i b q e = sym (le_at-drop n k b i) ∙ ap (λ (l : List ℕ). le_at n l i) e

-- a field dropped
pub drop_past : (m n v : ℕ) (r : List ℕ) → m ≤ n → drop n (bytes_of m v ++ r) ≡ drop (n - m) r
drop_past m n v r h =
    let e : length (bytes_of m v) + (n - m) ≡ n = omega (arith, length-bytes_of m v) in
    ap (λ (k : ℕ). drop k (bytes_of m v ++ r)) (sym e) ∙ drop-append-add (bytes_of m v) r (n - m)
