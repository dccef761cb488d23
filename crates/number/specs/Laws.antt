-- Laws of the little-endian codec: fields side by side, reading back what was written, and a field that a write leaves alone.
-- Assumes nothing.
use Rattle.std.specs.Prelude.{◌≡◌, refl, List, [], ◌∷◌, ◌++◌, ℕ, zero, suc, ◌+◌, ◌-◌, ◌*◌, ◌/◌, ◌%◌, ◌^◌, ◌≤◌, ◌<◌, length, get_or, take, drop, set}
use Rattle.std.proofs.Common.{sym, ap, ◌∙◌, add-zero, add-suc, suc-add, zero-add, pow-suc, mul_comm, div-one, mod-lt, le_of_eq, add-one, add_assoc, arith, length-set, length-append, append_assoc, length-drop, take_all, get_or-drop, get_or-set_same, get_or-set_other, take_at, drop-drop, lit<}
use Rattle.std.proofs.Math.Nat.{div-div-eq-div-mul, sub-zero, suc-sub-suc}
use Rattle.std.proofs.Math.Arith.{mod-mul, digits_mod, digits_div}
use Rattle.std.proofs.Math.ListN.{get_or-append}
use Rattle.std.proofs.lemmas.List.Edits.{sets, sets-eq}
use Rattle.std.proofs.Math.Seq.{drop-append-add}
use Rattle.std.specs.Int.{Width, byte_len, byte_at, bytes_low_first, to_le_bytes}
use borrow.Rule.Slice.PartMut.{put_mid}
use Rattle.number.specs.Bytes.{le_at, bytes_of, put_at}

-- ---- reading

-- two fields side by side are one
pub le_at-add : (m n : ℕ) (s : List ℕ) (i : ℕ) → le_at (m + n) s i ≡ le_at m s i + 256 ^ m * le_at n s (i + m)
unfolding le_at
le_at-add zero n s i = rw (zero-add, add-zero) (omega arith)
le_at-add (suc m) n s i = rw (suc-add, add-suc, pow-suc, le_at-add m n s (suc i), suc-add i m) (omega arith)

-- the field of two bytes, as the code reads it
pub le_at-two : (s : List ℕ) (i : ℕ) → le_at 2 s i ≡ get_or s i 0 + get_or s (i + 1) 0 * 256
unfolding le_at
le_at-two s i = rw add-one (omega arith)

-- that of four
pub le_at-four : (s : List ℕ) (i : ℕ) → le_at 4 s i ≡ get_or s i 0 + get_or s (i + 1) 0 * 2 ^ 8 + get_or s (i + 2) 0 * 2 ^ 16 + get_or s (i + 3) 0 * 2 ^ 24
le_at-four s i = rw (le_at-add 2 2, le_at-two s i, le_at-two s (i + 2), add_assoc i 2 1) (omega arith)

-- a field of the rest of a list
pub le_at-drop : (n k : ℕ) (s : List ℕ) (i : ℕ) → le_at n (drop k s) i ≡ le_at n s (k + i)
unfolding le_at
le_at-drop zero k s i = refl
le_at-drop (suc n) k s i = rw (get_or-drop, le_at-drop n k s (suc i), add-suc)

-- a field of a list that others follow
pub le_at-append : (n : ℕ) (a b : List ℕ) (i : ℕ) → i + n ≤ length a → le_at n (a ++ b) i ≡ le_at n a i
unfolding le_at
le_at-append zero a b i h = refl
le_at-append (suc n) a b i h = rw (get_or-append a b 0 i (omega arith), le_at-append n a b (suc i) (omega arith))

-- a field of bytes has its bound
pub le_at-lt : (n : ℕ) (s : List ℕ) (i : ℕ) → ((j : ℕ) → get_or s j 0 < 256) → le_at n s i < 256 ^ n
unfolding le_at
le_at-lt zero s i h = lit< tt
le_at-lt (suc n) s i h = rw pow-suc (omega (arith, h i, le_at-lt n s (suc i) h))

-- a part to the end, as the logic gives it
pub part-rest : (i : ℕ) (l : List ℕ) → take (length l - i) (drop i l) ≡ drop i l
part-rest i l = take_all (length l - i) (drop i l) (le_of_eq (length-drop i l))

-- ---- the bytes of a number

pow-pos' : (m : ℕ) → 0 < 256 ^ m
pow-pos' zero = lit< tt
pow-pos' (suc m) = rw pow-suc (omega (arith, pow-pos' m))

pub length-bytes_of : (n v : ℕ) → length (bytes_of n v) ≡ n
unfolding bytes_of
length-bytes_of zero v = refl
length-bytes_of (suc n) v = ap suc (length-bytes_of n (v / 256))

pub bytes_of-add : (m n v : ℕ) → bytes_of (m + n) v ≡ bytes_of m v ++ bytes_of n (v / 256 ^ m)
unfolding bytes_of
bytes_of-add zero n v = rw (zero-add, div-one)
bytes_of-add (suc m) n v = rw (suc-add, bytes_of-add m n (v / 256), div-div-eq-div-mul, pow-suc, mul_comm (256 ^ m) 256)

-- the low bytes are those of the remainder
bytes_of_mod : (m v : ℕ) → bytes_of m (v % 256 ^ m) ≡ bytes_of m v
unfolding bytes_of
bytes_of_mod zero v = refl
bytes_of_mod (suc m) v =
    rw (pow-suc, mod-mul v {m = 256 ^ m} {c = 256} (pow-pos' m) (lit< tt), digits_mod (v / 256 % 256 ^ m) (mod-lt v (lit< tt)), digits_div (v / 256 % 256 ^ m) (mod-lt v (lit< tt)), bytes_of_mod m (v / 256))

-- the language's own bytes of a number are these
byte_at-is : (i v : ℕ) → byte_at i v ≡ v / 256 ^ i % 256
byte_at-is zero v = rw div-one
byte_at-is (suc i) v = refl

low_first-is : (i n v : ℕ) → bytes_low_first i n v ≡ bytes_of n (v / 256 ^ i)
unfolding bytes_of
low_first-is i zero v = refl
low_first-is i (suc n) v = rw (byte_at-is, low_first-is (suc i) n v, div-div-eq-div-mul, pow-suc)

pub to_le_bytes-is : (w : Width) (v : ℕ) → to_le_bytes w v ≡ bytes_of (byte_len w) v
to_le_bytes-is w v = low_first-is 0 (byte_len w) v ∙ rw div-one

-- ---- a run of stores

pub sets-append : (l : List ℕ) (i : ℕ) (a b : List ℕ) → sets l i (a ++ b) ≡ sets (sets l i a) (i + length a) b
sets-append l i [] b = rw add-zero
sets-append l i (x ∷ a) b = rw (sets-append (set l i x) (suc i) a b, suc-add, add-suc)

-- a part of a list, overwritten, is a run of stores
pub sets-part : (i k : ℕ) (s vs : List ℕ) → length vs ≡ k → i + k ≤ length s → put_mid i k s vs ≡ sets s i vs
sets-part i k s vs e h = rw (drop-drop, ← append_assoc) (sym (rw e at (sets-eq vs s i (omega arith))))

-- a run behind another that ends at j
pub stores-next : (o : List ℕ) (i j : ℕ) (a b : List ℕ) → i + length a ≡ j → sets (sets o i a) j b ≡ sets o i (a ++ b)
stores-next o i j a b e = ap (λ (k : ℕ). sets (sets o i a) k b) (sym e) ∙ sym (sets-append o i a b)

pub get_d_sets_before : (l : List ℕ) (i j : ℕ) (vs : List ℕ) → j < i → get_or (sets l i vs) j 0 ≡ get_or l j 0
get_d_sets_before l i j [] h = refl
get_d_sets_before l i j (v ∷ vs) h = get_d_sets_before (set l i v) (suc i) j vs (omega arith) ∙ get_or-set_other l i j v 0 (omega arith)

pub get_or-sets-after : (l : List ℕ) (i j : ℕ) (vs : List ℕ) → i + length vs ≤ j → get_or (sets l i vs) j 0 ≡ get_or l j 0
get_or-sets-after l i j [] h = refl
get_or-sets-after l i j (v ∷ vs) h = get_or-sets-after (set l i v) (suc i) j vs (omega arith) ∙ get_or-set_other l i j v 0 (omega arith)

-- ---- a write, and the fields

-- the write of two bytes, as the code stores them
pub put_at-two : (s : List ℕ) (i v : ℕ) → put_at 2 s i v ≡ set (set s i (v % 256)) (i + 1) (v / 256 % 256)
unfolding bytes_of
put_at-two s i v = rw add-one

-- the bytes of a number as a part of a list
pub put_at-part : (n i k v : ℕ) (s bs : List ℕ) → k ≡ n → i + n ≤ length s → bs ≡ bytes_of n v → put_mid i k s bs ≡ put_at n s i v
put_at-part n i k v s bs e h b = rw (b, e) (sets-part i n s (bytes_of n v) (length-bytes_of n v) h)

-- two writes side by side are one
pub put_at-add : (m n : ℕ) (s : List ℕ) (i v : ℕ) → put_at (m + n) s i v ≡ put_at n (put_at m s i (v % 256 ^ m)) (i + m) (v / 256 ^ m)
put_at-add m n s i v = rw (bytes_of-add, sets-append, length-bytes_of, bytes_of_mod)

-- what was written is read back
pub le_at-put_at : (n : ℕ) (s : List ℕ) (i v : ℕ) → i + n ≤ length s → v < 256 ^ n → le_at n (put_at n s i v) i ≡ v
unfolding le_at bytes_of
le_at-put_at zero s i v h k = omega arith
le_at-put_at (suc n) s i v h k =
    let k' : v < 256 ^ n * 256 = rw pow-suc at k in
    let low : get_or (sets (set s i (v % 256)) (suc i) (bytes_of n (v / 256))) i 0 ≡ v % 256 =
    get_d_sets_before (set s i (v % 256)) (suc i) i (bytes_of n (v / 256)) (omega arith) ∙ get_or-set_same s i (v % 256) 0 (omega arith) in
    let high : le_at n (put_at n (set s i (v % 256)) (suc i) (v / 256)) (suc i) ≡ v / 256 =
    le_at-put_at n (set s i (v % 256)) (suc i) (v / 256) (rw length-set (omega arith)) (omega arith) in
    rw (low, high) (omega arith)

-- a field that ends before the stores, or begins after them, is left alone
pub le_at-sets-before : (n : ℕ) (s : List ℕ) (i j : ℕ) (vs : List ℕ) → j + n ≤ i → le_at n (sets s i vs) j ≡ le_at n s j
unfolding le_at
le_at-sets-before zero s i j vs h = refl
le_at-sets-before (suc n) s i j vs h = rw (get_d_sets_before s i j vs (omega arith), le_at-sets-before n s i (suc j) vs (omega arith))

pub le_at-sets-after : (n : ℕ) (s : List ℕ) (i j : ℕ) (vs : List ℕ) → i + length vs ≤ j → le_at n (sets s i vs) j ≡ le_at n s j
unfolding le_at
le_at-sets-after zero s i j vs h = refl
le_at-sets-after (suc n) s i j vs h = rw (get_or-sets-after s i j vs h, le_at-sets-after n s i (suc j) vs (omega arith))

-- ---- fields written one after the other

get_or-bytes_of-past : (m v : ℕ) (r : List ℕ) (i : ℕ) → m ≤ i → get_or (bytes_of m v ++ r) i 0 ≡ get_or r (i - m) 0
unfolding bytes_of
get_or-bytes_of-past zero v r i h = rw sub-zero
get_or-bytes_of-past (suc m) v r zero h = absurd (omega arith)
get_or-bytes_of-past (suc m) v r (suc i) h = rw suc-sub-suc (get_or-bytes_of-past m (v / 256) r i (omega arith))

le_at-cons : (n b : ℕ) (l : List ℕ) (i : ℕ) → le_at n (b ∷ l) (suc i) ≡ le_at n l i
unfolding le_at
le_at-cons zero b l i = refl
le_at-cons (suc n) b l i = rw (le_at-cons n b l (suc i))

-- the first field
pub field-here : (n v : ℕ) (r : List ℕ) → v < 256 ^ n → le_at n (bytes_of n v ++ r) 0 ≡ v
unfolding le_at bytes_of
field-here zero v r h = omega arith
field-here (suc n) v r h =
    let h' : v < 256 ^ n * 256 = rw pow-suc at h in
    let e : le_at n (bytes_of n (v / 256) ++ r) 0 ≡ v / 256 = field-here n (v / 256) r (omega arith) in
    rw (le_at-cons n (v % 256) (bytes_of n (v / 256) ++ r) 0, e) (omega arith)

-- a later field
pub field_past : (m n v : ℕ) (r : List ℕ) (i : ℕ) → m ≤ i → le_at n (bytes_of m v ++ r) i ≡ le_at n r (i - m)
unfolding le_at
field_past m zero v r i h = refl
field_past m (suc n) v r i h =
    rw (get_or-bytes_of-past m v r i h, field_past m n v r (suc i) (omega arith)) (ap (λ (k : ℕ). get_or r (i - m) 0 + 256 * le_at n r k) (omega arith))

-- ---- writing fields one after the other: the buffer is what was written, and then what it held

pub put_next : (p b : List ℕ) (i n v : ℕ) → length p ≡ i → i + n ≤ length b → put_at n (p ++ drop i b) i v ≡ (p ++ bytes_of n v) ++ drop (i + n) b
put_next p b i n v e h =
    let l = length-bytes_of n v in
    let d = length-drop i b in
    let long : length (p ++ drop i b) ≡ length b = length-append p (drop i b) ∙ omega arith in
    sets-eq (bytes_of n v) (p ++ drop i b) i (omega arith) ∙ rw (take_at p (drop i b) i e, l) (ap (λ (t : List ℕ). (p ++ bytes_of n v) ++ t) (ap (λ (k : ℕ). drop (k + n) (p ++ drop i b)) (sym e) ∙ drop-append-add p (drop i b) n ∙ drop-drop n i b))
