-- An accepted summary is read back from its bytes, each of which is what Layout says. Assumes nothing.
use Rattle.std.specs.Prelude.{◌≡◌, refl, List, [], ◌∷◌, ◌++◌, ℕ, ◌+◌, ◌*◌, ◌^◌, ◌≤◌, ◌<◌, length, drop, ℤ, nat_abs}
use Rattle.std.proofs.Common.{sym, subst, ◌∙◌, append_assoc, arith, lit≤, length-append, SFits, of_z, to_z, to_z-of_z}
use Rattle.std.proofs.Math.Path.{ap}
use Rattle.std.specs.Int.{w32, w64}
use Rattle.std.proofs.Math.Facts.{Fits-of_z}
use Rattle.number.specs.Bytes.{AllBytes, le_at}
use Rattle.number.specs.Laws.{field-here, field_past, length-bytes_of}
use Rattle.number.specs.IntegerLaws.{sfits-abs}
use Rattle.number.specs.FieldLaws.{bytes-nil, bytes-append, bytes-bytes_of, behind, field-from, field-further}
use Rattle.modes.specs.FourModes.{Amounts, InRange, limit}
use Rattle.figure.specs.Mode.{Mode}
use Rattle.figure.specs.Stored.{IsStored}
use Rattle.hill.specs.Summary.{Hill, hill, Summary, blank, part, spoilt, whole, rise, fall}
use Rattle.hill.specs.Valid.{weight_up, weight_down, AllFine}
use Rattle.summary.specs.Layout.{i32_bytes, i64_bytes, left_bytes, record_bytes, right_bytes, hill_bytes, length_of, body, layout}
use Rattle.summary.specs.Judge.{rise_at, left_at, record_at, held_at}
use Rattle.summary.specs.Decode.{amounts_at, lefts_in, rights_in}
use Rattle.summary.proofs.Tests.{one_more}

-- ---- lengths

module _ {Fig : Type 0} (store : Fig → ℤ) where
  pub left-length : (u : List Fig) → length (left_bytes store u) ≡ 8 * length u
  left-length [] = refl
  left-length (v ∷ u) = simp (length-append, length-bytes_of, left-length u) (omega arith)

  pub right-length : (d : List (Amounts × Fig)) → length (right_bytes store d) ≡ 20 * length d
  right-length [] = refl
  right-length (e ∷ d) = simp (length-append, length-bytes_of, right-length d) (omega arith)

  hill-length' : (h : Hill Fig Amounts) → length (hill_bytes store h) ≡ 8 + 8 * rise h + 20 * fall h
  hill-length' (hill u v d) = simp (length-append, length-bytes_of, left-length, right-length) (omega arith)

  body-length : (s : Summary Fig Amounts) → 6 + length (body store s) ≡ length_of s
  body-length blank = refl
  body-length (part (spoilt f s e o)) = simp (length-append, length-bytes_of)
  body-length (part (whole p o h)) = simp (length-append, length-bytes_of, hill-length' h) (omega arith)

  -- the length field says the length
  pub layout-length : (m : ℕ) (s : Summary Fig Amounts) → length (layout store m s) ≡ length_of s
  layout-length m s = simp (length-append, length-bytes_of) (omega (arith, body-length s))

  -- ---- the bytes of a summary are bytes

  left-bytes : (u : List Fig) → AllBytes (left_bytes store u)
  left-bytes [] = bytes-nil
  left-bytes (v ∷ u) = search (bytes-append, bytes-bytes_of, left-bytes u)

  right-bytes : (d : List (Amounts × Fig)) → AllBytes (right_bytes store d)
  right-bytes [] = bytes-nil
  right-bytes (e ∷ d) = search (bytes-append, bytes-bytes_of, right-bytes d)

  hill-bytes : (h : Hill Fig Amounts) → AllBytes (hill_bytes store h)
  hill-bytes (hill u v d) = search (bytes-append, bytes-bytes_of, left-bytes, right-bytes)

  body_bytes : (s : Summary Fig Amounts) → AllBytes (body store s)
  body_bytes blank = bytes-nil
  body_bytes (part (spoilt f s e o)) = search (bytes-append, bytes-bytes_of)
  body_bytes (part (whole p o h)) = search (bytes-append, bytes-bytes_of, hill-bytes)

  pub layout-bytes : (m : ℕ) (s : Summary Fig Amounts) → AllBytes (layout store m s)
  layout-bytes m s = search (bytes-append, bytes-bytes_of, body_bytes)

-- ---- one number

grams-back : (z : ℤ) (x : List ℕ) → nat_abs z ≤ limit → to_z w32 (le_at 4 (i32_bytes z ++ x) 0) ≡ z
grams-back z x h =
    let f : SFits w32 z = sfits-abs w32 z (omega arith) in
    rw (field-here 4 (of_z w32 z) x (Fits-of_z f).fits) (to_z-of_z f)

pub number-back : (z : ℤ) (x : List ℕ) → SFits w64 z → to_z w64 (le_at 8 (i64_bytes z ++ x) 0) ≡ z
number-back z x f = rw (field-here 8 (of_z w64 z) x (Fits-of_z f).fits) (to_z-of_z f)

module _ (M : Mode) where
  abbrev pub Small : M.algebra.Fig → Type 0
  Small v = M.sizes.size v < 2 ^ 63

  pub figure-back : (v : M.algebra.Fig) (x : List ℕ) → Small v → to_z w64 (le_at 8 (i64_bytes (M.store v) ++ x) 0) ≡ M.store v
  figure-back v x h = number-back (M.store v) x (M.store-fits v h)

  pub stored : (v : M.algebra.Fig) → Small v → IsStored M (M.store v)
  unfolding IsStored
  stored v h = ap M.store (M.read_back v h)

  -- ---- the slopes: what is written from a on is read back

  pub record LeftsBack (b : List ℕ) (u : List M.algebra.Fig) : Type 0 where
    pub back : lefts_in M.read b (length u) ≡ u
    pub all : (i : ℕ) → i < length u → IsStored M (left_at b i)

  pub lefts-back : (b : List ℕ) (u : List M.algebra.Fig) (x : List ℕ) → drop 16 b ≡ left_bytes M.store u ++ x → weight_up M.algebra M.sizes u < 2 ^ 63 → LeftsBack b u
  lefts-back b [] x e w = record { back = refl; all = λ i l. absurd (omega arith) }
  lefts-back b (v ∷ u) x e w =
      let small : Small v = omega arith in
      let e' : drop 16 b ≡ left_bytes M.store u ++ (i64_bytes (M.store v) ++ x) = e ∙ append_assoc (left_bytes M.store u) (i64_bytes (M.store v)) x in
      let here : left_at b (length u) ≡ M.store v =
      ap (to_z w64) (field-from 8 (16 + 8 * length u) b _ (behind 16 (8 * length u) b (left_bytes M.store u) (i64_bytes (M.store v) ++ x) e' (left-length M.store u))) ∙ figure-back v x small in
      let rest = lefts-back b u (i64_bytes (M.store v) ++ x) e' (omega arith) in
      record {
        back = λ i. (ap M.read here ∙ M.read_back v small) i ∷ rest.back i;
        all = one_more (λ (i : ℕ). IsStored M (left_at b i)) (length u) rest.all (subst (IsStored M) (sym here) (stored v small));
      }

  pub record RightsBack (b : List ℕ) (d : List (Amounts × M.algebra.Fig)) : Type 0 where
    pub back : rights_in M.read b (length d) ≡ d
    pub all : (j : ℕ) → j < length d → IsStored M (held_at b j)

  -- the record that begins at k
  module _ (b : List ℕ) (k : ℕ) (e : Amounts × M.algebra.Fig) (x : List ℕ) (at : drop k b ≡ record_bytes M.store e ++ x) (r : InRange e.0) (small : Small e.1) where
    value-back : to_z w32 (le_at 4 b k) ≡ e.0.value
    value-back = ap (to_z w32) (field-from 4 k b _ at) ∙ simp append_assoc (grams-back e.0.value _ r.value_in)

    floor-back : to_z w32 (le_at 4 b (k + 4)) ≡ e.0.floor
    floor-back = ap (to_z w32) (field-further 4 k 4 b _ at) ∙ simp (append_assoc, field_past, lit≤, tt {0}) (grams-back e.0.floor _ r.floor-in)

    ceiling-back : to_z w32 (le_at 4 b (k + 8)) ≡ e.0.ceiling
    ceiling-back = ap (to_z w32) (field-further 4 k 8 b _ at) ∙ simp (append_assoc, field_past, lit≤, tt {0}) (grams-back e.0.ceiling _ r.ceiling-in)

    held_back : to_z w64 (le_at 8 b (k + 12)) ≡ M.store e.1
    held_back = ap (to_z w64) (field-further 8 k 12 b _ at) ∙ simp (append_assoc, field_past, lit≤, tt {0}) (figure-back e.1 _ small)

  pub rights-back : (b : List ℕ) (d : List (Amounts × M.algebra.Fig)) (x : List ℕ) → drop (24 + 8 * rise_at b) b ≡ right_bytes M.store d ++ x →
      AllFine M.algebra M.sizes d → weight_down M.algebra M.sizes d < 2 ^ 63 → RightsBack b d
  rights-back b [] x at f w = record { back = refl; all = λ i l. absurd (omega arith) }
  rights-back b (e ∷ d) x at f w =
      let small : Small e.1 = omega arith in
      let at' : drop (24 + 8 * rise_at b) b ≡ right_bytes M.store d ++ (record_bytes M.store e ++ x) = at ∙ append_assoc (right_bytes M.store d) (record_bytes M.store e) x in
      let k : ℕ = record_at b (length d) in
      let here : drop k b ≡ record_bytes M.store e ++ x = behind (24 + 8 * rise_at b) (20 * length d) b (right_bytes M.store d) (record_bytes M.store e ++ x) at' (right-length M.store d) in
      let amounts : amounts_at b (length d) ≡ e.0 = λ i. record { value = value-back b k e x here f.0 small i; floor = floor-back b k e x here f.0 small i; ceiling = ceiling-back b k e x here f.0 small i } in
      let held : held_at b (length d) ≡ M.store e.1 = held_back b k e x here f.0 small in
      let rest = rights-back b d (record_bytes M.store e ++ x) at' f.1 (omega arith) in
      record {
        back = λ i. (amounts i, (ap M.read held ∙ M.read_back e.1 small) i) ∷ rest.back i;
        all = one_more (λ (j : ℕ). IsStored M (held_at b j)) (length d) rest.all (subst (IsStored M) (sym held) (stored e.1 small));
      }
