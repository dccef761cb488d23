-- The bytes of an accepted summary are a summary, and say it. Assumes nothing.
use Rattle.std.specs.Prelude.{◌≡◌, true, List, [], ◌++◌, ℕ, ◌+◌, ◌*◌, ◌≤◌, ◌<◌, length, drop}
use Rattle.std.proofs.Common.{sym, ap, subst, ◌∙◌, append-nil, arith, lit≤, lit<, of_z, to_z}
use Rattle.std.specs.Int.{w64}
use Rattle.number.specs.Bytes.{le_at, bytes_of}
use Rattle.number.specs.Laws.{field-here, field_past, length-bytes_of}
use Rattle.number.specs.FieldLaws.{behind, field-from, drop_past}
use Rattle.modes.specs.FourModes.{Amounts}
use Rattle.modes.proofs.Bound.{bound-fits}
use Rattle.figure.specs.Mode.{Mode, mode_in_use}
use Rattle.figure.specs.Stored.{mode_small, IsStored}
use Rattle.hill.specs.Summary.{hill, Summary, blank, part, spoilt, whole}
use Rattle.hill.specs.Valid.{weight, ValidHill, ValidSpoilt, ValidSummary}
use Rattle.hill.proofs.ValidLaws.{hill-length}
use Rattle.summary.specs.Layout.{i64_bytes, left_bytes, right_bytes, hill_bytes, layout}
use Rattle.summary.specs.Judge.{length_at, kind_at, mode_at, opened_at, rise_at, fall_at, middle_at, HasLayout, IsSummary, is_blank, is_spoilt, is_hill}
use Rattle.summary.specs.Decode.{hill_in, reading, lefts_in, rights_in}
use Rattle.summary.proofs.ModeValues.{Numbered}
use Rattle.summary.proofs.Hills.{AllStored, valid-hill}
use Rattle.summary.proofs.ReadBack.{left-length, layout-length, figure-back, stored, LeftsBack, lefts-back, RightsBack, rights-back}

-- What is read of a head: length, kind, mode, three numbers of 16 bits and one of 32, and what follows.
record Head (b : List ℕ) (n kind m x y z o : ℕ) (rest : List ℕ) : Type 0 where
  length-is : length_at b ≡ n
  kind-is : kind_at b ≡ kind
  mode-is : mode_at b ≡ m
  first-is : le_at 2 b 6 ≡ x
  second_is : le_at 2 b 8 ≡ y
  third-is : le_at 2 b 10 ≡ z
  opened-is : opened_at b ≡ o
  rest-is : drop 16 b ≡ rest

head : (n kind m x y z o : ℕ) (rest : List ℕ) → n < 65536 → kind < 65536 → m < 65536 → x < 65536 → y < 65536 → z < 65536 → o < 4294967296 →
    Head (bytes_of 2 n ++ (bytes_of 2 kind ++ (bytes_of 2 m ++ (bytes_of 2 x ++ (bytes_of 2 y ++ (bytes_of 2 z ++ (bytes_of 4 o ++ rest))))))) n kind m x y z o rest
head n kind m x y z o rest hn hk hm hx hy hz ho =
    record {
      length-is = field-here 2 n _ hn;
      kind-is = simp (field_past, lit≤, tt {0}) (field-here 2 kind _ hk);
      mode-is = simp (field_past, lit≤, tt {0}) (field-here 2 m _ hm);
      first-is = simp (field_past, lit≤, tt {0}) (field-here 2 x _ hx);
      second_is = simp (field_past, lit≤, tt {0}) (field-here 2 y _ hy);
      third-is = simp (field_past, lit≤, tt {0}) (field-here 2 z _ hz);
      opened-is = simp (field_past, lit≤, tt {0}) (field-here 4 o _ ho);
      rest-is = simp (drop_past, lit≤, tt {0});
    }

-- The bytes b are a summary in mode m, and say s.
pub record Says (M : Mode) (m : ℕ) (b : List ℕ) (s : Summary M.algebra.Fig Amounts) : Type 0 where
  pub mode-is : mode_at b ≡ m
  pub is : IsSummary b
  pub back : reading M.read b ≡ s

module _ (M : Mode) (m : ℕ) (N : Numbered m M) (u : mode_in_use m ≡ true) (b : List ℕ) where
  has-layout : (n kind x y z o : ℕ) (rest : List ℕ) → Head b n kind m x y z o rest → length b ≡ n → HasLayout b kind n
  has-layout n kind x y z o rest h l = record {
    kind_fits = h.kind-is;
    length-fits = l;
    length-said = h.length-is ∙ sym l;
    mode-fits = ap mode_in_use h.mode-is ∙ u;
  }

  says-spoilt : (f s e o : ℕ) (rest : List ℕ) → ValidSpoilt f s e o → Head b 16 17 m f s e o rest → length b ≡ 16 → Says M m b (part (spoilt f s e o))
  says-spoilt f s e o rest v h l = record {
    mode-is = h.mode-is;
    is = is_spoilt (record {
      layout = has-layout 16 17 f s e o rest h l;
      fault-low = rw h.first-is v.low-fault;
      fault-high = rw h.first-is v.high-fault;
      start-high = rw h.second_is v.start-high;
      end-high = rw h.third-is v.end-high;
      opened-few = rw h.opened-is v.few;
      opened-more = rw (h.first-is, h.opened-is) v.many;
    });
    back = rw h.kind-is (λ i. part (spoilt (h.first-is i) (h.second_is i) (h.third-is i) (h.opened-is i)));
  }

  module _ (p o : ℕ) (us : List M.algebra.Fig) (w : M.algebra.Fig) (ds : List (Amounts × M.algebra.Fig))
      (v : ValidHill M.algebra M.sizes p o (hill us w ds))
      (h : Head b (24 + 8 * length us + 20 * length ds) 18 m (p + length us) p (p + length ds) o (hill_bytes M.store (hill us w ds)))
      (l : length b ≡ 24 + 8 * length us + 20 * length ds) where
    light : weight M.algebra M.sizes (hill us w ds) ≤ 100000000000000
    light = bound-fits M.sizes.unit o (weight M.algebra M.sizes (hill us w ds)) M.unit-small v.few v.light

    rise-is : rise_at b ≡ length us
    rise-is = omega (arith, h.first-is, h.second_is)

    fall-is : fall_at b ≡ length ds
    fall-is = omega (arith, h.third-is, h.second_is)

    middle-from : drop (16 + 8 * rise_at b) b ≡ i64_bytes (M.store w) ++ right_bytes M.store ds
    middle-from =
        subst (λ (n : ℕ). drop (16 + 8 * n) b ≡ i64_bytes (M.store w) ++ right_bytes M.store ds) (sym rise-is)
        (behind 16 (8 * length us) b (left_bytes M.store us) (i64_bytes (M.store w) ++ right_bytes M.store ds) h.rest-is (left-length M.store us))

    rights-from : drop (24 + 8 * rise_at b) b ≡ right_bytes M.store ds ++ []
    rights-from =
        let e : 16 + 8 * rise_at b + 8 ≡ 24 + 8 * rise_at b = omega arith in
        ap (λ (n : ℕ). drop n b) (sym e) ∙ behind (16 + 8 * rise_at b) 8 b (i64_bytes (M.store w)) (right_bytes M.store ds) middle-from (length-bytes_of 8 (of_z w64 (M.store w))) ∙ sym (append-nil (right_bytes M.store ds))

    middle-is : middle_at b ≡ M.store w
    middle-is = ap (to_z w64) (field-from 8 (16 + 8 * rise_at b) b _ middle-from) ∙ figure-back M w (right_bytes M.store ds) (omega (arith, light))

    lefts-are : LeftsBack M b us
    lefts-are = lefts-back M b us (i64_bytes (M.store w) ++ right_bytes M.store ds) h.rest-is (omega (arith, light))

    rights-are : RightsBack M b ds
    rights-are = rights-back M b ds [] rights-from v.fine (omega (arith, light))

    hill-is : hill_in M.read b ≡ hill us w ds
    hill-is =
        let x : lefts_in M.read b (rise_at b) ≡ us = ap (lefts_in M.read b) rise-is ∙ lefts-are.back in
        let y : M.read (middle_at b) ≡ w = ap M.read middle-is ∙ M.read_back w (omega (arith, light)) in
        let z : rights_in M.read b (fall_at b) ≡ ds = ap (rights_in M.read b) fall-is ∙ rights-are.back in
        λ i. hill (x i) (y i) (z i)

    all-stored : AllStored M b
    all-stored = record {
      lefts = λ i k. lefts-are.all i (omega (arith, rise-is));
      middle = subst (IsStored M) (sym middle-is) (stored M w (omega (arith, light)));
      helds = λ j k. rights-are.all j (omega (arith, fall-is));
    }

    says-hill : Says M m b (part (whole p o (hill us w ds)))
    says-hill =
        let n : 24 + 8 * length us + 20 * length ds ≡ 24 + 8 * rise_at b + 20 * fall_at b = omega (arith, rise-is, fall-is) in
        record {
          mode-is = h.mode-is;
          is = is_hill (valid-hill M b (subst (λ (k : ℕ). Numbered k M) (sym h.mode-is) N)
              (subst (HasLayout b 18) n (has-layout (24 + 8 * length us + 20 * length ds) 18 (p + length us) p (p + length ds) o (hill_bytes M.store (hill us w ds)) h l))
              (omega (arith, h.first-is, h.second_is)) (omega (arith, h.third-is, h.second_is)) all-stored
              (rw (hill-is, h.second_is, h.opened-is) v));
          back = rw h.kind-is (λ i. part (whole (h.second_is i) (h.opened-is i) (hill-is i)));
        }

module _ (M : Mode) (m : ℕ) (N : Numbered m M) (u : mode_in_use m ≡ true) where
  pub says : (s : Summary M.algebra.Fig Amounts) → ValidSummary M.algebra M.sizes s → Says M m (layout M.store m s) s
  says blank v =
      let k : kind_at (layout M.store m blank) ≡ 16 = simp (field_past, lit≤, tt {0}) (field-here 2 16 _ (lit< tt)) in
      let e : mode_at (layout M.store m blank) ≡ m = simp (field_past, lit≤, tt {0}) (field-here 2 m [] (omega (arith, mode_small m u))) in
      record {
        mode-is = e;
        is = is_blank (record {
          kind_fits = k;
          length-fits = layout-length M.store m blank;
          length-said = field-here 2 6 _ (lit< tt) ∙ sym (layout-length M.store m blank);
          mode-fits = ap mode_in_use e ∙ u;
        });
        back = rw k;
      }
  says (part (spoilt f s e o)) v =
      let b : List ℕ = layout M.store m (part (spoilt f s e o)) in
      let h : Head b 16 17 m f s e o [] =
      rw (append-nil (bytes_of 4 o)) at (head 16 17 m f s e o [] (lit< tt) (lit< tt) (omega (arith, mode_small m u)) (omega (arith, v.high-fault)) (omega (arith, v.start-high)) (omega (arith, v.end-high)) (omega (arith, v.few))) in
      says-spoilt M m N u b f s e o [] v h (layout-length M.store m (part (spoilt f s e o)))
  says (part (whole p o (hill us w ds))) v =
      says-hill M m N u (layout M.store m (part (whole p o (hill us w ds)))) p o us w ds v
      (head (24 + 8 * length us + 20 * length ds) 18 m (p + length us) p (p + length ds) o (hill_bytes M.store (hill us w ds))
      (omega (arith, hill-length M.algebra M.sizes p o (hill us w ds) v)) (lit< tt) (omega (arith, mode_small m u)) (omega (arith, v.start-high)) (omega (arith, v.start-high)) (omega (arith, v.end-high)) (omega (arith, v.few)))
      (layout-length M.store m (part (whole p o (hill us w ds))))
