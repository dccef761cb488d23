-- A record's bytes, layout by layout: they are read back, and a record that was read has just these bytes. Assumes nothing.
use Rattle.std.specs.Prelude.{◌≡◌, true, ℕ, ◌^◌, ◌≤◌, ◌<◌, length, drop, ℤ}
use Rattle.std.proofs.Common.{sym, ap, ◌∙◌, arith, length-append, drop_of_length-le, drop_at, lit<}
use mathlib.Core.List.{List, [], ◌∷◌, ◌++◌, append_assoc}
use Rattle.std.proofs.Math.Dec.{lit≤}
use mir.Syntax.{w32}
use mir.Val.{SFits, to_z, of_z}
use Rattle.std.proofs.Math.Facts.{Fits-of_z, to_z-of_z}
use borrow.Author.Tests.{le-leb}
use Rattle.gate.specs.Outcome.{granted}
use Rattle.number.specs.Bytes.{AllBytes, le_at, bytes_of, i32_at}
use Rattle.number.specs.Laws.{le_at-lt, field-here, field_past, length-bytes_of}
use Rattle.number.specs.FieldLaws.{split-field, split-signed, bytes-append, bytes_drop, bytes-bytes_of}
use Rattle.number.specs.IntegerLaws.{sfits-abs}
use Rattle.record.specs.Record.{within, in_range, accepted, whole, by_shape, read_of, before, records_of, default_floor, default_ceiling, open_front, open_bytes, batch_bytes, short_bytes, close_bytes, fields_bytes, full_fields, short_fields, close_fields, chunk_bytes}
use Rattle.record.proofs.Laws.{within-size, Sound, sound, Shape, full, short, batched, closed, shape, records-nil, records-next}
use Rattle.record.proofs.RangeLaws.{range-parts, close-in-range}
use Rattle.record.proofs.Readable.{First, first_read, none_read}
use Rattle.record.specs.declared.Fields.{Fields}
use Rattle.record.specs.declared.Kind.TheVariants as kind

front_length : (n d : ℕ) (v l h : ℤ) → length (open_front n d v l h) ≡ 18
front_length n d v l h = simp (length-append, length-bytes_of)

pub open-length : (d : ℕ) (v l h : ℤ) → length (open_bytes d v l h) ≡ 18
open-length d v l h = front_length 18 d v l h

pub batch-length : (d : ℕ) (v l h : ℤ) (b : ℕ) → length (batch_bytes d v l h b) ≡ 22
batch-length d v l h b = omega (arith, length-append (open_front 22 d v l h) (bytes_of 4 b), front_length 22 d v l h, length-bytes_of 4 b)

pub short-length : (d : ℕ) (v : ℤ) → length (short_bytes d v) ≡ 10
short-length d v = simp (length-append, length-bytes_of)

pub close-length : (d : ℕ) → length (close_bytes d) ≡ 6
close-length d = simp (length-append, length-bytes_of)

pub open-bytes : (d : ℕ) (v l h : ℤ) → AllBytes (open_bytes d v l h)
open-bytes d v l h =
    bytes-append (bytes_of 2 18) _ (bytes-bytes_of 2 18) (bytes-append (bytes_of 2 1) _ (bytes-bytes_of 2 1) (bytes-append (bytes_of 2 d) _ (bytes-bytes_of 2 d)
    (bytes-append (bytes_of 4 (of_z w32 v)) _ (bytes-bytes_of 4 _) (bytes-append (bytes_of 4 (of_z w32 l)) _ (bytes-bytes_of 4 _) (bytes-bytes_of 4 _)))))

pub short-bytes : (d : ℕ) (v : ℤ) → AllBytes (short_bytes d v)
short-bytes d v = bytes-append (bytes_of 2 10) _ (bytes-bytes_of 2 10) (bytes-append (bytes_of 2 1) _ (bytes-bytes_of 2 1) (bytes-append (bytes_of 2 d) _ (bytes-bytes_of 2 d) (bytes-bytes_of 4 _)))

pub close-bytes : (d : ℕ) → AllBytes (close_bytes d)
close-bytes d = bytes-append (bytes_of 2 6) _ (bytes-bytes_of 2 6) (bytes-append (bytes_of 2 2) _ (bytes-bytes_of 2 2) (bytes-bytes_of 2 d))

-- a number of grams within the limits fits its field
pub fits-grams : (z : ℤ) → within z ≡ true → SFits w32 z
fits-grams z e = sfits-abs w32 z (omega (arith, within-size z e))

-- ---- whatever bytes r follow, the record that was written is the first that is read

-- the first 18 bytes of an open record, field by field
record FrontRead (s : List ℕ) (n d : ℕ) (v l h : ℤ) : Type 0 where
  long : 18 ≤ length s
  len : le_at 2 s 0 ≡ n
  kind : le_at 2 s 2 ≡ 1
  depth : le_at 2 s 4 ≡ d
  value : i32_at s 6 ≡ v
  floor : i32_at s 10 ≡ l
  ceiling : i32_at s 14 ≡ h

front_read : (n d : ℕ) (v l h : ℤ) (r : List ℕ) → n < 65_536 → in_range d v l h ≡ true → FrontRead (open_front n d v l h ++ r) n d v l h
front_read n d v l h r small ok =
    let p = range-parts d v l h ok in
    let fv = fits-grams v p.value in
    let fl = fits-grams l p.floor in
    let fh = fits-grams h p.ceiling in
    let e6 : le_at 4 (open_front n d v l h ++ r) 6 ≡ of_z w32 v = simp (append_assoc, field_past, lit≤, tt {0}) (field-here 4 (of_z w32 v) _ (Fits-of_z fv).fits) in
    let e10 : le_at 4 (open_front n d v l h ++ r) 10 ≡ of_z w32 l = simp (append_assoc, field_past, lit≤, tt {0}) (field-here 4 (of_z w32 l) _ (Fits-of_z fl).fits) in
    let e14 : le_at 4 (open_front n d v l h ++ r) 14 ≡ of_z w32 h = simp (append_assoc, field_past, lit≤, tt {0}) (field-here 4 (of_z w32 h) _ (Fits-of_z fh).fits) in
    record {
      long = omega (arith, length-append (open_front n d v l h) r, front_length n d v l h);
      len = simp append_assoc (field-here 2 n _ small);
      kind = simp (append_assoc, field_past, lit≤, tt {0}) (field-here 2 1 _ (lit< tt));
      depth = simp (append_assoc, field_past, lit≤, tt {0}) (field-here 2 d _ (omega (arith, p.depth)));
      value = ap (to_z w32) e6 ∙ to_z-of_z fv;
      floor = ap (to_z w32) e10 ∙ to_z-of_z fl;
      ceiling = ap (to_z w32) e14 ∙ to_z-of_z fh;
    }

module _ (d : ℕ) (v l h : ℤ) (r : List ℕ) (ok : in_range d v l h ≡ true) where
  pub read-open : read_of (open_bytes d v l h ++ r) ≡ granted (full_fields d v l h)
  unfolding read_of by_shape whole accepted
  read-open =
      let f = front_read 18 d v l h r (lit< tt) ok in
      rw (f.kind, f.len, le-leb 18 _ f.long, f.depth, f.value, f.floor, f.ceiling, ok)

  module _ (b : ℕ) (small : b < 2 ^ 32) where
    four : le_at 4 (open_front 22 d v l h ++ (bytes_of 4 b ++ r)) 18 ≡ b
    four = simp (append_assoc, field_past, lit≤, tt {0}) (field-here 4 b _ small)

    long-batch : 22 ≤ length (open_front 22 d v l h ++ (bytes_of 4 b ++ r))
    long-batch = omega (arith, length-append (open_front 22 d v l h) (bytes_of 4 b ++ r), front_length 22 d v l h, length-append (bytes_of 4 b) r, length-bytes_of 4 b)

    pub read-with-batch : read_of (batch_bytes d v l h b ++ r) ≡ granted (record { kind = kind.Open; length = 22; depth = d; value = v; floor = l; ceiling = h; batch = b })
    unfolding read_of by_shape whole accepted
    read-with-batch =
        let f = front_read 22 d v l h (bytes_of 4 b ++ r) (lit< tt) ok in
        rw (append_assoc (open_front 22 d v l h) (bytes_of 4 b) r, f.kind, f.len, le-leb 22 _ long-batch, f.depth, f.value, f.floor, f.ceiling, four, ok)

module _ (d : ℕ) (v : ℤ) (r : List ℕ) where
  long-short : 10 ≤ length (short_bytes d v ++ r)
  long-short = omega (arith, length-append (short_bytes d v) r, short-length d v)

  pub read-short-open : in_range d v default_floor default_ceiling ≡ true → read_of (short_bytes d v ++ r) ≡ granted (short_fields d v)
  unfolding read_of by_shape whole accepted
  read-short-open ok =
      let p = range-parts d v default_floor default_ceiling ok in
      let fv = fits-grams v p.value in
      let e0 : le_at 2 (short_bytes d v ++ r) 0 ≡ 10 = simp append_assoc (field-here 2 10 _ (lit< tt)) in
      let e2 : le_at 2 (short_bytes d v ++ r) 2 ≡ 1 = simp (append_assoc, field_past, lit≤, tt {0}) (field-here 2 1 _ (lit< tt)) in
      let e4 : le_at 2 (short_bytes d v ++ r) 4 ≡ d = simp (append_assoc, field_past, lit≤, tt {0}) (field-here 2 d _ (omega (arith, p.depth))) in
      let e6 : le_at 4 (short_bytes d v ++ r) 6 ≡ of_z w32 v = simp (append_assoc, field_past, lit≤, tt {0}) (field-here 4 (of_z w32 v) _ (Fits-of_z fv).fits) in
      rw (e2, e0, le-leb 10 _ long-short, e4, e6, to_z-of_z fv, ok)

module _ (d : ℕ) (r : List ℕ) where
  long-close : 6 ≤ length (close_bytes d ++ r)
  long-close = omega (arith, length-append (close_bytes d) r, close-length d)

  pub read-close : d ≤ 63 → read_of (close_bytes d ++ r) ≡ granted (close_fields d)
  unfolding read_of by_shape whole accepted
  read-close low =
      let e0 : le_at 2 (close_bytes d ++ r) 0 ≡ 6 = simp append_assoc (field-here 2 6 _ (lit< tt)) in
      let e2 : le_at 2 (close_bytes d ++ r) 2 ≡ 2 = simp (append_assoc, field_past, lit≤, tt {0}) (field-here 2 2 _ (lit< tt)) in
      let e4 : le_at 2 (close_bytes d ++ r) 4 ≡ d = simp (append_assoc, field_past, lit≤, tt {0}) (field-here 2 d _ (omega arith)) in
      rw (e2, e0, le-leb 6 _ long-close, e4, close-in-range d low)

-- ---- bytes that have a record's layout are the bytes of that record, and what follows

module _ (s : List ℕ) (all : AllBytes s) where
  head-again : (n k : ℕ) → 4 ≤ length s → le_at 2 s 0 ≡ n → le_at 2 s 2 ≡ k → bytes_of 2 n ++ (bytes_of 2 k ++ drop 4 s) ≡ s
  head-again n k h en ek =
      rw (← en, ← ek, split-field 2 2 s all (omega arith)) (split-field 2 0 s all (omega arith))

  front-again : (n : ℕ) → 18 ≤ length s → le_at 2 s 0 ≡ n → le_at 2 s 2 ≡ 1 → open_front n (le_at 2 s 4) (i32_at s 6) (i32_at s 10) (i32_at s 14) ++ drop 18 s ≡ s
  front-again n h e0 e2 =
      simp append_assoc
      (rw (split-signed 14 s all h, split-signed 10 s all (omega arith), split-signed 6 s all (omega arith), split-field 2 4 s all (omega arith))
      (head-again n 1 (omega arith) e0 e2))

  -- a record that was read has just the bytes of its fields
  shape-again : (f : Fields) → f.length ≤ length s → Shape s f → fields_bytes f ++ drop f.length s ≡ s
  shape-again f h (full e0 e2) = front-again 18 h e0 e2
  shape-again f h (short e0 e2) =
      simp append_assoc (rw (split-signed 6 s all h, split-field 2 4 s all (omega arith)) (head-again 10 1 (omega arith) e0 e2))
  shape-again f h (batched e0 e2) =
      append_assoc (open_front 22 (le_at 2 s 4) (i32_at s 6) (i32_at s 10) (i32_at s 14)) (bytes_of 4 (le_at 4 s 18)) (drop 22 s)
      ∙ ap (λ (t : List ℕ). open_front 22 (le_at 2 s 4) (i32_at s 6) (i32_at s 10) (i32_at s 14) ++ t) (split-field 4 18 s all h)
      ∙ front-again 22 (omega arith) e0 e2
  shape-again f h (closed e0 e2) = simp append_assoc (rw (split-field 2 4 s all h) (head-again 6 2 (omega arith) e0 e2))

  pub bytes-again : (f : Fields) → read_of s ≡ granted f → fields_bytes f ++ drop f.length s ≡ s
  bytes-again f e = shape-again f (sound s f e).inside (shape s f e)

  -- and whatever follows these bytes, they are read as that record
  shape-back : (r : List ℕ) (f : Fields) → Sound s f → Shape s f → read_of (fields_bytes f ++ r) ≡ granted f
  shape-back r f z (full e0 e2) = read-open _ _ _ _ r z.ranged
  shape-back r f z (short e0 e2) = read-short-open _ _ r z.ranged
  shape-back r f z (batched e0 e2) = read-with-batch _ _ _ _ r z.ranged (le_at 4 s 18) (le_at-lt 4 s 18 all)
  shape-back r f z (closed e0 e2) = read-close _ r (range-parts _ _ _ _ z.ranged).depth

  pub read_back : (f : Fields) (r : List ℕ) → read_of s ≡ granted f → read_of (fields_bytes f ++ r) ≡ granted f
  read_back f r e = shape-back r f (sound s f e) (shape s f e)

-- ---- the bytes of a readable chunk are those of its records

pub chunk-again : (fs : List Fields) (b : List ℕ) → AllBytes b → records_of b ≡ granted fs → chunk_bytes fs ≡ b
chunk-again [] b all e = sym (drop_of_length-le b {i = 0} (omega (arith, none_read b e)))
chunk-again (f ∷ fs) b all e =
    let w : First b f fs = first_read b f fs e in
    ap (λ (t : List ℕ). fields_bytes f ++ t) (chunk-again fs (drop f.length b) (bytes_drop f.length b all) w.rest) ∙ bytes-again b all f w.here

-- ---- and if each record is read back from its bytes, whatever follows, so are all of them from theirs

pub record Reread (f : Fields) : Type 0 where
  pub long : length (fields_bytes f) ≡ f.length
  pub reads : (r : List ℕ) → read_of (fields_bytes f ++ r) ≡ granted f

pub open-back : (d : ℕ) (v l h : ℤ) → in_range d v l h ≡ true → Reread (full_fields d v l h)
open-back d v l h ok = record { long = open-length d v l h; reads = λ r. read-open d v l h r ok }

pub short_back : (d : ℕ) (v : ℤ) → in_range d v default_floor default_ceiling ≡ true → Reread (short_fields d v)
short_back d v ok = record { long = short-length d v; reads = λ r. read-short-open d v r ok }

pub close-back : (d : ℕ) → d ≤ 63 → Reread (close_fields d)
close-back d low = record { long = close-length d; reads = λ r. read-close d r low }

abbrev pub AllReread : List Fields → Type 0
AllReread [] = Unit {0}
AllReread (f ∷ fs) = Reread f × AllReread fs

pub chunk_read : (fs : List Fields) → AllReread fs → records_of (chunk_bytes fs) ≡ granted fs
chunk_read [] h = records-nil
chunk_read (f ∷ fs) h =
    records-next (fields_bytes f ++ chunk_bytes fs) f (h.0.reads (chunk_bytes fs))
    ∙ ap (λ (b : List ℕ). before f (records_of b)) (drop_at (fields_bytes f) (chunk_bytes fs) f.length h.0.long)
    ∙ ap (before f) (chunk_read fs h.1)
