-- A row's pieces by where they begin, a level in their bytes, and the level of a run that it stands for. Assumes nothing.
use Rattle.std.specs.Prelude.{◌≡◌, refl, ℕ, zero, suc, ◌+◌, ◌-◌, ◌*◌, ◌≤◌, ◌<◌, get_or, take, drop, set}
use Rattle.std.proofs.Common.{sym, ap₂, ◌∙◌, add-zero, zero-add, arith, length-set, drop-cons, drop-drop, get_or-set_same, get_or-set_other, to_z}
use Rattle.std.proofs.Math.Path.{ap}
use mathlib.Core.List.{List, [], ◌∷◌, ◌++◌}
use Rattle.std.proofs.Math.Logic.{dite}
use Rattle.std.proofs.Math.Decide.{dec_lt}
use Rattle.std.proofs.Math.ListN.{length, length-append}
use Rattle.std.proofs.Math.Seq.{drop-append-add}
use Rattle.std.specs.Int.{w32, w64}
use Rattle.number.specs.Bytes.{le_at}
use Rattle.number.specs.Laws.{le_at-append, le_at-drop, part-rest}
use Rattle.row.specs.Row.{first_length, row_pieces, end_to_end}
use Rattle.row.specs.Laws.{pieces-joined, end_of, end_none, end-next, first-inside}
use Rattle.summary.specs.Judge.{start_at, peak_at, rise_at, fall_at, record_at}
use Rattle.run_level.specs.declared.Place.{Place}
use Rattle.run_level.specs.Levels.{piece_of, begin_of, Reads, level_in, level_at}

-- ---- where pieces begin

-- `end_of k` of the row's laws, by its definition
pub begin-is : (row : List ℕ) (k : ℕ) → begin_of row k ≡ end_of k row
unfolding end_of
begin-is row k = refl

-- The next piece begins where the one before it ends.
end-last : (k : ℕ) (s : List ℕ) → end_of (suc k) s ≡ end_of k s + first_length (drop (end_of k s) s)
end-last zero s = rw (end-next zero s, end_none s, end_none (drop (first_length s) s)) (omega arith)
end-last (suc k) s =
    let t : List ℕ = drop (first_length s) s in
    let e : end_of (suc k) s ≡ first_length s + end_of k t = end-next k s in
    let d : drop (end_of k t) t ≡ drop (end_of (suc k) s) s = drop-drop (end_of k t) (first_length s) s ∙ ap (λ (n : ℕ). drop n s) (sym e) in
    end-next (suc k) s ∙ ap (λ (n : ℕ). first_length s + n) (end-last k t ∙ ap (λ (l : List ℕ). end_of k t + first_length l) d) ∙ omega arith

-- What the loop over the pieces keeps: k of them have begun, and the next begins at `at`.
pub record Beginning (row : List ℕ) (ats : List ℕ) (at k : ℕ) : Type 0 where
  pub long : length ats ≡ 64
  pub next : at ≡ end_of k row
  pub inside : at ≤ length row
  pub each : (i : ℕ) → i < k → get_or ats i 0 ≡ begin_of row i

pub begin-start : (row : List ℕ) (ats : List ℕ) → length ats ≡ 64 → Beginning row ats 0 0
begin-start row ats l = record { long = l; next = sym (end_none row); inside = omega arith; each = λ i h. absurd (omega arith) }

pub begin-next : (row : List ℕ) (ats : List ℕ) (at k first : ℕ) → Beginning row ats at k → k < 64 → first ≡ first_length (take (length row - at) (drop at row)) → Beginning row (set ats k at) (at + first) (k + 1)
begin-next row ats at k first v h e =
    let f : first ≡ first_length (drop at row) = e ∙ ap first_length (part-rest at row) in
    let n : end_of (k + 1) row ≡ end_of k row + first_length (drop (end_of k row) row) = ap (λ (i : ℕ). end_of i row) (omega arith) ∙ end-last k row in
    record {
      long = length-set ats k at ∙ v.long;
      next = ap₂ ◌+◌ v.next (f ∙ ap (λ (i : ℕ). first_length (drop i row)) v.next) ∙ sym n;
      inside = first-inside row at first e v.inside;
      each = each;
    }
  where
    each : (i : ℕ) → i < k + 1 → get_or (set ats k at) i 0 ≡ begin_of row i
    each i l = dite (dec_lt i k)
        (λ q. get_or-set_other ats k i at 0 (omega arith) ∙ v.each i q)
        (λ q. let e : i ≡ k = omega arith in
        ap (λ (n : ℕ). get_or (set ats k at) n 0) e ∙ get_or-set_same ats k at 0 (omega (arith, v.long)) ∙ v.next ∙ sym (begin-is row k) ∙ ap (begin_of row) (sym e))

-- ---- the bytes of a piece in the row

joined-past : (ps : List (List ℕ)) (k : ℕ) → drop (length (end_to_end (take k ps))) (end_to_end ps) ≡ end_to_end (drop k ps)
joined-past ps zero = refl
joined-past [] (suc k) = refl
joined-past (p ∷ ps) (suc k) =
    ap (λ (n : ℕ). drop n (p ++ end_to_end ps)) (length-append p (end_to_end (take k ps))) ∙ drop-append-add p (end_to_end ps) (length (end_to_end (take k ps))) ∙ joined-past ps k

joined_length : (ps : List (List ℕ)) (k : ℕ) → length (end_to_end (take k ps)) + length (end_to_end (drop k ps)) ≡ length (end_to_end ps)
joined_length ps zero = zero-add _
joined_length [] (suc k) = zero-add 0
joined_length (p ∷ ps) (suc k) = omega (arith, length-append p (end_to_end (take k ps)), length-append p (end_to_end ps), joined_length ps k)

module _ (row : List ℕ) (k : ℕ) (h : k < length (row_pieces row)) where
  after-piece : List ℕ
  after-piece = end_to_end (drop (suc k) (row_pieces row))

  -- From where piece k begins on stand its bytes, and then the other pieces'.
  piece-here : drop (begin_of row k) row ≡ piece_of row k ++ after-piece
  unfolding after-piece
  piece-here =
      ap (drop (begin_of row k)) (sym (pieces-joined row)) ∙ joined-past (row_pieces row) k ∙ ap end_to_end (drop-cons (row_pieces row) k [] h)

  pub piece_inside : begin_of row k + length (piece_of row k) ≤ length row
  unfolding after-piece
  piece_inside =
      let whole : length (end_to_end (row_pieces row)) ≡ length row = ap length (pieces-joined row) in
      let rest : length (end_to_end (drop k (row_pieces row))) ≡ length (piece_of row k) + length after-piece = ap (λ (ps : List (List ℕ)). length (end_to_end ps)) (drop-cons (row_pieces row) k [] h) ∙ length-append (piece_of row k) after-piece in
      omega (arith, joined_length (row_pieces row) k)

  -- A number of the piece, in the row.
  pub piece-field : (n o : ℕ) → o + n ≤ length (piece_of row k) → le_at n row (begin_of row k + o) ≡ le_at n (piece_of row k) o
  piece-field n o l = sym (le_at-drop n (begin_of row k) row o) ∙ ap (λ (s : List ℕ). le_at n s o) piece-here ∙ le_at-append n (piece_of row k) after-piece o l

-- ---- a level of two pieces

module _ (row : List ℕ) (o c : Place) (d : ℕ) (v : Reads row o c d) where
  abbrev p : List ℕ
  p = piece_of row o.piece

  abbrev q : List ℕ
  q = piece_of row c.piece

  opener-length : length p ≡ 24 + 8 * rise_at p + 20 * fall_at p
  opener-length = v.opens.is.layout.length-fits

  -- The record of depth d lies in p, and the left value in q.
  record-in : record_at p (d - peak_at p) + 20 ≤ length p
  record-in = let n : d - peak_at p < fall_at p = omega (arith, v.opens.low, v.opens.high) in omega (arith, opener-length)

  left_in : 16 + 8 * (start_at q - suc d) + 8 ≤ length q
  left_in = let n : start_at q - suc d < rise_at q = omega (arith, v.closes.low, v.closes.high) in omega (arith, v.closes.is.layout.length-fits)

  -- Where they are read.
  abbrev a : ℕ
  a = o.at + 24 + 8 * (o.start - o.peak) + 20 * (d - o.peak)

  abbrev b : ℕ
  b = c.at + 16 + 8 * (c.start - d - 1)

  a-is : a ≡ begin_of row o.piece + record_at p (d - peak_at p)
  a-is = omega (arith, v.opener-placed.begins, v.opener-placed.start_is, v.opener-placed.peak-is)

  b-is : b ≡ begin_of row c.piece + (16 + 8 * (start_at q - suc d))
  b-is = omega (arith, v.closer-placed.begins, v.closer-placed.start_is)

  pub record-fits : a + 20 ≤ length row
  record-fits = omega (arith, record-in, piece_inside row o.piece v.opener-placed.within, a-is)

  pub left-fits : b + 8 ≤ length row
  left-fits = omega (arith, left_in, piece_inside row c.piece v.closer-placed.within, b-is)

  in-record : (n i : ℕ) → i + n ≤ 20 → le_at n row (a + i) ≡ le_at n p (record_at p (d - peak_at p) + i)
  in-record n i l =
      let e : a + i ≡ begin_of row o.piece + (record_at p (d - peak_at p) + i) = omega (arith, a-is) in
      ap (le_at n row) e ∙ piece-field row o.piece v.opener-placed.within n (record_at p (d - peak_at p) + i) (omega (arith, record-in))

  in_left : le_at 8 row b ≡ le_at 8 q (16 + 8 * (start_at q - suc d))
  in_left = ap (le_at 8 row) b-is ∙ piece-field row c.piece v.closer-placed.within 8 (16 + 8 * (start_at q - suc d)) (omega (arith, left_in))

  -- What is read there.
  pub level-read : level_in row a b ≡ level_at p q d
  unfolding level_at
  level-read i = record {
    value = (ap (to_z w32) (ap (le_at 4 row) (sym (add-zero a)) ∙ in-record 4 0 (omega arith) ∙ ap (le_at 4 p) (add-zero (record_at p (d - peak_at p))))) i;
    floor = ap (to_z w32) (in-record 4 4 (omega arith)) i;
    ceiling = ap (to_z w32) (in-record 4 8 (omega arith)) i;
    held = ap (to_z w64) (in-record 8 12 (omega arith)) i;
    left = ap (to_z w64) in_left i;
  }
