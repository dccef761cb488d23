-- The bytes of a table and its lines: one is read from the other, both ways. Assumes nothing.
use Rattle.std.specs.Prelude.{◌≡◌, refl, true, List, [], ◌∷◌, ◌++◌, ℕ, zero, suc, ◌*◌, ◌/◌, ◌%◌, ◌≤◌, ◌<◌, length, drop}
use Rattle.std.proofs.Common.{sym, ap, ◌∙◌, append_assoc, arith, lit≤, length-append, length-drop, drop_of_length-le, drop_at, of_z, to_z-of_z}
use Rattle.std.specs.Int.{w32}
use Rattle.std.proofs.Math.Facts.{Fits-of_z}
use Rattle.number.specs.Bytes.{AllBytes, le_at, bytes_of}
use Rattle.number.specs.Laws.{field-here, field_past, length-bytes_of}
use Rattle.number.specs.FieldLaws.{bytes_drop, split-field, split-signed, bytes-nil, bytes-append, bytes-bytes_of}
use Rattle.record.proofs.Laws.{and_left, and_right}
use Rattle.record.proofs.RangeLaws.{range-parts}
use Rattle.record.proofs.Encoding.{fits-grams}
use Rattle.day_table.specs.Table.{TableLine}
use Rattle.day_table.specs.Outcomes.{table_line_in, table_line_bytes, table_bytes, table_lines_in, table_lines, could_hold, all_could_hold}

-- ---- lines from bytes, one by one

pub lines_none : (b : List ℕ) → length b < 14 → table_lines b ≡ []
unfolding table_lines
lines_none b h = let z : length b / 14 ≡ 0 = omega arith in rw z

pub lines_next : (b : List ℕ) → 14 ≤ length b → table_lines b ≡ table_line_in b ∷ table_lines (drop 14 b)
unfolding table_lines
lines_next b h =
    let s : length b / 14 ≡ suc (length (drop 14 b) / 14) = omega (arith, length-drop 14 b) in
    rw s

length-lines-in : (n : ℕ) (b : List ℕ) → length (table_lines_in n b) ≡ n
length-lines-in zero b = refl
length-lines-in (suc n) b = ap suc (length-lines-in n (drop 14 b))

pub length-lines : (b : List ℕ) → length (table_lines b) ≡ length b / 14
unfolding table_lines
length-lines b = length-lines-in (length b / 14) b

pub length-line : (x : TableLine) → length (table_line_bytes x) ≡ 14
length-line x = simp (length-append, length-bytes_of)

pub length-table : (ls : List TableLine) → length (table_bytes ls) ≡ 14 * length ls
length-table [] = refl
length-table (x ∷ ls) = omega (arith, length-append (table_line_bytes x) (table_bytes ls), length-line x, length-table ls)

line-bytes : (x : TableLine) → AllBytes (table_line_bytes x)
line-bytes x =
    let r = x.amounts in
    bytes-append (bytes_of 2 x.depth) _ (bytes-bytes_of 2 _)
    (bytes-append (bytes_of 4 (of_z w32 r.value)) _ (bytes-bytes_of 4 _) (bytes-append (bytes_of 4 (of_z w32 r.floor)) _ (bytes-bytes_of 4 _) (bytes-bytes_of 4 _)))

pub table-bytes : (ls : List TableLine) → AllBytes (table_bytes ls)
table-bytes [] = bytes-nil
table-bytes (x ∷ ls) = bytes-append (table_line_bytes x) (table_bytes ls) (line-bytes x) (table-bytes ls)

-- ---- a table's bytes are those of its lines

line-again : (b : List ℕ) → AllBytes b → 14 ≤ length b → table_line_bytes (table_line_in b) ++ drop 14 b ≡ b
line-again b all h =
    simp append_assoc
    (rw (split-signed 10 b all h, split-signed 6 b all (omega arith), split-signed 2 b all (omega arith)) (split-field 2 0 b all (omega arith)))

again : (n : ℕ) (b : List ℕ) → AllBytes b → length b ≡ 14 * n → table_bytes (table_lines_in n b) ≡ b
again zero b all e = sym (drop_of_length-le b {i = 0} (omega arith))
again (suc n) b all e =
    ap (λ (t : List ℕ). table_line_bytes (table_line_in b) ++ t) (again n (drop 14 b) (bytes_drop 14 b all) (omega (arith, length-drop 14 b)))
    ∙ line-again b all (omega arith)

pub lines-again : (b : List ℕ) → AllBytes b → length b % 14 ≡ 0 → table_bytes (table_lines b) ≡ b
unfolding table_lines
lines-again b all e = again (length b / 14) b all (omega arith)

-- ---- and lines that are written are read back

line-back : (x : TableLine) (r : List ℕ) → could_hold x ≡ true → table_line_in (table_line_bytes x ++ r) ≡ x
line-back x r ok =
    let p = range-parts x.depth x.amounts.value x.amounts.floor x.amounts.ceiling ok in
    let fv = fits-grams x.amounts.value p.value in
    let fl = fits-grams x.amounts.floor p.floor in
    let fh = fits-grams x.amounts.ceiling p.ceiling in
    let e0 : le_at 2 (table_line_bytes x ++ r) 0 ≡ x.depth = simp append_assoc (field-here 2 x.depth _ (omega (arith, p.depth))) in
    let e2 : le_at 4 (table_line_bytes x ++ r) 2 ≡ of_z w32 x.amounts.value = simp (append_assoc, field_past, lit≤, tt {0}) (field-here 4 (of_z w32 x.amounts.value) _ (Fits-of_z fv).fits) in
    let e6 : le_at 4 (table_line_bytes x ++ r) 6 ≡ of_z w32 x.amounts.floor = simp (append_assoc, field_past, lit≤, tt {0}) (field-here 4 (of_z w32 x.amounts.floor) _ (Fits-of_z fl).fits) in
    let e10 : le_at 4 (table_line_bytes x ++ r) 10 ≡ of_z w32 x.amounts.ceiling = simp (append_assoc, field_past, lit≤, tt {0}) (field-here 4 (of_z w32 x.amounts.ceiling) _ (Fits-of_z fh).fits) in
    rw (e0, e2, e6, e10, to_z-of_z fv, to_z-of_z fl, to_z-of_z fh)

pub lines-back : (ls : List TableLine) → all_could_hold ls ≡ true → table_lines (table_bytes ls) ≡ ls
lines-back [] ok = lines_none [] (omega arith)
lines-back (x ∷ ls) ok =
    let n = length-line x in
    lines_next (table_line_bytes x ++ table_bytes ls) (omega (arith, length-append (table_line_bytes x) (table_bytes ls)))
    ∙ rw (line-back x (table_bytes ls) (and_left (could_hold x) (all_could_hold ls) ok), drop_at (table_line_bytes x) (table_bytes ls) 14 n)
    (ap (λ (t : List TableLine). x ∷ t) (lines-back ls (and_right (could_hold x) (all_could_hold ls) ok)))
