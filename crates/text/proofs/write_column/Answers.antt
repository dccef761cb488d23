-- `text::write_column` meets its contract: blanks as far as the number leaves room, and then the number.
use mathlib.Core.Path.{◌≡◌, sym, ap, ◌∙◌}
use mathlib.Core.List.{List, [], ◌∷◌, ◌++◌, append_assoc}
use Prim.Native.Nat.{ℕ, ◌+◌, ◌-◌}
use native.Mathlib.Omega.{arith}
use lib.IntN.{ℤ}
use lib.ListN.{length}
use lib.Seq.{sets}
use mir.Syntax.{w64}
use mir.Val.{SFits, to_z, of_z}
use mir.Facts.{to_z-of_z}
use Rattle.number.specs.Laws.{stores-next}
use Rattle.text.specs.Decimal.{decimal_of}
use Rattle.text.specs.Columns.{blanks, right_aligned}
use Rattle.text.proofs.ColumnLaws.{length-blanks}
use Rattle.text.proofs.write_column.Goals as goal

-- the text of the number, as a local holds it
text-is : {z : ℤ} → SFits w64 z → length (decimal_of (to_z w64 (of_z w64 z))) ≡ length (decimal_of z)
text-is f = ap (λ (y : ℤ). length (decimal_of y)) (to_z-of_z f)

-- the blanks, and then the number and the byte after it
column : (columns at after : ℕ) (s o : List ℕ) {start : ℕ} {u : List ℕ} → start ≡ at + (columns - length s) → u ≡ sets o at (blanks (start - at)) → sets u start (s ++ (after ∷ [])) ≡ sets o at (right_aligned columns s ++ (after ∷ []))
unfolding right_aligned
column columns at after s o {start} e b =
    let n : start - at ≡ columns - length s = omega arith in
    ap (λ (v : List ℕ). sets v start (s ++ (after ∷ []))) (b ∙ ap (λ (k : ℕ). sets o at (blanks k)) n) ∙
    stores-next o at start (blanks (columns - length s)) (s ++ (after ∷ [])) (omega (arith, length-blanks (columns - length s))) ∙
    ap (sets o at) (sym (append_assoc (blanks (columns - length s)) s (after ∷ [])))

pub returns : goal.returns
returns c =
    let x = to_z-of_z c.ranges.x in
    c.write_item.ensures.buffer ∙
    rw x (column c.args.columns c.args.at c.args.after (decimal_of c.args.x) c.args.out.now (omega (arith, c.decimal_length.ensures, text-is c.ranges.x)) c.write_blanks.ensures)
