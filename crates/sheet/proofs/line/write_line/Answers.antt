-- Three columns, one after another, are the line.
use mathlib.Core.Path.{◌≡◌, ap, ◌∙◌}
use mathlib.Core.List.{List, [], ◌∷◌, ◌++◌, append_assoc}
use Prim.Native.Nat.{ℕ, ◌+◌, ◌^◌, ◌<◌}
use native.Mathlib.Omega.{arith}
use lib.IntN.{ℤ}
use lib.ListN.{length, length-append}
use lib.Seq.{sets}
use mir.Syntax.{w64}
use mir.Val.{to_z}
use mir.Facts.{to_z_pos, to_z-of_z}
use Rattle.number.specs.Laws.{stores-next}
use Rattle.text.specs.Decimal.{digits_of, decimal_of}
use Rattle.text.specs.Columns.{right_aligned}
use Rattle.text.proofs.ColumnLaws.{length-aligned}
use Rattle.day_sheet.specs.Sheet.{sheet_line}
use Rattle.day_sheet.specs.Claims.{InColumns}
use Rattle.sheet.proofs.line.write_line.Goals as goal

-- the text of a number that is not negative, as a local holds it
plain : (n : ℕ) → n < 2 ^ 63 → decimal_of (to_z w64 n) ≡ digits_of n
unfolding decimal_of
plain n h = ap decimal_of (to_z_pos w64 h)

module _ (n d : ℕ) (z : ℤ) (c : InColumns n d z) (o : List ℕ) (at : ℕ) where
  first : List ℕ
  first = right_aligned 6 (digits_of n) ++ (32 ∷ [])

  second : List ℕ
  second = right_aligned 2 (digits_of d) ++ (32 ∷ [])

  third : List ℕ
  third = right_aligned 16 (decimal_of z) ++ (10 ∷ [])

  together : first ++ (second ++ third) ≡ sheet_line n d z
  unfolding first second third sheet_line
  together = simp append_assoc

  three-columns : sets (sets (sets o at first) (at + 7) second) (at + 10) third ≡ sets o at (sheet_line n d z)
  unfolding first second third
  three-columns =
      stores-next (sets o at first) (at + 7) (at + 10) second third (omega (arith, length-append (right_aligned 2 (digits_of d)) (32 ∷ []), length-aligned 2 (digits_of d) c.depth-fits)) ∙
      stores-next o at (at + 7) first (second ++ third) (omega (arith, length-append (right_aligned 6 (digits_of n)) (32 ∷ []), length-aligned 6 (digits_of n) c.number_fits)) ∙
      ap (sets o at) together

  columns : {o₁ o₂ o₃ a b f : List ℕ} → a ≡ digits_of n → b ≡ digits_of d → f ≡ decimal_of z → o₁ ≡ sets o at (right_aligned 6 a ++ (32 ∷ [])) → o₂ ≡ sets o₁ (at + 7) (right_aligned 2 b ++ (32 ∷ []))
      → o₃ ≡ sets o₂ (at + 10) (right_aligned 16 f ++ (10 ∷ [])) → o₃ ≡ sets o at (sheet_line n d z)
  unfolding first second third
  columns ea eb ef e₁ e₂ e₃ = rw (e₃, e₂, e₁, ea, eb, ef) three-columns

pub write_column-requires : goal.write_column-requires
write_column-requires c =
    (omega (arith, ap length (plain c.args.number (omega arith)), c.requires.in_columns.number_fits), omega (arith, c.requires.at_in_bounds))

pub write_column-requires-2 : goal.write_column-requires-2
write_column-requires-2 c =
    (omega (arith, ap length (plain c.args.depth (omega arith)), c.requires.in_columns.depth-fits), omega (arith, c.requires.at_in_bounds, c.write_column.auto.out))

pub returns : goal.returns
returns c =
    columns c.args.number c.args.depth c.args.figure c.requires.in_columns c.args.out.now c.args.at
    (plain c.args.number (omega arith)) (plain c.args.depth (omega arith)) (ap decimal_of (to_z-of_z c.ranges.figure))
    c.write_column.ensures
    c.write_column-2.ensures
    c.write_column-3.ensures
