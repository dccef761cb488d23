-- Two figures are combined, then a third, and the sum goes through the record: specs/LineLaws.antt says what each of the three stores.
use mathlib.Core.Path.{◌≡◌}
use Prim.Native.Nat.{ℕ, ◌^◌, ◌<◌}
use lib.IntN.{ℤ}
use lib.Signed.{mag}
use mir.Syntax.{w32, w64}
use mir.Val.{SFits, to_z, of_z}
use mir.Facts.{to_z-of_z}
use borrow.Author.Rules.{rules}
use Rattle.number.specs.Word.{back}
use Rattle.figure.specs.Mode.{mode_of}
use Rattle.figure.specs.Stored.{combined}
use Rattle.run_level.specs.declared.RunLevel.{RunLevel}
use Rattle.work.specs.Stores.{Stores}
use Rattle.work.specs.Promised.{Steps}
use Rattle.work.specs.LineLaws.{first_two, all_three, first-stores, second-can, second-stores, third-can, third-stores}
use Rattle.work.proofs.line.through_level.Goals as goal

two : {m : ℕ} {l : RunLevel} {x : ℤ} (s : Steps m l x) {a : ℤ} → SFits w64 x → mag l.held < 2 ^ 63 → mag a < 2 ^ 63 → a ≡ combined (mode_of m) (to_z w64 (of_z w64 l.held)) (to_z w64 (of_z w64 x)) → Stores (mode_of m) (to_z w64 (of_z w64 a)) (first_two m l x s)
two {m} {l} {x} s f h r e = first-stores m l x s _ _ (back w64 _ h) (to_z-of_z f) _ _ (back w64 _ r) e

three : {m : ℕ} {l : RunLevel} {x : ℤ} (s : Steps m l x) {a b : ℤ} → Stores (mode_of m) a (first_two m l x s) → mag l.left < 2 ^ 63 → mag b < 2 ^ 63 → b ≡ combined (mode_of m) a (to_z w64 (of_z w64 l.left)) → Stores (mode_of m) (to_z w64 (of_z w64 b)) (all_three m l x s)
three {m} {l} {x} s t h r e = second-stores m l x s _ _ t (back w64 _ h) _ _ (back w64 _ r) e

pub combine-inside-requires : goal.combine-inside-requires
combine-inside-requires c =
    let l = c.args.level in
    let h : mag l.held < 2 ^ 63 = search rules in
    let v : mag l.left < 2 ^ 63 = search rules in
    second-can _ _ _ c.requires _ _ (two c.requires c.ranges.x h c.combine.type_inv c.combine.ensures) (back w64 _ v)

pub through-requires : goal.through-requires
through-requires c =
    let l = c.args.level in
    let h : mag l.held < 2 ^ 63 = search rules in
    let v : mag l.left < 2 ^ 63 = search rules in
    let n : mag l.value < 2 ^ 31 = search rules in
    third-can _ _ _ c.requires _ (three c.requires (two c.requires c.ranges.x h c.combine.type_inv c.combine.ensures) v c.combine-inside.type_inv c.combine-inside.ensures) _ (back w32 _ n)

pub returns : goal.returns
returns c =
    let l = c.args.level in
    let h : mag l.held < 2 ^ 63 = search rules in
    let v : mag l.left < 2 ^ 63 = search rules in
    let n : mag l.value < 2 ^ 31 = search rules in
    let f : mag l.floor < 2 ^ 31 = search rules in
    let g : mag l.ceiling < 2 ^ 31 = search rules in
    third-stores _ _ _ c.requires _ (three c.requires (two c.requires c.ranges.x h c.combine.type_inv c.combine.ensures) v c.combine-inside.type_inv c.combine-inside.ensures) _ _ _ _ _
    (back w64 _ c.through.type_inv) (back w32 _ n) (back w32 _ f) (back w32 _ g) c.through.ensures
