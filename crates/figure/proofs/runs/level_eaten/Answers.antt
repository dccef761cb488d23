-- What the sides hold, read back and added up, is what the record holds beside the inner part.
use Rattle.std.proofs.Common.{◌≡◌, ◌+◌, ◌^◌, ◌<◌, ◌+ℤ◌, unsigned_abs, ℤ, ap, ◌∙◌, ap₂, arith, to_z-of_z, w64, to_z, of_z}
use Rattle.number.specs.IntegerLaws.{abs-+}
use Rattle.number.specs.Word.{back, widened}
use Rattle.modes.specs.FourModes.{lift, eaten_of, read_held}
use Rattle.modes.specs.Run.{addend}
use Rattle.modes.proofs.Runs.{addend-sum}
use Rattle.modes.specs.Bound.{size_held}
use Rattle.modes.proofs.Bound.{size-lift, addend-size}
use Rattle.figure.specs.Mode.{mode_of}
use Rattle.figure.specs.Stored.{amounts, size_of, level_run, Levels}
use Rattle.figure.proofs.runs.level_eaten.Goals as goal

room : (v b a : ℤ) → Levels (mode_of 5) v b a → unsigned_abs v + (size_held (read_held b) + size_held (read_held a)) < 2 ^ 63
unfolding size_of mode_of
room v b a l = l.room

sides-small : (v b a : ℤ) → Levels (mode_of 5) v b a → unsigned_abs v + size_held (lift ◌+ℤ◌ (read_held b) (read_held a)) < 2 ^ 63
sides-small v b a l = omega (arith, room v b a l, size-lift ◌+ℤ◌ abs-+ (read_held b) (read_held a))

pub sum_held-sides-requires : goal.sum_held-sides-requires
sum_held-sides-requires c =
    let b = c.read_held.ensures ∙ ap read_held (to_z-of_z c.ranges.before) in
    let a = c.read_held-2.ensures ∙ ap read_held (to_z-of_z c.ranges.behind) in
    omega (arith, room _ _ _ c.requires, ap size_held b, ap size_held a)

pub eaten-z-requires : goal.eaten-z-requires
eaten-z-requires c =
    let v = widened c.from-v.result c.args.value c.from-v.type_inv c.from-v.ensures c.ranges.value in
    let b = c.read_held.ensures ∙ ap read_held (to_z-of_z c.ranges.before) in
    let a = c.read_held-2.ensures ∙ ap read_held (to_z-of_z c.ranges.behind) in
    let s = c.sum_held-sides.ensures ∙ ap₂ (lift ◌+ℤ◌) b a in
    simp v (omega (arith, sides-small _ _ _ c.requires, ap size_held s))

pub sum-a-requires : goal.sum-a-requires
sum-a-requires c =
    let v = widened c.from-v.result c.args.value c.from-v.type_inv c.from-v.ensures c.ranges.value in
    let b = c.read_held.ensures ∙ ap read_held (to_z-of_z c.ranges.before) in
    let a = c.read_held-2.ensures ∙ ap read_held (to_z-of_z c.ranges.behind) in
    let s = c.sum_held-sides.ensures ∙ ap₂ (lift ◌+ℤ◌) b a in
    let d : to_z w64 (of_z w64 c.addend_of-added.result) ≡ addend (lift ◌+ℤ◌ (read_held c.args.before) (read_held c.args.behind)) =
    back w64 c.addend_of-added.result c.addend_of-added.type_inv ∙ c.addend_of-added.ensures ∙ ap addend s in
    simp (v, d) (omega (arith, sides-small _ _ _ c.requires, addend-size (lift ◌+ℤ◌ (read_held c.args.before) (read_held c.args.behind))))

pub returns : goal.returns
unfolding level_run mode_of
returns c =
    let v = widened c.from-v.result c.args.value c.from-v.type_inv c.from-v.ensures c.ranges.value in
    let low = widened c.from-low.result c.args.floor c.from-low.type_inv c.from-low.ensures c.ranges.floor in
    let high = widened c.from-high.result c.args.ceiling c.from-high.type_inv c.from-high.ensures c.ranges.ceiling in
    let b = c.read_held.ensures ∙ ap read_held (to_z-of_z c.ranges.before) in
    let a = c.read_held-2.ensures ∙ ap read_held (to_z-of_z c.ranges.behind) in
    let s = c.sum_held-sides.ensures ∙ ap₂ (lift ◌+ℤ◌) b a in
    let d : to_z w64 (of_z w64 c.addend_of-added.result) ≡ addend (lift ◌+ℤ◌ (read_held c.args.before) (read_held c.args.behind)) =
    back w64 c.addend_of-added.result c.addend_of-added.type_inv ∙ c.addend_of-added.ensures ∙ ap addend s in
    let z = back w64 c.eaten-z.result c.eaten-z.type_inv ∙ (simp (v, low, high) at c.eaten-z.ensures)
    ∙ ap (eaten_of (amounts c.args.value c.args.floor c.args.ceiling)) s in
    let add = back w64 c.sum-a.result c.sum-a.type_inv ∙ (simp (v, d) at c.sum-a.ensures)
    ∙ ap (λ t. c.args.value +ℤ t) (addend-sum (read_held c.args.before) (read_held c.args.behind)) in
    λ i. record { first = z i; second = add i; third = low i; fourth = high i }
