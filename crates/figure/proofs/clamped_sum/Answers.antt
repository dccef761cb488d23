-- The greater of the sum and the lower bound, then the smaller of that and the upper one.
use Rattle.std.proofs.Common.{◌≡◌, ◌+ℤ◌, ℤ, ap, ◌∙◌, to_z-of_z, w64, to_z, of_z}
use Rattle.std.specs.Int.{int_min, int_max}
use Rattle.number.specs.Integer.{clamp, min_z}
use Rattle.number.specs.IntegerLaws.{int_max-max_z, int_min-min_z}
use Rattle.number.specs.Word.{back}
use Rattle.figure.proofs.clamped_sum.Goals as goal

clamp-is : (x l h : ℤ) → int_min (int_max x l) h ≡ clamp x l h
unfolding clamp
clamp-is x l h = int_min-min_z (int_max x l) h ∙ ap (λ (y : ℤ). min_z y h) (int_max-max_z x l)

pub returns : goal.returns
returns c =
    let s : to_z w64 (of_z w64 c.sum.result) ≡ c.args.a +ℤ c.args.b =
    back w64 c.sum.result c.sum.type_inv ∙ (simp (to_z-of_z c.ranges.a, to_z-of_z c.ranges.b) at c.sum.ensures) in
    let m = back w64 c.max.result c.max.type_inv ∙ (simp (s, to_z-of_z c.ranges.low) at c.max.ensures.value) in
    back w64 c.min.result c.min.type_inv ∙ (simp (m, to_z-of_z c.ranges.high) at c.min.ensures.value)
    ∙ clamp-is (c.args.a +ℤ c.args.b) c.args.low c.args.high
