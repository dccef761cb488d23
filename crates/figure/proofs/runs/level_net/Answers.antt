-- The value and what is held on both sides, added up; each sum fits.
use Rattle.std.proofs.Common.{◌≡◌, pos, ◌+ℤ◌, ◌∙◌, arith, to_z-of_z, w64, to_z, of_z}
use Rattle.number.specs.IntegerLaws.{abs-+}
use Rattle.number.specs.Word.{back, widened}
use Rattle.figure.specs.Mode.{mode_of}
use Rattle.figure.specs.Stored.{size_of, level_run}
use Rattle.figure.proofs.runs.level_net.Goals as goal

pub sum-requires : goal.sum-requires
unfolding size_of mode_of
sum-requires c = simp (to_z-of_z c.ranges.before, to_z-of_z c.ranges.behind) (omega (arith, c.requires.room))

pub sum-a-requires : goal.sum-a-requires
unfolding size_of mode_of
sum-a-requires c =
    let v = widened c.from.result c.args.value c.from.type_inv c.from.ensures c.ranges.value in
    let s : to_z w64 (of_z w64 c.sum.result) ≡ c.args.before +ℤ c.args.behind =
    back w64 c.sum.result c.sum.type_inv ∙ (simp (to_z-of_z c.ranges.before, to_z-of_z c.ranges.behind) at c.sum.ensures) in
    simp (v, s) (omega (arith, c.requires.room, abs-+ c.args.before c.args.behind))

pub returns : goal.returns
unfolding level_run mode_of
returns c =
    let v = widened c.from.result c.args.value c.from.type_inv c.from.ensures c.ranges.value in
    let s : to_z w64 (of_z w64 c.sum.result) ≡ c.args.before +ℤ c.args.behind =
    back w64 c.sum.result c.sum.type_inv ∙ (simp (to_z-of_z c.ranges.before, to_z-of_z c.ranges.behind) at c.sum.ensures) in
    let a = back w64 c.sum-a.result c.sum-a.type_inv ∙ (simp (v, s) at c.sum-a.ensures) in
    λ i. record { first = a i; second = pos 0; third = pos 0; fourth = pos 0 }
