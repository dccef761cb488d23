-- The bounds and what is added, as the calls return them, and then the sum held between them.
use Rattle.std.proofs.Common.{◌≡◌, ◌∙◌, arith, to_z-of_z, w64, to_z, of_z}
use Rattle.number.specs.Word.{back}
use Rattle.modes.specs.Run.{addend}
use Rattle.modes.specs.Runs.{bound_of}
use Rattle.modes.proofs.Runs.{bound-eaten}
use Rattle.modes.proofs.Bound.{addend-size}
use Rattle.figure.specs.Stored.{amounts}
use Rattle.figure.proofs.eaten.Goals as goal

pub clamped_sum-requires : goal.clamped_sum-requires
clamped_sum-requires c =
    let a : to_z w64 (of_z w64 c.addend_of.result) ≡ addend c.args.h = back w64 c.addend_of.result c.addend_of.type_inv ∙ c.addend_of.ensures in
    simp (to_z-of_z c.ranges.v, a) (omega (arith, c.requires, addend-size c.args.h))

pub returns : goal.returns
returns c =
    let a : to_z w64 (of_z w64 c.addend_of.result) ≡ addend c.args.h = back w64 c.addend_of.result c.addend_of.type_inv ∙ c.addend_of.ensures in
    let low : to_z w64 (of_z w64 c.bound_of-low.result) ≡ bound_of c.args.h c.args.v c.args.floor =
    back w64 c.bound_of-low.result c.bound_of-low.type_inv ∙ (simp (to_z-of_z c.ranges.v, to_z-of_z c.ranges.floor) at c.bound_of-low.ensures) in
    let high : to_z w64 (of_z w64 c.bound_of-high.result) ≡ bound_of c.args.h c.args.v c.args.ceiling =
    back w64 c.bound_of-high.result c.bound_of-high.type_inv ∙ (simp (to_z-of_z c.ranges.v, to_z-of_z c.ranges.ceiling) at c.bound_of-high.ensures) in
    back w64 c.clamped_sum.result c.clamped_sum.type_inv
    ∙ (simp (to_z-of_z c.ranges.v, a, high, low) at c.clamped_sum.ensures)
    ∙ bound-eaten (amounts c.args.v c.args.floor c.args.ceiling) c.args.h
