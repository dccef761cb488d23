-- Nothing on one side leaves the other, and two figures are added.
use Rattle.std.proofs.Common.{◌≡◌, ◌+ℤ◌, sym, ap, ◌∙◌, ap₂, arith, w64, rules, to_z, of_z}
use Rattle.number.specs.Word.{back}
use Rattle.modes.specs.FourModes.{lift}
use Rattle.modes.specs.Bound.{size_held}
use Rattle.modes.specs.declared.Held.TheVariants.{Figure}
use Rattle.figure.proofs.sum_held.Goals as goal

pub sum-requires : goal.sum-requires
unfolding size_held
sum-requires c =
    let x : to_z w64 (of_z w64 c.in-Figure-Figure.x) ≡ c.in-Figure-Figure.x = back w64 c.in-Figure-Figure.x (search rules) in
    let y : to_z w64 (of_z w64 c.in-Figure-Figure.y) ≡ c.in-Figure-Figure.y = back w64 c.in-Figure-Figure.y (search rules) in
    simp (x, y) (omega (arith, ap size_held c.in-Figure-Figure.is-0, ap size_held c.in-Figure-Figure.is-1))

pub returns-in-Nothing-default : goal.returns-in-Nothing-default
unfolding lift
returns-in-Nothing-default c = sym (ap (λ h. lift ◌+ℤ◌ h c.args.b) c.in-Nothing-default.is-0)

pub returns-in_default-Nothing : goal.returns-in_default-Nothing
unfolding lift
returns-in_default-Nothing c =
    c.in_default-Nothing.is-0 ∙ sym (ap₂ (lift ◌+ℤ◌) c.in_default-Nothing.is-0 c.in_default-Nothing.is-1)

pub returns-in-Figure-Figure : goal.returns-in-Figure-Figure
unfolding lift
returns-in-Figure-Figure c =
    let x : to_z w64 (of_z w64 c.in-Figure-Figure.x) ≡ c.in-Figure-Figure.x = back w64 c.in-Figure-Figure.x (search rules) in
    let y : to_z w64 (of_z w64 c.in-Figure-Figure.y) ≡ c.in-Figure-Figure.y = back w64 c.in-Figure-Figure.y (search rules) in
    ap Figure (back w64 _ c.sum.type_inv ∙ (simp (x, y) at c.sum.ensures))
    ∙ sym (ap₂ (lift ◌+ℤ◌) c.in-Figure-Figure.is-0 c.in-Figure-Figure.is-1)
