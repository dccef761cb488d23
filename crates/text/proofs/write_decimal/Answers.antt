-- The sign says whether there is a minus before the digits.
use Rattle.std.proofs.Common.{ℕ, length, set, ap, ◌∙◌, arith, add-one, to_z-of_z, length-set}
use Rattle.std.proofs.lemmas.List.Edits.{sets}
use Rattle.text.specs.Decimal.{digits_of}
use Rattle.text.proofs.Magnitude.{plain, minus}
use Rattle.text.proofs.write_decimal.Goals as goal

pub bounds-out-at : goal.bounds-out-at
bounds-out-at c =
    omega (arith, ap length (minus c.args.x (to_z-of_z c.ranges.x) c.unsigned_abs-size.ensures.value c.if-x-lt0.true))

pub write_digits-requires : goal.write_digits-requires
write_digits-requires c =
    simp length-set (omega (arith, ap length (minus c.args.x (to_z-of_z c.ranges.x) c.unsigned_abs-size.ensures.value c.if-x-lt0.true)))

pub write_digits-requires-else-x-lt0 : goal.write_digits-requires-else-x-lt0
write_digits-requires-else-x-lt0 c =
    omega (arith, ap length (plain c.args.x (to_z-of_z c.ranges.x) c.unsigned_abs-size.ensures.value c.if-x-lt0.false))

pub returns-then-x-lt0 : goal.returns-then-x-lt0
returns-then-x-lt0 c =
    let w = c.write_digits.ensures in
    rw (minus c.args.x (to_z-of_z c.ranges.x) c.unsigned_abs-size.ensures.value c.if-x-lt0.true)
    (record { answer = omega (arith, w.answer); buffer = w.buffer ∙ ap (λ (k : ℕ). sets (set c.args.out.now c.args.at 45) k (digits_of c.unsigned_abs-size.result)) (add-one c.args.at) })

pub returns-else-x-lt0 : goal.returns-else-x-lt0
returns-else-x-lt0 c =
    rw (plain c.args.x (to_z-of_z c.ranges.x) c.unsigned_abs-size.ensures.value c.if-x-lt0.false) c.write_digits-else-x-lt0.ensures
