-- The sum of the bits of the value and 31 times what it holds wraps as the sum of the numbers does.
use Rattle.std.proofs.Common.{ℕ, ◌+◌, ◌*◌, ◌%◌, ◌^◌, pos, sym, ap, ◌∙◌, ap₂, to_z-of_z, w32, of_z}
use Rattle.number.specs.Integer.{wrap}
use Rattle.number.specs.Modulo.{wrap-+, wrap-bits}
use Rattle.figure.proofs.stamp.Goals as goal

pub returns : goal.returns
unfolding wrap
returns c =
    ap₂ (λ (x y : ℕ). (x + y) % 2 ^ 32)
    (c.bits_32.ensures ∙ ap (of_z w32) (to_z-of_z c.ranges.value) ∙ sym (wrap-bits c.args.value c.ranges.value)) c.wrapping_mul.ensures
    ∙ sym (wrap-+ c.args.value (pos (31 * c.args.held)))
