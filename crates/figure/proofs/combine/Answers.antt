-- Each mode by its function; in any mode but 2, 4 and 5 figures are plain numbers.
use Rattle.std.proofs.Common.{sym, ◌∙◌, arith, to_z-of_z, w64, rules}
use Rattle.number.specs.Word.{back}
use Rattle.figure.proofs.Modes.{plain_size, plain-combined}
use Rattle.figure.proofs.combine.Goals as goal

pub sum-requires : goal.sum-requires
sum-requires c =
    let s = c in
    let w = plain_size s.args.mode (search rules) (search rules) (search rules) in
    simp (to_z-of_z s.ranges.a, to_z-of_z s.ranges.b) (omega (arith, w s.args.a, w s.args.b))

pub returns-in_default : goal.returns-in_default
returns-in_default c =
    let s = c in
    back w64 c.sum.result c.sum.type_inv ∙ (simp (to_z-of_z s.ranges.a, to_z-of_z s.ranges.b) at c.sum.ensures)
    ∙ sym (plain-combined s.args.mode (search rules) (search rules) (search rules) s.args.a s.args.b)
