-- The numbers read are put in, and nothing held by the mode's number.
use mathlib.Core.Path.{◌∙◌}
use mir.Syntax.{w64}
use Rattle.number.specs.Word.{back}
use Rattle.summary.specs.Decide.{middle_fits}
use Rattle.judge.proofs.Values.{nothing_is}
use Rattle.judge.proofs.middle_fits.Goals as goal

pub returns : goal.returns
unfolding middle_fits
returns c =
    let m = c.read_i64-middle in
    let n = c.nothing-nothing in
    simp (
      c.read_u16-start.ensures,
      c.read_u16-peak.ensures,
      c.read_u16-end.ensures,
      back w64 m.result m.type_inv ∙ m.ensures,
      c.rise.ensures,
      back w64 n.result n.type_inv ∙ n.ensures,
      c.read_u16.ensures,
      nothing_is,
    )
