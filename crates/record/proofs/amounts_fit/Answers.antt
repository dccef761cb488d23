-- `record::amounts_fit` meets its contract: the tests that it leaves out follow from the others.
use mir.Syntax.{w32}
use mir.Facts.{to_z-of_z}
use Rattle.record.proofs.RangeLaws.{ordered-fits}
use Rattle.record.proofs.amounts_fit.Goals as goal

pub returns : goal.returns
returns c =
    simp (
      c.in_limits.ensures,
      to_z-of_z {w = w32} c.ranges.value,
      to_z-of_z {w = w32} c.ranges.floor,
      to_z-of_z {w = w32} c.ranges.ceiling,
    )
    (ordered-fits c.args.value c.args.floor c.args.ceiling)
