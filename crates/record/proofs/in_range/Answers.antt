-- `record::in_range` meets its contract: the code's `&` is the definition's `&&`; the callees' answers and the signed parameters are put in.
use mathlib.Core.Bool.{and_assoc}
use mir.Syntax.{w32}
use mir.Facts.{to_z-of_z}
use Rattle.record.specs.Record.{in_range}
use Rattle.record.proofs.in_range.Goals as goal

pub returns : goal.returns
unfolding in_range
returns c =
    simp (
      c.in_limits.ensures,
      c.in_limits-2.ensures,
      c.in_limits-3.ensures,
      to_z-of_z {w = w32} c.ranges.value,
      to_z-of_z {w = w32} c.ranges.floor,
      to_z-of_z {w = w32} c.ranges.ceiling,
      and_assoc,
    )
