-- `text::write_item` meets its contract: one store more, where the number ends.
use native.Mathlib.Omega.{arith}
use mir.Facts.{to_z-of_z}
use Rattle.number.specs.Laws.{sets-append}
use Rattle.text.proofs.write_item.Goals as goal

pub returns : goal.returns
returns c =
    let w = rw (to_z-of_z c.ranges.x) at c.write_decimal-i.ensures in
    record { answer = omega (arith, w.answer); buffer = rw (sets-append, ← w.answer, ← w.buffer) }
