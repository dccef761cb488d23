-- What is left are the closes below the level reached.
use Prim.Native.Nat.{◌-◌}
use native.Mathlib.Omega.{arith}
use Rattle.number.specs.Writing.{fits, next}
use Rattle.record.specs.Record.{close_bytes}
use Rattle.record.proofs.Encoding.{close-length}
use Rattle.table.specs.LoopLaws.{closes-turn}
use Rattle.table.proofs.records.write_closes.Goals as goal

pub write_close-requires : goal.write_close-requires
write_close-requires c =
    let l = c.loop-level in
    omega (arith, fits l.invariant (close_bytes (l.level - 1)) _ (closes-turn _ l.level c.loop-level-test.true), close-length (l.level - 1))

pub loop-level-preserved : goal.loop-level-preserved
loop-level-preserved c =
    let l = c.loop-level in
    next l.invariant (close_bytes (l.level - 1)) (closes-turn _ l.level c.loop-level-test.true) c.write_close.ensures (omega (arith, close-length (l.level - 1)))
