-- At each level the rank tells whether the log goes on with an open.
use Rattle.std.proofs.Common.{arith}
use Rattle.small_days.specs.LoopLaws.{open-fits, open-written, close-fits, close-written, way-written}
use Rattle.small_days.proofs.write_way.Goals as goal

pub write_short_open-requires : goal.write_short_open-requires
write_short_open-requires c = open-fits c.loop-level.invariant c.loop-level-test.true (omega arith)

pub loop-level-preserved-then-before-opening : goal.loop-level-preserved-then-before-opening
loop-level-preserved-then-before-opening c = open-written c.loop-level.invariant c.loop-level-test.true (omega arith) (omega arith) c.write_short_open.ensures

pub write_close-requires : goal.write_close-requires
write_close-requires c = close-fits c.loop-level.invariant c.loop-level-test.true (omega arith)

pub loop-level-preserved : goal.loop-level-preserved
loop-level-preserved c = close-written c.loop-level.invariant c.loop-level-test.true (omega arith) (omega arith) c.write_close.ensures

pub returns : goal.returns
returns c = way-written c.loop-level.invariant c.loop-level-test.false
