-- Each turn writes a log.
use Rattle.std.proofs.Common.{arith}
use Rattle.small_days.specs.LoopLaws.{log-written}
use Rattle.small_days.proofs.write_days.Goals as goal

pub loop-rank-preserved : goal.loop-rank-preserved
loop-rank-preserved c = log-written c.requires.small c.loop-rank.invariant c.loop-rank-test.true (omega arith) c.write_day-at.ensures
