-- So far the logs are written up to a rank.
use Rattle.small_days.specs.LoopLaws.{DaysSoFar}
use Rattle.small_days.proofs.write_days.Given as goal

abbrev pub invariant-loop-rank : goal.invariant-loop-rank
invariant-loop-rank l = DaysSoFar l.n l.count l.initial.out l.at l.rank l.out
