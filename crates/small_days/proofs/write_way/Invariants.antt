-- So far the log is written up to a level, with so many records left to open and so many ways before.
use Rattle.std.proofs.Common.{◌+◌, ◌*◌}
use Rattle.small_days.specs.Promised.{way_bytes}
use Rattle.small_days.specs.LoopLaws.{WaySoFar}
use Rattle.small_days.proofs.write_way.Given as goal

abbrev pub invariant-loop-level : goal.invariant-loop-level
invariant-loop-level l = WaySoFar (way_bytes l.to_open l.rank) l.start l.initial.out l.at l.left l.level l.before l.out

abbrev pub decreases-loop-level : goal.decreases-loop-level
decreases-loop-level l = 2 * l.left + l.level
