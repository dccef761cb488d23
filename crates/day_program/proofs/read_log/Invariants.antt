-- What stands before `at` is what was read so far, and each read brings `at` nearer to the end.
use Rattle.std.proofs.Common.{◌≡◌, ◌-◌, ◌≤◌, take, length}
use Rattle.std.specs.Io.KnownBytes.{Consumes}
use Rattle.day_program.proofs.read_log.Given as goal

abbrev pub invariant-loop-at : goal.invariant-loop-at
invariant-loop-at g l = (length l.log ≡ 65537) × (l.at ≤ 65537) × Consumes (g.R.Read.remaining l.initial.input) (g.R.Read.remaining l.input) (take l.at l.log)

abbrev pub decreases-loop-at : goal.decreases-loop-at
decreases-loop-at g l = 65537 - l.at
