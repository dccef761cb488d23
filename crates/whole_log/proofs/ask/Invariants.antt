-- Of the log some records are read and tallied, and the rest is left, which gets shorter.
use mathlib.Core.List.{List}
use lib.ListN.{length}
use Rattle.record.specs.declared.Fields.{Fields}
use Rattle.whole_log.specs.Pass.{Reading}
use Rattle.whole_log.proofs.ask.Given as goal

abbrev pub invariant-loop-rest : goal.invariant-loop-rest
invariant-loop-rest l = (done : List Fields) × Reading l.log l.rest done l.t

abbrev pub decreases-loop-rest : goal.decreases-loop-rest
decreases-loop-rest l = length l.rest
