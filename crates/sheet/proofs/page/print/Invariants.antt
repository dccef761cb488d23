-- The reader cannot refuse, and each record is noted as it is read.
use Rattle.std.proofs.Common.{length}
use Rattle.sheet.specs.PrintingLaws.{Pass}
use Rattle.sheet.proofs.page.print.Given as goal

abbrev pub invariant-loop-rest : goal.invariant-loop-rest
invariant-loop-rest l = Pass l.log l.page l.initial.out l.rest l.s l.kept l.out

abbrev pub decreases-loop-rest : goal.decreases-loop-rest
decreases-loop-rest l = length l.rest
