-- So far the records up to `rest` are read, and what is kept tells of them.
use Rattle.std.proofs.Common.{length}
use Rattle.figure.specs.Mode.{mode_of}
use Rattle.slopes.specs.Kept.{arrays_of}
use Rattle.summarise.specs.ScanLaws.{Inv}
use Rattle.summarise.proofs.read_chunk.Given as goal

abbrev pub invariant-loop-rest : goal.invariant-loop-rest
invariant-loop-rest l = Inv (mode_of l.mode) l.chunk l.rest (arrays_of l.slopes) l.c l.t

abbrev pub decreases-loop-rest : goal.decreases-loop-rest
decreases-loop-rest l = length l.rest
