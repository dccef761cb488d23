-- So far the first i left values have closed a record each; what came from them is carried along.
use Rattle.figure.specs.Mode.{mode_of}
use Rattle.codec.specs.Promised.{CarriedOf}
use Rattle.codec.proofs.close_down.Given as goal

abbrev pub invariant-loop-i : goal.invariant-loop-i
invariant-loop-i l = CarriedOf (mode_of l.mode) l.b l.i l.amounts l.held l.n l.deeper
