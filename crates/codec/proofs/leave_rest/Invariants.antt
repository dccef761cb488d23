-- So far the left values up to i have gone down.
use Rattle.figure.specs.Mode.{mode_of}
use Rattle.slopes.specs.declared.Counts.{Counts}
use Rattle.slopes.specs.Arrays.{Arrays}
use Rattle.slopes.specs.Kept.{arrays_of}
use Rattle.slopes.specs.Laws.{counts}
use Rattle.codec.specs.Promised.{Sinks, Sunk}
use Rattle.codec.proofs.leave_rest.Given as goal

abbrev pub invariant-loop-i : goal.invariant-loop-i
invariant-loop-i l =
    (A : Arrays) (c : Counts) → Sinks (mode_of l.mode) l.b l.k A c → Sunk (mode_of l.mode) l.b l.first A c (arrays_of l.initial.slopes) l.start
    → Sunk (mode_of l.mode) l.b l.i A c (arrays_of l.slopes) (counts l.nl l.start.n l.mid)
