-- So far the first j records are on top.
use Rattle.slopes.specs.Kept.{arrays_of}
use Rattle.codec.specs.Promised.{Stacked}
use Rattle.codec.proofs.push_all.Given as goal

abbrev pub invariant-loop-j : goal.invariant-loop-j
invariant-loop-j l = Stacked l.b l.k l.j l.n (arrays_of l.initial.slopes) (arrays_of l.slopes)
