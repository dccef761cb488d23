use Rattle.farms.specs.SlotLaws.{Summing}
use Rattle.farms.proofs.excess.Given as goal

abbrev pub invariant-loop-k : goal.invariant-loop-k
invariant-loop-k l = Summing l.state l.total l.k
