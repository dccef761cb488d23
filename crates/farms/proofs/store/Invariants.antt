use Rattle.farms.specs.SlotLaws.{Storing}
use Rattle.farms.proofs.store.Given as goal

abbrev pub invariant-loop-i : goal.invariant-loop-i
invariant-loop-i l =
    Storing l.initial.out l.bytes l.at l.i l.out
