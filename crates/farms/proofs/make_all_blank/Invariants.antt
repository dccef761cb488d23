use Rattle.farms.specs.SlotLaws.{Blanking}
use Rattle.farms.proofs.make_all_blank.Given as goal

abbrev pub invariant-loop-farm : goal.invariant-loop-farm
invariant-loop-farm l = Blanking l.mode l.state l.farm
