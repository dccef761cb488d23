use Rattle.std.proofs.Common.{arith}
use Rattle.farms.specs.SlotLaws.{store-next}
use Rattle.farms.proofs.store.Goals as goal

pub loop-i-preserved : goal.loop-i-preserved
loop-i-preserved c =
    store-next c.loop-i.invariant c.requires (omega arith)
