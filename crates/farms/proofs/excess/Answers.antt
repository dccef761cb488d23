use native.Mathlib.Omega.{arith}
use Rattle.farms.specs.SlotLaws.{sum-next, sum-all}
use Rattle.farms.proofs.excess.Goals as goal

pub loop-k-preserved : goal.loop-k-preserved
loop-k-preserved c = let l = c.loop-k in sum-next _ l.invariant c.loop-k-test.true c.drawn_at-total.ensures.0 c.drawn_at-total.ensures.1

pub returns : goal.returns
returns c = sum-all c.loop-k.invariant (omega arith)
