use borrow.Author.Rules.{rules}
use native.Mathlib.Omega.{arith}
use Rattle.farms.specs.SlotLaws.{blanking-start, blanking-next, blanking-end}
use Rattle.farms.proofs.make_all_blank.Goals as goal

pub loop-farm-init : goal.loop-farm-init
loop-farm-init c = blanking-start c.args.mode c.args.state.now c.requires

pub loop-farm-preserved : goal.loop-farm-preserved
loop-farm-preserved c = let l = c.loop-farm in blanking-next _ l.invariant c.loop-farm-test.true (search rules) c.make_blank.ensures

pub returns : goal.returns
returns c = blanking-end c.loop-farm.invariant (omega arith)
