-- In each way of the test, the law of specs/Laws.antt on that level.
use Rattle.fault.specs.Laws.{grounded, raised}
use Rattle.fault.proofs.ground.Goals as goal

pub returns-then-level-eq0 : goal.returns-then-level-eq0
returns-then-level-eq0 c = grounded _ c.if-level-eq0.true

pub returns-else-level-eq0 : goal.returns-else-level-eq0
returns-else-level-eq0 c = raised _ c.if-level-eq0.false
