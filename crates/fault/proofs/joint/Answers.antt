-- In each way of the tests, the law of specs/Laws.antt on those two levels.
use Rattle.fault.specs.Laws.{apart, at-ground, above}
use Rattle.fault.proofs.joint.Goals as goal

pub returns-then-end-start : goal.returns-then-end-start
returns-then-end-start c = apart _ _ c.if-end-start.true

pub returns-then-end-eq0 : goal.returns-then-end-eq0
returns-then-end-eq0 c = at-ground _ _ c.if-end-start.false c.if-end-eq0.true

pub returns-else-end-eq0 : goal.returns-else-end-eq0
returns-else-end-eq0 c = above _ _ c.if-end-start.false c.if-end-eq0.false
