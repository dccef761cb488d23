-- In each way of the test, the law of specs/Laws.antt on so many opened records.
use Rattle.fault.specs.Laws.{few, many}
use Rattle.fault.proofs.count.Goals as goal

pub returns-then-opened-le100000 : goal.returns-then-opened-le100000
returns-then-opened-le100000 c = few _ c.if-opened-le100000.true

pub returns-else-opened-le100000 : goal.returns-else-opened-le100000
returns-else-opened-le100000 c = many _ c.if-opened-le100000.false
