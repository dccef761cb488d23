-- The walk is given the earlier record first.
use Rattle.common.specs.CallLaws.{turned-back}
use Rattle.common.proofs.number_in_common.Goals as goal

pub returns-then-b-a : goal.returns-then-b-a
returns-then-b-a c = turned-back c.requires c.find.ensures
