-- The numbers are those that accepted bytes say.
use Rattle.judge.specs.Laws.{summary-fits}
use Rattle.merging.specs.SayLaws.{says-side}
use Rattle.merging.proofs.side_of.Goals as goal

pub numbers_of-requires : goal.numbers_of-requires
numbers_of-requires c = rw c.head_of.ensures (summary-fits c.args.b.now c.requires)

pub returns : goal.returns
returns c = λ m. rw (c.numbers_of.ensures, c.head_of.ensures) (says-side m c.args.b.now c.requires)
