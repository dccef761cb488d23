-- After a blank, the numbers stay; else they are joined.
use Rattle.merging.specs.SayLaws.{part-said, after-part}
use Rattle.merging.proofs.follow.Goals as goal

pub returns : goal.returns
returns c = λ m s t h g. after-part m g (part-said m s c.args.before h c.in-Some.is) c.merge_fault.ensures c.min.ensures c.min-2.ensures
