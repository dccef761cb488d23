-- The front is the whole summary.
use Rattle.emit.specs.WriteLaws.{blank-written}
use Rattle.emit.proofs.bytes.write_blank.Goals as goal

pub returns : goal.returns
returns c = let a = c in blank-written a.args.mode a.args.out.now _ a.requires c.put_front.ensures
