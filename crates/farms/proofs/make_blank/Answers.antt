use Rattle.farms.specs.SlotLaws.{blank-slot, blank-put}
use Rattle.farms.proofs.make_blank.Goals as goal

pub returns : goal.returns
returns c = let a = c in blank-put a.args.mode a.args.state.now _ _ a.args.farm (blank-slot a.args.mode _ c.put_blank.ensures.buffer) c.write_slot.ensures
