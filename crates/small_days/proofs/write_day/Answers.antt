-- The first open, and the rest.
use Rattle.small_days.specs.LoopLaws.{root-fits, way-fits, day-written}
use Rattle.small_days.proofs.write_day.Goals as goal

pub write_short_open-requires : goal.write_short_open-requires
write_short_open-requires c = let a = c.args in root-fits a.n a.rank a.start a.out.now c.requires

pub write_way-requires : goal.write_way-requires
write_way-requires c = let a = c.args in way-fits a.n a.rank a.start a.out.now c.requires c.write_short_open.ensures

pub returns : goal.returns
returns c = let a = c.args in day-written a.n a.rank a.start a.out.now c.requires c.write_short_open.ensures c.write_way.ensures
