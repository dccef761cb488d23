-- `runs::each::one_run` meets its contract: the line's two places, and then its run.
use Rattle.std.proofs.Common.{arith}
use Rattle.runs.specs.EachLaws.{line-near, line-asks, line-answers}
use Rattle.runs.proofs.each.one_run.Goals as goal

pub place_of-opener-requires : goal.place_of-opener-requires
place_of-opener-requires c = omega (arith, (line-near c.requires).0, c.from.ensures)

pub place_of-closer-requires : goal.place_of-closer-requires
place_of-closer-requires c = omega (arith, (line-near c.requires).1, c.from-2.ensures)

pub run_of_line-requires : goal.run_of_line-requires
run_of_line-requires c = line-asks c.requires _ _ (rw c.from.ensures at c.place_of-opener.ensures) (rw c.from-2.ensures at c.place_of-closer.ensures)

pub returns : goal.returns
returns c = line-answers c.requires _ _ (rw c.from.ensures at c.place_of-opener.ensures) (rw c.from-2.ensures at c.place_of-closer.ensures) _ c.run_of_line.ensures
