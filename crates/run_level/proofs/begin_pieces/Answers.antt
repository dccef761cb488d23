-- `run_level::begin_pieces` meets its contract: each turn notes where the next piece begins.
use Rattle.std.proofs.Common.{arith}
use Rattle.row.specs.Laws.{first-inside}
use Rattle.run_level.specs.Laws.{begin-start, begin-next}
use Rattle.run_level.proofs.begin_pieces.Goals as goal

pub loop-k-init : goal.loop-k-init
loop-k-init c = begin-start _ _ c.told-ats

pub overflow_add-at : goal.overflow_add-at
overflow_add-at c = record { fits = omega (arith, first-inside c.args.row.now c.loop-k.at _ c.first_length-at.ensures c.loop-k.invariant.inside) }

pub loop-k-preserved : goal.loop-k-preserved
loop-k-preserved c = begin-next _ _ _ _ _ c.loop-k.invariant (omega arith) c.first_length-at.ensures
