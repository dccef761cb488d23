-- `run_level::read_level` meets its contract: the numbers lie within their pieces.
use Rattle.std.proofs.Common.{ap₂, ◌∙◌, arith}
use Rattle.run_level.specs.Laws.{record-fits, left-fits, level-read}
use Rattle.run_level.specs.Levels.{level_in}
use Rattle.run_level.proofs.read_level.Goals as goal

pub overflow_add-opener : goal.overflow_add-opener
overflow_add-opener c = record { fits = omega (arith, record-fits _ _ _ _ c.requires) }

pub overflow_add-opener-2 : goal.overflow_add-opener-2
overflow_add-opener-2 c = record { fits = omega (arith, record-fits _ _ _ _ c.requires) }

pub overflow_add-opener-3 : goal.overflow_add-opener-3
overflow_add-opener-3 c = record { fits = omega (arith, record-fits _ _ _ _ c.requires) }

pub overflow_add-closer : goal.overflow_add-closer
overflow_add-closer c = record { fits = omega (arith, left-fits _ _ _ _ c.requires) }

pub overflow_add-closer-2 : goal.overflow_add-closer-2
overflow_add-closer-2 c = record { fits = omega (arith, left-fits _ _ _ _ c.requires) }

pub read_at-requires : goal.read_at-requires
read_at-requires c = (omega (arith, record-fits _ _ _ _ c.requires), omega (arith, left-fits _ _ _ _ c.requires))

pub returns : goal.returns
returns c = c.read_at.ensures ∙ ap₂ (level_in c.args.row.now) (omega arith) (omega arith) ∙ level-read _ _ _ _ c.requires
