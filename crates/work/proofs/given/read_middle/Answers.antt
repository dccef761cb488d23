-- `work::given::read_middle` meets its contract: the number lies within the piece.
use mathlib.Core.Path.{◌∙◌}
use native.Mathlib.Omega.{arith}
use mir.Syntax.{w64}
use Rattle.number.specs.Word.{back}
use Rattle.work.specs.GivenLaws.{middle-fits, middle-read}
use Rattle.work.proofs.given.read_middle.Goals as goal

pub overflow_add-hill : goal.overflow_add-hill
overflow_add-hill c =
    record { fits = omega (arith, middle-fits c.args.row.now c.args.hill c.requires) }

pub overflow_add-hill-2 : goal.overflow_add-hill-2
overflow_add-hill-2 c =
    record { fits = omega (arith, middle-fits c.args.row.now c.args.hill c.requires) }

pub read_i64-requires : goal.read_i64-requires
read_i64-requires c =
    middle-fits c.args.row.now c.args.hill c.requires

pub returns : goal.returns
returns c =
    back w64 _ c.read_i64.type_inv ∙ c.read_i64.ensures ∙ middle-read c.args.row.now c.args.hill c.requires
