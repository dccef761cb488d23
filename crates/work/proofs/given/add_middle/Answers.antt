-- `work::given::add_middle` meets its contract: a peak at another level leaves what there is.
use mathlib.Core.Path.{◌∙◌}
use mir.Syntax.{w64}
use mir.Facts.{to_z-of_z}
use Rattle.number.specs.Word.{back}
use Rattle.work.specs.GivenLaws.{adds-stores}
use Rattle.work.proofs.given.add_middle.Goals as goal

pub returns : goal.returns
returns c =
    adds-stores c.args.row.now c.args.mode c.args.piece c.args.level c.args.acc c.requires c.if-piece-level.false _ _ (to_z-of_z c.ranges.acc) (back w64 _ c.read_middle.type_inv ∙ c.read_middle.ensures) _ _ (back w64 _ c.combine.type_inv) c.combine.ensures
