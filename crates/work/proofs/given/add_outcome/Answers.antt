-- `work::given::add_outcome` meets its contract: an outcome that does not count leaves what there is.
use mir.Syntax.{w64}
use mir.Facts.{to_z-of_z}
use Rattle.number.specs.Word.{back}
use Rattle.work.specs.GivenLaws.{joins-stores}
use Rattle.work.proofs.given.add_outcome.Goals as goal

pub returns-then-i-line : goal.returns-then-i-line
returns-then-i-line c =
    joins-stores _ c.args.i c.args.j c.args.level c.args.line c.args.out c.args.acc c.requires _ _ (to_z-of_z c.ranges.out) (to_z-of_z c.ranges.acc) _ _ (back w64 _ c.combine.type_inv) c.combine.ensures c.if-i-line.true
