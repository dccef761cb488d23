-- `work::given::given` meets its contract: the middle values, and then the outcomes.
use mir.Syntax.{w64}
use Rattle.number.specs.Word.{back}
use Rattle.work.specs.GivenLaws.{gives-can, gives-stores}
use Rattle.work.proofs.given.given.Goals as goal

pub combine-requires : goal.combine-requires
combine-requires c = gives-can c.requires _ _ _ _ (back w64 _ c.middles-between.type_inv) (back w64 _ c.outcomes-before.type_inv) c.middles-between.ensures c.outcomes-before.ensures

pub returns : goal.returns
returns c =
    gives-stores c.requires _ _ _ _ (back w64 _ c.middles-between.type_inv) (back w64 _ c.outcomes-before.type_inv) c.middles-between.ensures c.outcomes-before.ensures _ _ (back w64 _ c.combine.type_inv) c.combine.ensures
