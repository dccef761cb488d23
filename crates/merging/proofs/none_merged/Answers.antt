-- Empty arrays stand for nothing.
use Rattle.std.proofs.Common.{◌∙◌, refl, w64}
use Rattle.number.specs.Word.{back}
use Rattle.merging.specs.KeptLaws.{kept-none}
use Rattle.merging.proofs.none_merged.Goals as goal

pub returns : goal.returns
returns c =
    kept-none c.args.mode (record { left = refl; values = refl; floors = refl; ceilings = refl; held = refl })
    (back w64 c.nothing.result c.nothing.type_inv ∙ c.nothing.ensures)
