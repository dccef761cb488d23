-- Counts of nothing stand for nothing.
use Rattle.std.proofs.Common.{◌∙◌, w64}
use Rattle.number.specs.Word.{back}
use Rattle.merging.specs.KeptLaws.{kept-none}
use Rattle.merging.proofs.Merged.clear.Goals as goal

pub returns : goal.returns
returns c = kept-none c.args.mode c.requires (back w64 c.nothing.result c.nothing.type_inv ∙ c.nothing.ensures)
