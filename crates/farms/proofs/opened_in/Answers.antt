use mathlib.Core.Path.{◌∙◌}
use Rattle.farms.specs.SlotLaws.{opened-none, opened_some}
use Rattle.farms.proofs.opened_in.Goals as goal

pub returns-then-b-lt16 : goal.returns-then-b-lt16
returns-then-b-lt16 c = opened-none c.args.b.now c.if-b-lt16.true

pub returns : goal.returns
returns c = c.read_u32.ensures ∙ opened_some c.args.b.now c.if-b-lt16.false
