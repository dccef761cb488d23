-- `le_at-four` is the bytes' own sum.
use Rattle.std.proofs.Common.{arith}
use Rattle.number.specs.Laws.{le_at-four}
use Rattle.number.proofs.read_u32.Goals as goal

pub returns : goal.returns
returns c = rw le_at-four (omega arith)
