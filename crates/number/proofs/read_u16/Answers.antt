-- `le_at-two` is the bytes' own sum.
use Rattle.std.proofs.Common.{arith}
use Rattle.number.specs.Laws.{le_at-two}
use Rattle.number.proofs.read_u16.Goals as goal

pub returns : goal.returns
returns c = rw le_at-two (omega arith)
