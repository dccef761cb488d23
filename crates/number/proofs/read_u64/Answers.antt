-- Two fields side by side are one, `le_at-add`.
use Rattle.std.proofs.Common.{arith}
use Rattle.number.specs.Laws.{le_at-add}
use Rattle.number.proofs.read_u64.Goals as goal

pub returns : goal.returns
returns c = rw (le_at-add 4 4) (omega arith)
