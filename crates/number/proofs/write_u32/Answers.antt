-- The bytes that the part was overwritten with are those of the number.
use Rattle.std.proofs.Common.{arith}
use Rattle.std.specs.Int.{w32}
use Rattle.number.specs.Laws.{put_at-part, to_le_bytes-is}
use Rattle.number.proofs.write_u32.Goals as goal

pub returns : goal.returns
returns c = put_at-part 4 _ _ c.args.x _ _ (omega arith) c.requires (cc (to_le_bytes-is w32 c.args.x))
