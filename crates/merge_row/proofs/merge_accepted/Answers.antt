-- The buffer on the side has room for the five halves that can wait.
use native.Mathlib.Omega.{arith}
use Rattle.merge_row.proofs.merge_accepted.Goals as goal

pub merge_pieces-requires-clause-room : goal.merge_pieces-requires-clause-room
merge_pieces-requires-clause-room c = let h = c.requires in record { times = 5; halved = omega (arith, h.few); enough = omega arith }
