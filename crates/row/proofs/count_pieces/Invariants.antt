-- Each turn passes one piece, and 65 is enough.
use Rattle.std.proofs.Common.{◌≡◌, ◌+◌, min, length}
use Rattle.row.specs.Row.{row_pieces}
use Rattle.row.proofs.count_pieces.Given as goal

abbrev pub invariant-loop-n : goal.invariant-loop-n
invariant-loop-n l = min 65 (l.n + length (row_pieces l.rest)) ≡ min 65 (length (row_pieces l.row))
