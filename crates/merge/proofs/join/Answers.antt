-- What was merged after each piece is the empty summary, then with the left, then with both.
use Rattle.gate.proofs.Promises.{answer-same}
use Rattle.hill.specs.Summary.{blank}
use Rattle.merge.specs.CallLaws.{two-merged}
use Rattle.merge.proofs.join.Goals as goal

pub add_piece-requires : goal.add_piece-requires
add_piece-requires c = record { summary_in = c.requires.0; keeps = record { summary = blank; kept = c.none_merged-both.ensures } }

pub add_piece-requires-2 : goal.add_piece-requires-2
add_piece-requires-2 c = record { summary_in = c.requires.1; keeps = record { summary = _; kept = c.add_piece.ensures blank c.none_merged-both.ensures } }

pub put-requires : goal.put-requires
put-requires c = record { summary = _; kept = c.add_piece-2.ensures _ (c.add_piece.ensures blank c.none_merged-both.ensures) }

pub returns : goal.returns
returns c =
    answer-same (two-merged c.args.mode c.args.left.now c.args.right.now)
    (c.put.ensures _ (c.add_piece-2.ensures _ (c.add_piece.ensures blank c.none_merged-both.ensures)))
