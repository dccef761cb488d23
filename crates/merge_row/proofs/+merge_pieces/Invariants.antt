-- The measure is the number of pieces: each half has fewer.
use Rattle.merge_row.proofs.+merge_pieces.Given as goal

abbrev pub decreases-merge_pieces : goal.decreases-merge_pieces
decreases-merge_pieces l = l.count
