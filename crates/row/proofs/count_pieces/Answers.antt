-- Each turn passes one piece, and 65 is enough.
use Rattle.std.proofs.Common.{◌≤◌, length, arith}
use Rattle.std.proofs.lemmas.Grind.{common_steps}
use Rattle.row.specs.Laws.{first-within, count_next, count-done}
use Rattle.row.proofs.count_pieces.Goals as goal

pub returns-then-is_empty : goal.returns-then-is_empty
returns-then-is_empty c = let empty : length c.loop-n.rest.now ≤ 0 = grind (arith, common_steps) in omega (arith, count-done c.loop-n.rest.now empty)

pub slice_bounds-rest-count : goal.slice_bounds-rest-count
slice_bounds-rest-count c = omega (arith, (first-within c.loop-n.rest.now).inside)

pub slice_bounds-rest-start : goal.slice_bounds-rest-start
slice_bounds-rest-start c = slice_bounds-rest-count c

pub loop-n-preserved : goal.loop-n-preserved
loop-n-preserved c = count_next _ _ _ _ c.first_length.ensures (grind (arith, common_steps)) c.loop-n.invariant
