-- The sum of sizes, each cut to the cap, is too much if and only if that of the sizes is.
use mathlib.Core.Path.{refl}
use native.Mathlib.Omega.{arith}
use Rattle.judge.proofs.Loops.{capped-room}
use Rattle.judge.proofs.Values.{sizes-fit}
use Rattle.judge.proofs.sizes_fit.Goals as goal

pub overflow_add-result : goal.overflow_add-result
overflow_add-result c = let l = capped-room _ _ _ _ (record { count = omega arith; each = omega arith }) c.capped_sizes-lefts.ensures in omega arith

pub overflow_add-result-2 : goal.overflow_add-result-2
overflow_add-result-2 c =
    let l = capped-room _ _ _ _ (record { count = omega arith; each = omega arith }) c.capped_sizes-lefts.ensures in
    let h = capped-room _ _ _ _ (record { count = omega arith; each = omega arith }) c.capped_sizes-helds.ensures in
    omega arith

pub returns : goal.returns
returns c = sizes-fit _ _ _ _ _ _ _ _ c.rise-left.ensures c.fall-right.ensures c.read_u32.ensures refl c.capped_sizes-lefts.ensures c.capped_sizes-helds.ensures
