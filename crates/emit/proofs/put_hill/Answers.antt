-- The length is told by the levels: a shorter buffer is refused.
use Rattle.gate.proofs.Promises.{answer-short}
use native.Mathlib.Omega.{arith}
use Rattle.summary.specs.Layout.{encode}
use Rattle.slopes.specs.Kept.{arrays_of}
use Rattle.emit.specs.Emitted.{hill_said}
use Rattle.emit.specs.Laws.{hill-length}
use Rattle.emit.proofs.put_hill.Goals as goal

pub returns-then-out-nl : goal.returns-then-out-nl
returns-then-out-nl c =
    let a = c.args in
    let these = arrays_of a.slopes.now in
    answer-short (encode a.mode (hill_said a.mode a.h these)) a.out.now (omega (arith, hill-length a.mode a.h these))
