-- What is written is as long as a spoilt summary: a shorter buffer is refused.
use Rattle.gate.proofs.Promises.{answer-short}
use Rattle.emit.specs.Emitted.{spoilt_said}
use Rattle.emit.specs.Laws.{spoilt-length}
use Rattle.summary.specs.Layout.{encode}
use native.Mathlib.Omega.{arith}
use Rattle.emit.proofs.put_spoilt.Goals as goal

pub returns-then-out-lt16 : goal.returns-then-out-lt16
returns-then-out-lt16 c = answer-short (encode c.args.mode (spoilt_said c.args.mode c.args.s)) c.args.out.now (omega (arith, spoilt-length c.args.mode c.args.s))
