-- 6 bytes, where they fit.
use Rattle.gate.proofs.Promises.{answer-short}
use Rattle.emit.specs.Laws.{blank-length}
use Rattle.summary.specs.Layout.{encode}
use Rattle.hill.specs.Summary.{blank}
use native.Mathlib.Omega.{arith}
use Rattle.emit.proofs.put_blank.Goals as goal

pub returns-then-out-lt6 : goal.returns-then-out-lt6
returns-then-out-lt6 c = let a = c in answer-short (encode a.args.mode blank) a.args.out.now (omega (arith, blank-length a.args.mode))
