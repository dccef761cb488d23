-- 14 before all else, and then the logs.
use Rattle.gate.proofs.Promises.{refuses, comes-to}
use Rattle.day_list.proofs.CallLaws.{outside, taken}
use Rattle.small_days.proofs.small_days.Goals as goal

pub returns-then-not-n : goal.returns-then-not-n
returns-then-not-n c =
    let a = c.args in
    let p = refuses a.out.now (outside a.n _ c.if-not-n.true) in
    record { answer = p.0; buffer = p.1 }

pub returns : goal.returns
returns c =
    let p = comes-to (taken c.args.n _ c.if-not-n.false) c.put_days.ensures in
    record { answer = p.0; buffer = p.1 }
