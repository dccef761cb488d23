-- Each side is a summary or the answer is 5, their modes are the same or it is 6, and then the two are joined.
use Rattle.std.proofs.lemmas.Result.{err_from_is_err_and}
use Rattle.gate.proofs.Promises.{refuses, comes-to}
use Rattle.merge.specs.CallLaws.{left-5, right-5, other-mode, both-in}
use Rattle.summary.proofs.OutcomeLaws.{merge-is}
use Rattle.judge.specs.Laws.{judges, judges-not}
use Rattle.merge.proofs.merge.Goals as goal

pub returns-in_err-a : goal.returns-in_err-a
returns-in_err-a c =
    let n = judges-not _ _ c.judge.ensures _ c.in_err-a.was in
    let e = err_from_is_err_and c.from_residual.result c.from_residual.ensures.1 in
    let p = refuses c.args.out.now (left-5 _ c.args.right.now _ n.0) in
    record { answer = rw (e.1, e.2, n.1) p.0; buffer = p.1 }

pub returns-in_err-b : goal.returns-in_err-b
returns-in_err-b c =
    let n = judges-not _ _ c.judge-2.ensures _ c.in_err-b.was in
    let e = err_from_is_err_and c.from_residual-in_err-b.result c.from_residual-in_err-b.ensures.1 in
    let p = refuses c.args.out.now (right-5 _ _ _ (judges _ _ c.judge.ensures _ c.in_ok-a.was).test n.0) in
    record { answer = rw (e.1, e.2, n.1) p.0; buffer = p.1 }

pub returns-then-a-b : goal.returns-then-a-b
returns-then-a-b c =
    let p = refuses c.args.out.now (other-mode (judges _ _ c.judge.ensures _ c.in_ok-a.was) (judges _ _ c.judge-2.ensures _ c.in_ok-b.was) c.if-a-b.true _) in
    record { answer = p.0; buffer = p.1 }

pub join-requires : goal.join-requires
join-requires c = both-in (judges _ _ c.judge.ensures _ c.in_ok-a.was) (judges _ _ c.judge-2.ensures _ c.in_ok-b.was) c.if-a-b.false

pub returns : goal.returns
returns c =
    let i = both-in (judges _ _ c.judge.ensures _ c.in_ok-a.was) (judges _ _ c.judge-2.ensures _ c.in_ok-b.was) c.if-a-b.false in
    let p = comes-to (merge-is _ _ _ _ i.0 i.1) c.join.ensures in
    record { answer = p.0; buffer = p.1 }
