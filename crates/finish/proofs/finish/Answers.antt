-- By what the judge answered: the bytes are no summary, or the one it told, and then by that one's head.
use Rattle.std.proofs.Common.{◌∙◌}
use Rattle.std.proofs.lemmas.Result.{err_from_is_err_and}
use Rattle.judge.specs.Laws.{judges, judges-not}
use Rattle.finish.specs.Laws.{not-one, is-blank, is-spoilt, is-hill}
use Rattle.finish.proofs.finish.Goals as goal

pub returns-in_err-p : goal.returns-in_err-p
returns-in_err-p c =
    let n = judges-not c.args.summary.now _ c.judge.ensures _ c.in_err-p.was in
    let p = err_from_is_err_and c.from_residual.result c.from_residual.ensures.1 in
    rw (p.1, p.2, n.1) (not-one _ n.0)

pub returns-in-Blank : goal.returns-in-Blank
returns-in-Blank c = is-blank _ (judges _ _ c.judge.ensures _ c.in_ok-p.was) c.in-Blank.is

pub returns-in-Spoilt : goal.returns-in-Spoilt
returns-in-Spoilt c = is-spoilt _ (judges _ _ c.judge.ensures _ c.in_ok-p.was) c.in-Spoilt.s c.in-Spoilt.is

pub returns-in-Hill : goal.returns-in-Hill
returns-in-Hill c = c.finish_hill.ensures ∙ is-hill _ (judges _ _ c.judge.ensures _ c.in_ok-p.was) c.in-Hill.h c.in-Hill.is
