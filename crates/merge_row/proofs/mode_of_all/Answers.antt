-- Each turn judges one piece; what is left is shorter.
use Rattle.std.proofs.lemmas.Result.{err_from_is_err_and}
use Rattle.merge_row.specs.CallLaws.{not-5, inside, shorter, pass-first, pass-next, pass-5, pass-6, pass_all}
use Rattle.judge.specs.Laws.{judges, judges-not, judged-mode}
use Rattle.outcome.proofs.Laws.{mode-5}
use Rattle.row.specs.Row.{row_pieces}
use lib.ListN.{take, length-take}
use mathlib.Core.Path.{sym}
use native.Mathlib.Omega.{arith}
use Rattle.merge_row.proofs.mode_of_all.Goals as goal

pub slice_bounds-judge-end : goal.slice_bounds-judge-end
slice_bounds-judge-end c = simp length-take (omega (arith, inside c.args.pieces.now c.requires c.first_length-first.ensures))

pub returns-in_err-p : goal.returns-in_err-p
returns-in_err-p c =
    let s = c.args.pieces.now in
    let n = judges-not _ _ c.judge.ensures _ c.in_err-p.was in
    let e = err_from_is_err_and c.from_residual.result c.from_residual.ensures.1 in
    rw (e.1, e.2, n.1) (sym (mode-5 (row_pieces s) (not-5 s c.requires c.first_length-first.ensures n.0)))

pub slice_bounds-rest-count : goal.slice_bounds-rest-count
slice_bounds-rest-count c = inside c.args.pieces.now c.requires c.first_length-first.ensures

pub slice_bounds-rest-start : goal.slice_bounds-rest-start
slice_bounds-rest-start c = slice_bounds-rest-count c

pub loop-rest-init : goal.loop-rest-init
loop-rest-init c =
    let s = c.args.pieces.now in
    let j = judges (take c.first_length-first.result s) c.judge.result c.judge.ensures _ c.in_ok-p.was in
    pass-first s c.requires c.first_length-first.ensures j.test (judged-mode j)

pub slice_bounds-judge-end-in-loop-rest : goal.slice_bounds-judge-end-in-loop-rest
slice_bounds-judge-end-in-loop-rest c = simp length-take (omega (arith, inside c.loop-rest.rest.now c.loop-rest-test.true c.first_length-n.ensures))

pub returns-in_err-q : goal.returns-in_err-q
returns-in_err-q c =
    let s = c.loop-rest.rest.now in
    let n = judges-not _ _ c.judge-in-loop-rest.ensures _ c.in_err-q.was in
    let e = err_from_is_err_and c.from_residual-in_err-q.result c.from_residual-in_err-q.ensures.1 in
    rw (e.1, e.2, n.1) (sym (pass-5 c.loop-rest.invariant (not-5 s c.loop-rest-test.true c.first_length-n.ensures n.0)))

pub slice_bounds-rest-count-in-loop-rest : goal.slice_bounds-rest-count-in-loop-rest
slice_bounds-rest-count-in-loop-rest c = inside c.loop-rest.rest.now c.loop-rest-test.true c.first_length-n.ensures

pub slice_bounds-rest-start-in-loop-rest : goal.slice_bounds-rest-start-in-loop-rest
slice_bounds-rest-start-in-loop-rest c = slice_bounds-rest-count-in-loop-rest c

pub loop-rest-smaller : goal.loop-rest-smaller
loop-rest-smaller c = shorter c.loop-rest.rest.now c.loop-rest-test.true c.first_length-n.ensures

pub loop-rest-preserved : goal.loop-rest-preserved
loop-rest-preserved c = let s = c.loop-rest.rest.now in
    let j = judges (take c.first_length-n.result s) c.judge-in-loop-rest.result c.judge-in-loop-rest.ensures _ c.in_ok-q.was in
    pass-next c.loop-rest.invariant c.loop-rest-test.true c.first_length-n.ensures j.test (judged-mode j)

pub returns-then-same : goal.returns-then-same
returns-then-same c = sym (pass_all c.loop-rest.invariant c.loop-rest-test.false c.if-same.true)

pub returns-else-same : goal.returns-else-same
returns-else-same c = sym (pass-6 c.loop-rest.invariant c.loop-rest-test.false c.if-same.false)
