-- `row_gate::pieces::judge_pieces` meets its contract: one piece more is judged and noted at each turn.
use Rattle.std.proofs.Common.{sym, ap, subst, arith, length-take}
use Rattle.std.proofs.lemmas.Result.{err_from_is_err_and}
use Rattle.row.specs.Laws.{first-within}
use Rattle.judge.specs.declared.Piece.{Piece}
use Rattle.judge.specs.Numbers.{Fits}
use Rattle.judge.specs.Laws.{judges, judges-not, summary-fits}
use Rattle.row_gate.specs.NotesLaws.{judging-not, judging-next}
use Rattle.row_gate.proofs.pieces.judge_pieces.Goals as goal

pub slice_bounds-judge-end : goal.slice_bounds-judge-end
slice_bounds-judge-end c = let i = (first-within c.loop-k.rest.now).inside in let e = c.first_length-first.ensures in simp length-take (omega arith)

pub returns-in_err-piece : goal.returns-in_err-piece
returns-in_err-piece c =
    let n = judges-not _ _ c.judge.ensures _ c.in_err-piece.was in
    let p = err_from_is_err_and c.from_residual.result c.from_residual.ensures.1 in
    let r = judging-not _ _ _ _ _ _ _ c.loop-k.invariant (omega arith) _ c.first_length-first.ensures n.0 in
    record { answer = rw (p.1, p.2, n.1) r.0; notes = r.1 }

pub numbers_of-requires : goal.numbers_of-requires
numbers_of-requires c =
    let p = c.in_ok-piece.piece in
    let j = judges _ c.judge.result c.judge.ensures p c.in_ok-piece.was in
    subst Fits (sym (ap (λ (x : Piece). x.head) j.piece)) (summary-fits _ j.summary)

pub slice_bounds-rest-count : goal.slice_bounds-rest-count
slice_bounds-rest-count c = let i = (first-within c.loop-k.rest.now).inside in let e = c.first_length-first.ensures in omega arith

pub slice_bounds-rest-start : goal.slice_bounds-rest-start
slice_bounds-rest-start c = slice_bounds-rest-count c

pub loop-k-preserved : goal.loop-k-preserved
loop-k-preserved c =
    let l = c.loop-k in
    let p = c.in_ok-piece.piece in
    let j = judges _ c.judge.result c.judge.ensures p c.in_ok-piece.was in
    judging-next _ _ _ _ _ _ _ l.invariant (omega arith) _ c.first_length-first.ensures p _ _ (omega arith) j c.numbers_of.ensures c.first_mode-mode.ensures
