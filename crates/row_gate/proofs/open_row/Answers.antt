-- `row_gate::open_row` meets its contract: the questions one after the other.
use Rattle.std.proofs.Common.{inl, inr, arith}
use Rattle.std.proofs.lemmas.Result.{err_from_is_err_and}
use Rattle.row_gate.specs.RowLaws.{few-of}
use Rattle.row_gate.specs.AsksLaws.{few-4, many-4, not-one, in-range, faulty, through}
use Rattle.row_gate.proofs.open_row.Goals as goal

pub returns-then-count-lt2-clause-found : goal.returns-then-count-lt2-clause-found
returns-then-count-lt2-clause-found c = elim c.then-count-lt2.either [ inl h ↦ few-4 _ _ c.count_pieces-count.ensures h | inr h ↦ many-4 _ _ c.count_pieces-count.ensures h.1 ]

pub returns-in_err-mode-clause-found : goal.returns-in_err-mode-clause-found
returns-in_err-mode-clause-found c =
    let p = err_from_is_err_and c.from_residual.result c.from_residual.ensures.1 in
    rw (p.1, p.2) (not-one _ _ c.count_pieces-count.ensures (omega arith) (omega arith) c.in_err-mode.ensures.answer)

pub row_fault-requires-clause-few : goal.row_fault-requires-clause-few
row_fault-requires-clause-few c = few-of (in-range _ _ c.count_pieces-count.ensures (omega arith) (omega arith) c.in_ok-mode.ensures.answer _ c.judge_pieces.ensures.notes.noted)

pub returns-in-Some-clause-found : goal.returns-in-Some-clause-found
returns-in-Some-clause-found c = faulty _ _ c.count_pieces-count.ensures (omega arith) (omega arith) c.in_ok-mode.ensures.answer _ c.judge_pieces.ensures.notes.noted c.judge_pieces.array_long _ c.row_fault.ensures c.in-Some.is

pub returns-clause-found : goal.returns-clause-found
returns-clause-found c = through _ _ c.count_pieces-count.ensures (omega arith) (omega arith) c.in_ok-mode.ensures.answer _ c.judge_pieces.ensures.notes.noted c.judge_pieces.array_long _ c.row_fault.ensures c.in_default.is
