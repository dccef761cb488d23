-- `row_gate::pieces::judge_pieces` meets its contract: one piece more is judged and noted at each turn.
use Rattle.row_gate.specs.NotesLaws.{Judging}
use Rattle.row_gate.proofs.pieces.judge_pieces.Given as goal

abbrev pub invariant-loop-k : goal.invariant-loop-k
invariant-loop-k l = Judging l.row l.initial.notes l.notes l.rest l.k l.mode l.same
