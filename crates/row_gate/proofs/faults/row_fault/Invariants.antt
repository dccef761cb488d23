-- `row_gate::faults::row_fault` meets its contract: one piece more is passed at each turn.
use Rattle.row_gate.specs.ToldLaws.{Spanning}
use Rattle.row_gate.proofs.faults.row_fault.Given as goal

abbrev pub invariant-loop-note : goal.invariant-loop-note
invariant-loop-note l = Spanning l.notes l.s l.note-index
