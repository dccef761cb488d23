-- Of the log's records those before `rest` are read: specs/Pass.antt says what one turn keeps, and what a pass comes to that is stopped or that ended.
use mathlib.Core.Path.{◌≡◌, sym, ap, ◌∙◌}
use mathlib.Core.List.{List, [], ◌∷◌, ◌++◌}
use native.Mathlib.Omega.{arith}
use Rattle.std.specs.Prelude.{ℕ, ◌≤◌, length}
use Rattle.gate.specs.Outcome.{granted}
use Rattle.record.proofs.Laws.{sound}
use Rattle.record.specs.declared.Fields.{Fields}
use Rattle.hill.specs.Log.{opened_of}
use Rattle.hill.specs.Finish.{outcome}
use Rattle.chunk.specs.Chunk.{chunk_of}
use Rattle.chunk.proofs.Laws.{too_long}
use Rattle.whole_log.specs.Gate.{ask_outcome}
use Rattle.whole_log.specs.declared.Tally.{Tally}
use Rattle.whole_log.specs.Tallies.{log_verdict}
use Rattle.whole_log.specs.TallyLaws.{opened-is}
use Rattle.whole_log.specs.Pass as pass
use Rattle.whole_log.specs.Pass.{Reading}
use Rattle.whole_log.proofs.ask.Goals as goal

pub returns-then-log-gt65536 : goal.returns-then-log-gt65536
unfolding ask_outcome
returns-then-log-gt65536 c = sym (too_long opened_of c.args.log.now c.if-log-gt65536.true)

pub loop-rest-init : goal.loop-rest-init
loop-rest-init c = ([], pass.begin c.if-log-gt65536.false c.fresh-t.ensures)

pub returns-in_default : goal.returns-in_default
unfolding ask_outcome
returns-in_default c = sym (pass.stopped c.loop-rest.invariant.1 opened_of (omega (arith, c.loop-rest-test.true)) (sym c.in_default.ensures))

pub note-t-requires : goal.note-t-requires
note-t-requires c =
    let i = c.loop-rest.invariant in
    (pass.opened-low i.1, pass.deep i.1 (sym c.in-Some.ensures))

pub slice_bounds-rest-count : goal.slice_bounds-rest-count
slice_bounds-rest-count c = (sound _ _ (sym c.in-Some.ensures)).inside

pub slice_bounds-rest-start : goal.slice_bounds-rest-start
slice_bounds-rest-start c = (sound _ _ (sym c.in-Some.ensures)).inside

pub loop-rest-smaller : goal.loop-rest-smaller
loop-rest-smaller c = omega (arith, sound _ _ (sym c.in-Some.ensures))

pub loop-rest-preserved : goal.loop-rest-preserved
loop-rest-preserved c =
    let i = c.loop-rest.invariant in
    (i.0 ++ (_ ∷ []), pass.next i.1 (sym c.in-Some.ensures) (c.note-t.ensures (chunk_of i.0) i.1.tallied))

-- what is asked of a log once all its records are noted
asked : {log rest : List ℕ} {done : List Fields} {t : Tally} (i : Reading log rest done t) → length rest ≤ 0 → ask_outcome log ≡ outcome (log_verdict t) (opened_of (chunk_of done))
unfolding ask_outcome
asked i h = pass.ended i opened_of h

pub returns-in-Some-log_fault : goal.returns-in-Some-log_fault
returns-in-Some-log_fault c = pass.refuses _ c.log_fault.ensures c.in-Some-log_fault.is ∙ sym (asked c.loop-rest.invariant.1 c.loop-rest-test.false)

pub returns-in-None : goal.returns-in-None
returns-in-None c =
    let l = c.loop-rest in
    ap granted (opened-is (chunk_of l.invariant.0) l.t l.invariant.1.tallied) ∙ pass.answers _ c.log_fault.ensures c.in-None.is ∙ sym (asked l.invariant.1 c.loop-rest-test.false)
