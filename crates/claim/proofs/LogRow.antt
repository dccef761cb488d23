-- The plan, the work along it and finish, on the bytes of a row of stretches, say what the joined log says. Assumes nothing.
use Rattle.std.specs.Prelude.{◌≡◌, Bool, true, false, ◌&&◌, ℕ, ◌≤◌, leb, ℤ}
use Rattle.std.proofs.Math.Path.{refl, sym, ap}
use Rattle.std.proofs.Common.{◌∙◌, arith, leb-true}
use mathlib.Core.List.{List, map}
use Rattle.std.proofs.Math.ListN.{length}
use Rattle.std.proofs.lemmas.List.{length-map}
use Rattle.gate.specs.Outcome.{Outcome, refused, granted, onward, written}
use Rattle.row.specs.Row.{row_pieces, end_to_end}
use Rattle.record.specs.declared.Fields.{Fields}
use Rattle.modes.specs.FourModes.{Amounts}
use Rattle.figure.specs.Mode.{mode_of, mode_in_use}
use Rattle.hill.specs.Verdict.{Verdict, pass, refuse}
use Rattle.hill.specs.Log.{Record, log_fault}
use Rattle.hill.specs.Figure.{figure_of}
use Rattle.hill.specs.Finish.{outcome}
use Rattle.hill.specs.Row.{joined, on_result}
use Rattle.summary.specs.Layout.{encode}
use Rattle.summary.specs.Outcomes.{finish_outcome, log_outcome}
use Rattle.chunk.specs.Chunk.{chunk_of}
use Rattle.summary.proofs.OutcomeLaws.{finish-chunk}
use Rattle.join_plan.specs.Plan.{Line, joins, folded, plan_of_row}
use Rattle.plan_work.specs.Work.{Work}
use Rattle.plan_work.proofs.LogWork.{log-gate, log-figure}
use Rattle.outcome.specs.Outcomes.{two_to64, Summaries, ask_row, ask_log, lines_bytes, plan_bytes, work_along, plan_outcome, work_outcome}
use Rattle.outcome.proofs.Laws.{ask-4, pieces-all, encoded-all, plan-is, work-is}
use Rattle.claim.specs.Claim.{records_read, stretch_bytes, log_says, RowSize}
use Rattle.claim.proofs.Stretches.{AllRead, Reads, found, reads-readable, reads-joined, in-joined}
use Rattle.claim.proofs.Calls.{summaries, row-encoded, readable_row, accepted-row, summaries-length}

not-2-to-64 : (ps : List (List ℕ)) → (RowSize (length ps) → ⊥) → two_to64 ps ≡ false
unfolding two_to64
not-2-to-64 ps k = go (leb 2 (length ps)) (leb (length ps) 64) refl refl
  where
    go : (s t : Bool) → leb 2 (length ps) ≡ s → leb (length ps) 64 ≡ t → s && t ≡ false
    go true true d e = absurd (k (leb-true 2 (length ps) d, leb-true (length ps) 64 e))
    go true false d e = refl
    go false t d e = refl

module _ (m : ℕ) where
  -- What a readable log says.
  pub says : (log : List ℕ) → Reads log → log_says m log ≡ log_outcome m (records_read log)
  unfolding log_says
  says log r = ap (λ (o : Outcome (List Fields)). onward o (λ fs. log_outcome m (chunk_of fs))) r.1 ∙ ap (log_outcome m) (sym (found log r.0 r.1))

  module _ (u : mode_in_use m ≡ true) where
    pub finish-log : (log : List ℕ) → Reads log → finish_outcome (stretch_bytes m log) ≡ log_says m log
    unfolding stretch_bytes
    finish-log log r = finish-chunk m (records_read log) u (reads-readable m log r) ∙ sym (says log r)

    module _ (st : List (List ℕ)) (a : AllRead st) (l : 2 ≤ length st) (h : length st ≤ 64) where
      abbrev log : List (Record Amounts)
      log = joined (map records_read st)

      abbrev pub lines : List Line
      lines = plan_of_row (summaries m st)

      abbrev these : Summaries
      these = record { mode = m; row = summaries m st }

      says-joined : log_says m (joined st) ≡ log_outcome m log
      says-joined = says (joined st) (reads-joined st a) ∙ ap (log_outcome m) (in-joined st a)

      -- The gate finds the log's lowest-numbered fault.
      ask-log : ask_log these ≡ outcome (log_fault log) these
      unfolding ask_log
      ask-log = ap (λ (v : Verdict). outcome v these) (log-gate (mode_of m).algebra (mode_of m).sizes (mode_of m).laws (mode_of m).commutative (map records_read st) (readable_row m st a))

      abbrev with_plan : ℤ → Work ℤ
      with_plan f = record { figure = f; joins = joins lines; levels = folded lines }

      worked : (v : Verdict) → log_fault log ≡ v → onward (outcome v these) (λ t. granted (work_along t)) ≡ on_result with_plan (outcome v ((mode_of m).store (figure_of (mode_of m).algebra log)))
      unfolding work_along
      worked pass e =
          ap (λ (f : (mode_of m).algebra.Fig). granted (with_plan ((mode_of m).store f)))
          (log-figure (mode_of m).algebra (mode_of m).sizes (mode_of m).laws (mode_of m).commutative (map records_read st) (readable_row m st a) e)
      worked (refuse n) e = refl

      pub work-log : work_outcome (end_to_end (map (stretch_bytes m) st)) ≡ on_result with_plan (log_says m (joined st))
      unfolding log_outcome
      work-log =
          let n : length (summaries m st) ≡ length st = summaries-length m st in
          ap (λ (ps : List (List ℕ)). work_outcome (end_to_end ps)) (row-encoded m st) ∙
          work-is m u (summaries m st) (accepted-row m st a) (omega arith) (omega arith) ∙
          ap (λ (o : Outcome Summaries). onward o (λ t. granted (work_along t))) ask-log ∙
          worked (log_fault log) refl ∙
          ap (on_result with_plan) (sym says-joined)

      figure-only : (o : Outcome ℤ) → on_result (λ w. w.figure) (on_result with_plan o) ≡ o
      figure-only (refused n) = refl
      figure-only (granted f) = refl

      pub figure-log : on_result (λ w. w.figure) (work_outcome (end_to_end (map (stretch_bytes m) st))) ≡ log_says m (joined st)
      figure-log = ap (on_result (λ w. w.figure)) work-log ∙ figure-only (log_says m (joined st))

      plan-by : (v : Verdict) → log_fault log ≡ v → (cap : ℕ) → plan_outcome (end_to_end (map (stretch_bytes m) st)) cap ≡ onward (outcome v these) (λ t. written cap (plan_bytes t))
      plan-by v e cap =
          let n : length (summaries m st) ≡ length st = summaries-length m st in
          ap (λ (ps : List (List ℕ)). plan_outcome (end_to_end ps) cap) (row-encoded m st) ∙
          plan-is m u (summaries m st) (accepted-row m st a) (omega arith) (omega arith) cap ∙
          ap (λ (o : Outcome Summaries). onward o (λ t. written cap (plan_bytes t))) (ask-log ∙ ap (λ (w : Verdict). outcome w these) e)

      pub plan-log : log_fault log ≡ pass → (cap : ℕ) → plan_outcome (end_to_end (map (stretch_bytes m) st)) cap ≡ written cap (lines_bytes lines)
      unfolding plan_bytes
      plan-log = plan-by pass

      pub plan-fault : (n : ℕ) → log_fault log ≡ refuse n → (cap : ℕ) → plan_outcome (end_to_end (map (stretch_bytes m) st)) cap ≡ refused n
      plan-fault n = plan-by (refuse n)

    -- Question 4 refuses any other number of summaries.
    module _ (st : List (List ℕ)) (a : AllRead st) (k : RowSize (length st) → ⊥) where
      ask-row : ask_row (row_pieces (end_to_end (map (stretch_bytes m) st))) ≡ refused 4
      ask-row =
          let ps : List (List ℕ) = map (encode m) (summaries m st) in
          let n : length ps ≡ length st = length-map (summaries m st) (encode m) ∙ summaries-length m st in
          ap (λ (qs : List (List ℕ)). ask_row (row_pieces (end_to_end qs))) (row-encoded m st) ∙
          ap ask_row (pieces-all m ps (encoded-all m u (summaries m st) (accepted-row m st a))) ∙
          ask-4 ps (not-2-to-64 ps (λ z. k (omega (arith, z.0), omega (arith, z.1))))

      pub plan-4 : (cap : ℕ) → plan_outcome (end_to_end (map (stretch_bytes m) st)) cap ≡ refused 4
      unfolding plan_outcome
      plan-4 cap = ap (λ (o : Outcome Summaries). onward o (λ s. onward (ask_log s) (λ t. written cap (plan_bytes t)))) ask-row

      pub work-4 : work_outcome (end_to_end (map (stretch_bytes m) st)) ≡ refused 4
      unfolding work_outcome
      work-4 = ap (λ (o : Outcome Summaries). onward o (λ s. onward (ask_log s) (λ t. granted (work_along t)))) ask-row
