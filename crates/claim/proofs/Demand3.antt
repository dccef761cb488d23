-- DEMAND 3, one theorem about a log, its cut, the mode and the whole list of merges. Assumes nothing.
use Rattle.std.specs.Prelude.{◌≡◌, refl, ◌↔◌, true, List, map, ℕ, ◌<◌, leb, length}
use Rattle.std.proofs.Common.{sym, subst, ◌∙◌, arith}
use Rattle.std.proofs.Math.Path.{ap}
use Rattle.std.proofs.lemmas.List.{length-map}
use Rattle.gate.specs.Outcome.{refused, granted}
use Rattle.modes.specs.FourModes.{Amounts}
use Rattle.figure.specs.Mode.{mode_of, mode_in_use}
use Rattle.hill.specs.Verdict.{Verdict, pass, refuse}
use Rattle.hill.specs.Log.{Record, log_fault}
use Rattle.hill.proofs.Faults.{lowest-log}
use Rattle.hill.proofs.FigureLaws.{TreeOfLog, log-tree}
use Rattle.hill.specs.Figure.{figure_of}
use Rattle.hill.specs.Finish.{outcome}
use Rattle.hill.specs.Row.{joined, Call, replay, answers, Proper, on_result}
use Rattle.hill.proofs.RowLaws.{SameRows, replay-joined}
use Rattle.join_plan.proofs.PlanOfLog.{plan-few}
use Rattle.summary.specs.Outcomes.{finish_outcome, log_outcome}
use Rattle.claim.specs.Claim.{fields_read, records_read, parts, cut_at, stretch_bytes, log_says, first_row, AllChunks, IsCut, RowSize, Lent, buffer_of, Neighbours, by_calls, on_stretches, LowestFault, WellFormed, Recursion, AreMerges, Planned, Claimed}
use Rattle.claim.proofs.Stretches.{AllRead, Reads, read-each, reads-joined, in-joined}
use Rattle.claim.proofs.Cut.{parts-joined, cut-read, cut-reads, cut-records, cut-joined, every-cut}
use Rattle.claim.proofs.Lines.{PlanBy, plan-by}
use Rattle.claim.proofs.Calls.{list_same}
use Rattle.claim.proofs.LogRow.{says, finish-log, lines, work-log, figure-log, plan-log, plan-fault, plan-4, work-4}
use Rattle.claim.proofs.FirstRow.{first-row, only_one, told-lengths, lengths}

-- The verdict on a log, by its questions.
module _ (xs : List (Record Amounts)) where
  pub by-fault : (n : ℕ) → LowestFault xs n → log_fault xs ≡ refuse n
  by-fault n f = go (log_fault xs) refl
    where
      go : (v : Verdict) → log_fault xs ≡ v → v ≡ refuse n
      go pass e = absurd ((lowest-log xs).none e n f.0)
      go (refuse k) e =
          let l = (lowest-log xs).least k e in
          let k-is : k ≡ n = omega (arith, l.1 n f.0, f.1 k l.0) in
          ap refuse k-is

  pub no-fault : WellFormed xs → log_fault xs ≡ pass
  no-fault w = go (log_fault xs) refl
    where
      go : (v : Verdict) → log_fault xs ≡ v → v ≡ pass
      go pass e = refl
      go (refuse k) e = absurd (w k ((lowest-log xs).least k e).0)

-- What a readable log says, by its lowest fault.
module _ (m : ℕ) (log : List ℕ) (r : Reads log) where
  says-by : (v : Verdict) → log_fault (records_read log) ≡ v → log_says m log ≡ outcome v ((mode_of m).store (figure_of (mode_of m).algebra (records_read log)))
  unfolding log_outcome
  says-by v e = says m log r ∙ ap (λ (w : Verdict). outcome w ((mode_of m).store (figure_of (mode_of m).algebra (records_read log)))) e

  pub fault : (n : ℕ) → (log_says m log ≡ refused n) ↔ LowestFault (records_read log) n
  fault n = (go (log_fault (records_read log)) refl, λ f. says-by (refuse n) (by-fault (records_read log) n f))
    where
      go : (v : Verdict) → log_fault (records_read log) ≡ v → log_says m log ≡ refused n → LowestFault (records_read log) n
      go pass e h = let z : ◌≡◌ {A = ℕ} 0 1 = cc (says-by pass e) in absurd (omega arith)
      go (refuse k) e h = let k-is : k ≡ n = cc (says-by (refuse k) e) in subst (LowestFault (records_read log)) k-is ((lowest-log (records_read log)).least k e)

  pub recursion : WellFormed (records_read log) → Recursion m log
  recursion w =
      let v : log_fault (records_read log) ≡ pass = no-fault (records_read log) w in
      let t : TreeOfLog (mode_of m).algebra (records_read log) = log-tree (mode_of m).algebra (mode_of m).laws (records_read log) v in
      record {
        root = t.root;
        below = t.below;
        traversal = t.traversal;
        only = t.only;
        figure = says-by pass v ∙ ap (λ (f : (mode_of m).algebra.Fig). granted ((mode_of m).store f)) t.its-figure;
      }

module _ (m : ℕ) (log places : List ℕ) (buffers : List (List ℕ)) (i : IsCut m log places buffers) where
  abbrev cs : List (List ℕ)
  cs = cut_at log places

  used : mode_in_use m ≡ true
  used = i.mode-in-use

  reads : AllRead cs
  reads = cut-reads log places i.readable i.between

  whole : joined cs ≡ log
  whole = cut-joined log places i.readable i.between

  row_is : first_row m cs buffers ≡ map (stretch_bytes m) cs
  row_is = first-row m used cs buffers reads i.each

  records-are : map records_read cs ≡ parts (records_read log) 0 places
  records-are = cut-records log places i.readable i.between

  joined-fault : log_fault (joined (map records_read cs)) ≡ log_fault (records_read log)
  joined-fault = ap log_fault (sym (in-joined cs reads) ∙ ap records_read whole)

  planned : RowSize (length cs) → WellFormed (records_read log) → Planned m log places buffers
  planned z w =
      let e : log_fault (joined (map records_read cs)) ≡ pass = joined-fault ∙ no-fault (records_read log) w in
      let q : PlanBy (parts (records_read log) 0 places) (lines m used cs reads z.0 z.1) =
      subst (λ (rs : List (List (Record Amounts))). PlanBy rs (lines m used cs reads z.0 z.1)) records-are (plan-by (mode_of m).algebra (mode_of m).laws (map records_read cs) e) in
      record {
        lines = lines m used cs reads z.0 z.1;
        described = q.described;
        only = q.only;
        one_line = q.one_line;
        no_line = q.no_line;
        few =
            let n : length (map records_read cs) ≡ length cs = length-map cs records_read in
            omega (arith, plan-few (mode_of m).algebra (mode_of m).laws (map records_read cs) e (omega (arith, z.0)));
        plan = λ cap. rw row_is (plan-log m used cs reads z.0 z.1 e cap);
        work = rw row_is (rw whole at (work-log m used cs reads z.0 z.1));
      }

  holds : (merges : List (Call Lent)) → AreMerges m log places buffers merges → Claimed m log places buffers merges
  holds merges p =
      let w : SameRows (stretch_bytes m) (on_stretches m) by_calls Neighbours AllRead merges cs =
      list_same m used merges cs reads (rw row_is at p) in
      let j : joined (replay (on_stretches m) merges cs) ≡ log =
      replay-joined (λ b s. leb (length (stretch_bytes m s)) (length (buffer_of b))) merges cs ∙ whole in
      record {
        cut-read = cut-read log places i.readable i.between;
        cut-joined = whole;
        cut-records = parts-joined (records_read log) 0 places (length (fields_read log)) i.between;
        fault = fault m log i.readable;
        recursion = recursion m log i.readable;
        readable = read-each (replay (on_stretches m) merges cs) w.stays;
        stretches = j;
        answered = rw row_is (told-lengths merges (map (stretch_bytes m) cs) ∙ ap (map (on_result length)) w.told ∙ lengths (stretch_bytes m) (answers (on_stretches m) merges cs));
        pieces = rw row_is w.rows;
        finished = λ q k.
            ap finish_outcome (only_one (stretch_bytes m) (replay (on_stretches m) merges cs) q (sym w.rows ∙ (rw row_is at k)) ∙ ap (stretch_bytes m) j) ∙
            finish-log m used log i.readable;
        worked = λ z. rw row_is (figure-log m used cs reads z.0 z.1 ∙ ap (log_says m) whole);
        planned = planned;
        plan-refused = λ z n f cap. rw row_is (plan-fault m used cs reads z.0 z.1 n (joined-fault ∙ by-fault (records_read log) n f) cap);
        row-refused = λ k. (λ cap. rw row_is (plan-4 m used cs reads k cap), rw row_is (work-4 m used cs reads k));
      }

-- For every log of readable records, every mode, every cut of the log between records into chunks within the limits, and every list of merges on neighbours.
pub demand3 : (mode : ℕ) (log places : List ℕ) (buffers : List (List ℕ)) (merges : List (Call Lent)) →
    IsCut mode log places buffers → AreMerges mode log places buffers merges → Claimed mode log places buffers merges
demand3 mode log places buffers merges i p = holds mode log places buffers i merges p

-- Nothing is lost by speaking of places: any readable chunks are a cut of what they join to (Cut, every-cut), so the claim holds of them.
pub any-chunks : (mode : ℕ) (chunks buffers : List (List ℕ)) (merges : List (Call Lent)) → mode_in_use mode ≡ true → 0 < length chunks → AllRead chunks → AllChunks mode chunks buffers →
    Proper by_calls Neighbours merges (first_row mode chunks buffers) → (places : List ℕ) × (cut_at (joined chunks) places ≡ chunks) × Claimed mode (joined chunks) places buffers merges
any-chunks mode chunks buffers merges u n a c p =
    let (places, o, e) = every-cut (joined chunks) chunks n a refl in
    let i : IsCut mode (joined chunks) places buffers =
    record { mode-in-use = u; readable = reads-joined chunks a; between = o; each = subst (λ (cs : List (List ℕ)). AllChunks mode cs buffers) (sym e) c } in
    (places, e, demand3 mode (joined chunks) places buffers merges i (subst (λ (cs : List (List ℕ)). Proper by_calls Neighbours merges (first_row mode cs buffers)) (sym e) p))
