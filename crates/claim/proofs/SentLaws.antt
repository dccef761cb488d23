-- Document 02, L8: what was sent while short records had another floor is the summary of the same chunk with these records in full and that floor, and says so
-- in every row. Assumes nothing.
use Rattle.std.specs.Prelude.{◌≡◌, refl, true, List, [], ◌∷◌, map, ℕ, ◌≤◌, leb, length, drop, ℤ}
use Rattle.std.proofs.Common.{sym, ap₂, subst, ◌∙◌, arith, length-append, length-drop}
use Rattle.std.proofs.Math.Path.{ap}
use Rattle.std.proofs.lemmas.List.{length-map}
use Rattle.gate.specs.Outcome.{granted, written}
use Rattle.number.specs.Bytes.{AllBytes}
use Rattle.number.specs.FieldLaws.{bytes_drop}
use Rattle.record.specs.Record.{within, default_ceiling, read_of, records_of, fields_bytes}
use Rattle.record.proofs.Laws.{sound, Shape, full, short, batched, closed, shape}
use Rattle.record.proofs.Readable.{First, first_read}
use Rattle.record.proofs.Encoding.{Reread, open-back, AllReread, chunk_read, bytes-again, read_back}
use Rattle.record.specs.declared.Fields.{Fields}
use Rattle.modes.specs.FourModes.{Amounts}
use Rattle.figure.specs.Mode.{mode_of, mode_in_use}
use Rattle.hill.specs.Verdict.{pass}
use Rattle.hill.specs.Log.{Record, log_fault}
use Rattle.hill.specs.Row.{joined, Call, replay, answers, Proper, on_result}
use Rattle.hill.proofs.RowLaws.{SameRows, replay-joined}
use Rattle.summary.specs.Outcomes.{summary_bytes, summarise_outcome, finish_outcome, log_outcome}
use Rattle.summary.proofs.OutcomeLaws.{summarise-is}
use Rattle.chunk.specs.Chunk.{record_of, chunk_of}
use Rattle.join_plan.proofs.PlanOfLog.{plan-few}
use Rattle.claim.specs.Claim.{fields_read, records_read, stretch_bytes, log_says, RowSize, Lent, buffer_of, Neighbours, by_calls, on_stretches, WellFormed}
use Rattle.claim.proofs.Stretches.{Reads, AllRead, read-each, found, reads-joined, in-joined}
use Rattle.claim.proofs.Lines.{PlanBy, plan-by}
use Rattle.claim.proofs.Calls.{list_same}
use Rattle.claim.proofs.LogRow.{says, finish-log, lines, work-log, figure-log, plan-log, plan-fault, plan-4, work-4}
use Rattle.claim.proofs.FirstRow.{only_one, told-lengths, lengths}
use Rattle.claim.proofs.Demand3.{by-fault, no-fault, fault, recursion}
use Rattle.claim.proofs.ReadThenLaws.{with_floor, floor-range, fields-now, then_is}
use Rattle.claim.specs.ShortRecords.{Sent, records_then, sent_bytes, said_then, IsSent, AllSent, at_length18, in_full, full_log, sent_row, SentPlan, KeepMeaning}

-- ---- a chunk in full

module _ (l : ℤ) (fits : within l ≡ true) where
  -- a record in full is read back, and is what was then read
  record AtLength18 (f : Fields) : Type 0 where
    back : Reread (at_length18 l f)
    same : record_of (at_length18 l f) ≡ record_of (with_floor l f)

  as-it-is : (s : List ℕ) (f : Fields) → AllBytes s → read_of s ≡ granted f → Reread f
  as-it-is s f all e = record {
    long = omega (arith, ap length (bytes-again s all f e), length-append (fields_bytes f) (drop f.length s), length-drop f.length s, sound s f e);
    reads = λ r. read_back s all f r e;
  }

  at-length-18 : (s : List ℕ) (f : Fields) → AllBytes s → read_of s ≡ granted f → Shape s f → AtLength18 f
  at-length-18 s f all e (full e0 e2) = record { back = as-it-is s f all e; same = refl }
  at-length-18 s f all e (short e0 e2) = record { back = open-back _ _ l default_ceiling (floor-range l fits _ _ ∙ (sound s f e).ranged); same = refl }
  at-length-18 s f all e (batched e0 e2) = record { back = as-it-is s f all e; same = refl }
  at-length-18 s f all e (closed e0 e2) = record { back = as-it-is s f all e; same = refl }

  record AllAtLength18 (fs : List Fields) : Type 0 where
    back : AllReread (map (at_length18 l) fs)
    same : chunk_of (map (at_length18 l) fs) ≡ chunk_of (map (with_floor l) fs)

  all-at-length-18 : (fs : List Fields) (b : List ℕ) → AllBytes b → records_of b ≡ granted fs → AllAtLength18 fs
  all-at-length-18 [] b all e = record { back = tt; same = refl }
  all-at-length-18 (f ∷ fs) b all e =
      let w : First b f fs = first_read b f fs e in
      let h : AtLength18 f = at-length-18 b f all w.here (shape b f w.here) in
      let t : AllAtLength18 fs = all-at-length-18 fs (drop f.length b) (bytes_drop f.length b all) w.rest in
      record { back = (h.back, t.back); same = ap₂ (λ (x : Record Amounts) (xs : List (Record Amounts)). x ∷ xs) h.same t.same }

module _ (s : Sent) (i : IsSent s) where
  all-18 : AllAtLength18 s.floor i.floor-fits (fields_read s.chunk)
  all-18 = all-at-length-18 s.floor i.floor-fits (fields_read s.chunk) s.chunk i.bytes (fields-now s i)

  full-read : records_of (in_full s) ≡ granted (map (at_length18 s.floor) (fields_read s.chunk))
  unfolding in_full
  full-read = chunk_read (map (at_length18 s.floor) (fields_read s.chunk)) all-18.back

  full-reads : Reads (in_full s)
  full-reads = (map (at_length18 s.floor) (fields_read s.chunk), full-read)

  -- its records are those that were read when it was summarised
  pub full-records : records_read (in_full s) ≡ records_then s
  full-records = found (in_full s) (map (at_length18 s.floor) (fields_read s.chunk)) full-read ∙ all-18.same ∙ sym (then_is s i)

  -- and its summary is the one that was sent
  pub full-summary : (mode : ℕ) → stretch_bytes mode (in_full s) ≡ sent_bytes mode s
  unfolding stretch_bytes
  full-summary mode = ap (summary_bytes mode) full-records

  -- which summarise writes for it, unless it is too long now
  pub full-written : (mode cap : ℕ) → mode_in_use mode ≡ true → length (in_full s) ≤ 65_536 → summarise_outcome (in_full s) mode cap ≡ written cap (sent_bytes mode s)
  full-written mode cap u few =
      summarise-is (in_full s) mode cap full-reads.0 u few full-reads.1 ∙ ap (λ (xs : List (Record Amounts)). written cap (summary_bytes mode xs)) (sym (found (in_full s) full-reads.0 full-reads.1) ∙ full-records)

  pub full-says : (mode : ℕ) → log_says mode (in_full s) ≡ said_then mode s
  full-says mode = says mode (in_full s) full-reads ∙ ap (log_outcome mode) full-records

-- ---- a row of them

pub all_read : (ss : List Sent) → AllSent ss → AllRead (map in_full ss)
all_read [] a = tt
all_read (s ∷ ss) a = (full-reads s a.0, all_read ss a.1)

pub all-records : (ss : List Sent) → AllSent ss → map records_read (map in_full ss) ≡ map records_then ss
all-records [] a = refl
all-records (s ∷ ss) a = ap₂ (λ (x : List (Record Amounts)) (xs : List (List (Record Amounts))). x ∷ xs) (full-records s a.0) (all-records ss a.1)

all-summaries : (mode : ℕ) (ss : List Sent) → AllSent ss → map (stretch_bytes mode) (map in_full ss) ≡ map (sent_bytes mode) ss
all-summaries mode [] a = refl
all-summaries mode (s ∷ ss) a = ap₂ (λ (x : List ℕ) (xs : List (List ℕ)). x ∷ xs) (full-summary s a.0 mode) (all-summaries mode ss a.1)

module _ (m : ℕ) (used : mode_in_use m ≡ true) (ss : List Sent) (a : AllSent ss) where
  abbrev cs : List (List ℕ)
  cs = map in_full ss

  reads : AllRead cs
  reads = all_read ss a

  row_is : sent_row m ss ≡ map (stretch_bytes m) cs
  row_is = sym (all-summaries m ss a)

  many : length cs ≡ length ss
  many = length-map ss in_full

  sized : RowSize (length ss) → RowSize (length cs)
  sized z = (omega (arith, z.0, many), omega (arith, z.1, many))

  log_is : records_read (full_log ss) ≡ joined (map records_read cs)
  log_is = in-joined cs reads

  planned : RowSize (length ss) → WellFormed (records_read (full_log ss)) → SentPlan m ss
  planned y w =
      let z = sized y in
      let e : log_fault (joined (map records_read cs)) ≡ pass = ap log_fault (sym log_is) ∙ no-fault (records_read (full_log ss)) w in
      let q : PlanBy (map records_then ss) (lines m used cs reads z.0 z.1) =
      subst (λ (rs : List (List (Record Amounts))). PlanBy rs (lines m used cs reads z.0 z.1)) (all-records ss a) (plan-by (mode_of m).algebra (mode_of m).laws (map records_read cs) e) in
      record {
        lines = lines m used cs reads z.0 z.1;
        described = q.described;
        only = q.only;
        one_line = q.one_line;
        no_line = q.no_line;
        few =
            let n : length (map records_read cs) ≡ length ss = length-map cs records_read ∙ many in
            omega (arith, plan-few (mode_of m).algebra (mode_of m).laws (map records_read cs) e (omega (arith, y.0)));
        plan = λ cap. rw row_is (plan-log m used cs reads z.0 z.1 e cap);
        work = rw row_is (work-log m used cs reads z.0 z.1);
      }

  -- WHAT WAS SENT KEEPS ITS MEANING, whichever of it was sent before the change, and in whatever order it is merged.
  pub keep-meaning : (merges : List (Call Lent)) → Proper by_calls Neighbours merges (sent_row m ss) → KeepMeaning m ss merges
  keep-meaning merges p =
      let w : SameRows (stretch_bytes m) (on_stretches m) by_calls Neighbours AllRead merges cs =
      list_same m used merges cs reads (subst (Proper by_calls Neighbours merges) row_is p) in
      record {
        records = all-records ss a;
        log-records = log_is ∙ ap joined (all-records ss a);
        summaries = sym row_is;
        fault = fault m (full_log ss) (reads-joined cs reads);
        recursion = recursion m (full_log ss) (reads-joined cs reads);
        readable = read-each (replay (on_stretches m) merges cs) w.stays;
        stretches = replay-joined (λ b s. leb (length (stretch_bytes m s)) (length (buffer_of b))) merges cs;
        answered = rw row_is (told-lengths merges (map (stretch_bytes m) cs) ∙ ap (map (on_result length)) w.told ∙ lengths (stretch_bytes m) (answers (on_stretches m) merges cs));
        pieces = rw row_is w.rows;
        finished = λ q k.
            ap finish_outcome (only_one (stretch_bytes m) (replay (on_stretches m) merges cs) q (sym w.rows ∙ (rw row_is at k)) ∙ ap (stretch_bytes m) (replay-joined (λ b s. leb (length (stretch_bytes m s)) (length (buffer_of b))) merges cs)) ∙
            finish-log m used (full_log ss) (reads-joined cs reads);
        worked = λ z. rw row_is (figure-log m used cs reads (sized z).0 (sized z).1);
        planned = planned;
        plan-refused = λ z n f cap. rw row_is (plan-fault m used cs reads (sized z).0 (sized z).1 n (ap log_fault (sym log_is) ∙ by-fault (records_read (full_log ss)) n f) cap);
        row-refused = λ k.
            let k' : RowSize (length cs) → ⊥ = λ z. k (omega (arith, z.0, many), omega (arith, z.1, many)) in
            (λ cap. rw row_is (plan-4 m used cs reads k' cap), rw row_is (work-4 m used cs reads k'));
      }
