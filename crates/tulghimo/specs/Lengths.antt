-- What the calls write is short: a length is a signed 64-bit number. Assumes nothing.
use Rattle.std.specs.Prelude.{◌≡◌, refl, Bool, true, false, ◌&&◌, List, ℕ, ◌^◌, ◌≤◌, ◌<◌, min, leb, eqb, length}
use Rattle.std.proofs.Common.{sym, subst, arith, eqb-true, leb-true}
use Rattle.std.proofs.Math.Logic.{dite}
use Rattle.std.proofs.Math.Decide.{dec_lt}
use Rattle.gate.specs.Outcome.{Outcome, refused, granted, question, onward, written}
use Rattle.gate.specs.Answers.{length_answered}
use Rattle.number.specs.Bytes.{AllBytes}
use Rattle.record.specs.Record.{records_of}
use Rattle.record.proofs.Laws.{and_right}
use Rattle.record.specs.declared.Fields.{Fields}
use Rattle.figure.specs.Mode.{mode_of, mode_in_use}
use Rattle.hill.specs.Summary.{summary_of}
use Rattle.summary.specs.Judge.{mode_at}
use Rattle.summary.specs.Decode.{decode}
use Rattle.summary.specs.Decide.{is_summary}
use Rattle.summary.proofs.DecideLaws.{decide-summary}
use Rattle.summary.specs.Accepted.{IsSummaryIn}
use Rattle.summary.proofs.Accepted.{summary-length, encode-fits, encode-decode, decoded, chunk-accepted}
use Rattle.summary.specs.Outcomes.{summary_bytes, merge_bytes, summarise_outcome, merge_outcome}
use Rattle.modes.specs.FourModes.{Amounts}
use Rattle.hill.specs.Log.{Record}
use Rattle.hill.specs.Row.{joined}
use Rattle.chunk.specs.Chunk.{chunk_of, whole_log}
use Rattle.summary.proofs.MergeBytes.{merge-accepted, merge-bytes}
use Rattle.summary.proofs.OutcomeLaws.{chunk-readable}
use Rattle.row.specs.Row.{row_pieces}
use Rattle.outcome.specs.Outcomes.{mode_of_all, Summaries, ask_row, ask_log, plan_bytes, runs_bytes, merge_row_outcome, plan_outcome, runs_outcome}
use Rattle.outcome.proofs.Through.{plan-1500}
use Rattle.merge_row.specs.RowAsks.{row_merged}
use Rattle.merge_row.specs.RowLaws.{summary-fits}
use Rattle.merge_row.specs.CallLaws.{few-4, many-4, row-refused, is_row, row_is}
use Rattle.runs.specs.CallLaws.{runs-4750}
use Rattle.day_table.specs.Table.{table_of}
use Rattle.day_table.specs.Outcomes.{table_bytes, write_log_outcome, read_table_outcome}
use Rattle.day_table.proofs.RoundTrips.{written-log, table-short}
use Rattle.day_list.specs.Days.{small_days, small_days_outcome}
use Rattle.day_list.proofs.Counts.{most-54912}
use Rattle.log_records.specs.Line.{heaviest_line_outcome}
use Rattle.log_records.proofs.CallLaws.{written-line}
use Rattle.day_sheet.specs.Sheet.{sheet_outcome}
use Rattle.day_sheet.proofs.CallLaws.{written-page}
use Rattle.valley_station.specs.Station.{held, end_outcome}
use Rattle.valley_station.specs.State.{station_of}
use Rattle.tulghimo.specs.Interface.{Short}

short-question : (n : ℕ) (t : Bool) (o : Outcome (List ℕ)) → Short (length_answered o) → Short (length_answered (question n t o))
short-question n true o h = h
short-question n false o h = tt

short-written : (cap : ℕ) (w : List ℕ) → length w < 2 ^ 63 → Short (length_answered (written cap w))
short-written cap w h = short-question 12 (leb (length w) cap) (granted w) h

fits : (cap : ℕ) (w : List ℕ) → length w ≤ 1788 → Short (length_answered (written cap w))
fits cap w h = short-written cap w (omega arith)

short-refused : {n : ℕ} (o : Outcome (List ℕ)) → o ≡ refused n → Short (length_answered o)
short-refused o e = subst (λ (p : Outcome (List ℕ)). Short (length_answered p)) (sym e) tt

-- A summary has at most 1,788 bytes: a chunk's, ..
pub short-summary : (chunk : List ℕ) (mode cap : ℕ) → Short (length_answered (summarise_outcome chunk mode cap))
unfolding summarise_outcome summary_bytes
short-summary chunk mode cap =
    short-question 1 (mode_in_use mode) _ (short-question 2 (leb (length chunk) 65_536) _ (go (records_of chunk) refl))
  where
    go : (o : Outcome (List Fields)) → records_of chunk ≡ o → Short (length_answered (onward o (λ fs. written cap (summary_bytes mode (chunk_of fs)))))
    go (refused n) e = tt
    go (granted fs) e = fits cap (summary_bytes mode (chunk_of fs)) (encode-fits mode (summary_of (mode_of mode).algebra (chunk_of fs)) (chunk-accepted mode (chunk_of fs) (chunk-readable mode chunk fs e)))

-- .. two that are merged, ..
accepted-fits : (m : ℕ) (b : List ℕ) → AllBytes b → IsSummaryIn m b → length b ≤ 1788
accepted-fits m b h i = subst (λ (w : List ℕ). length w ≤ 1788) (encode-decode m b h i) (encode-fits m (decode m b) (decoded m b i))

pub short-merge : (left right : List ℕ) (cap : ℕ) → Short (length_answered (merge_outcome left right cap))
unfolding merge_outcome
short-merge left right cap = go (is_summary left) refl (is_summary right) refl (eqb (mode_at left) (mode_at right)) refl
  where
    go : (x : Bool) → is_summary left ≡ x → (y : Bool) → is_summary right ≡ y → (z : Bool) → eqb (mode_at left) (mode_at right) ≡ z →
        Short (length_answered (question 5 (x && y) (question 6 z (written cap (merge_bytes (mode_at left) left right)))))
    go true ex true ey true ez =
        let i : IsSummaryIn (mode_at left) left = record { is = (decide-summary left).from ex; mode-is = refl } in
        let j : IsSummaryIn (mode_at left) right = record { is = (decide-summary right).from ey; mode-is = sym (eqb-true (mode_at left) (mode_at right) ez) } in
        fits cap (merge_bytes (mode_at left) left right) (accepted-fits (mode_at left) (merge_bytes (mode_at left) left right) (merge-bytes (mode_at left) left right i j) (merge-accepted (mode_at left) left right i j))
    go true ex true ey false ez = tt
    go true ex false ey z ez = tt
    go false ex y ey z ez = tt

-- .. and a row's.
pub short_row : (row : List ℕ) (cap : ℕ) → Short (length_answered (merge_row_outcome row cap))
short_row row cap = dite (dec_lt n 2) (λ h. short-refused _ (few-4 row cap refl h)) (λ a. dite (dec_lt 64 n) (λ h. short-refused _ (many-4 row cap refl h)) (λ b. go (omega arith) (omega arith) (mode_of_all (row_pieces row)) refl))
  where
    n : ℕ
    n = min 65 (length (row_pieces row))

    go : 2 ≤ n → n ≤ 64 → (o : Outcome ℕ) → mode_of_all (row_pieces row) ≡ o → Short (length_answered (merge_row_outcome row cap))
    go a b (refused k) e = short-refused _ (row-refused row cap refl a b (sym e))
    go a b (granted m) e = subst (λ (o : Outcome (List ℕ)). Short (length_answered o)) (sym (row_is row cap refl a b (sym e))) (fits cap (row_merged m row) (summary-fits (is_row row cap refl a b (sym e))))

-- A call on a row that writes short bytes for the rows that are let through is short.
short-along : (bytes : Summaries → List ℕ) (ps : List (List ℕ)) (cap : ℕ) → ((s t : Summaries) → ask_row ps ≡ granted s → ask_log s ≡ granted t → length (bytes t) < 2 ^ 63) →
    Short (length_answered (onward (ask_row ps) (λ s. onward (ask_log s) (λ t. written cap (bytes t)))))
short-along bytes ps cap h = go (ask_row ps) refl
  where
    then : (s : Summaries) → ask_row ps ≡ granted s → (o : Outcome Summaries) → ask_log s ≡ o → Short (length_answered (onward o (λ t. written cap (bytes t))))
    then s e (refused k) f = tt
    then s e (granted t) f = short-written cap (bytes t) (h s t e f)

    go : (o : Outcome Summaries) → ask_row ps ≡ o → Short (length_answered (onward o (λ s. onward (ask_log s) (λ t. written cap (bytes t)))))
    go (refused k) e = tt
    go (granted s) e = then s e (ask_log s) refl

-- A plan has at most 1,500 bytes, ..
pub short-plan : (row : List ℕ) (cap : ℕ) → Short (length_answered (plan_outcome row cap))
unfolding plan_outcome
short-plan row cap = short-along plan_bytes (row_pieces row) cap (λ s t e f. omega (arith, plan-1500 (row_pieces row) s t e f))

-- .. and its runs 4,750.
pub short-runs : (row : List ℕ) (cap : ℕ) → Short (length_answered (runs_outcome row cap))
unfolding runs_outcome
short-runs row cap = short-along runs_bytes (row_pieces row) cap (λ s t e f. omega (arith, runs-4750 (row_pieces row) s t e f))

-- A log written from a table has at most 65,520 bytes, ..
pub short-log : (table : List ℕ) (cap : ℕ) → Short (length_answered (write_log_outcome table cap))
short-log table cap = go (write_log_outcome table cap) refl
  where
    go : (o : Outcome (List ℕ)) → write_log_outcome table cap ≡ o → Short (length_answered o)
    go (refused n) e = tt
    go (granted w) e = omega (arith, (written-log table cap e).short)

-- .. the table of a log at most 57,344, ..
pub short-table : (log : List ℕ) (cap : ℕ) → Short (length_answered (read_table_outcome log cap))
unfolding read_table_outcome
short-table log cap = go (whole_log log) refl
  where
    go : (o : Outcome (List (Record Amounts))) → whole_log log ≡ o → Short (length_answered (onward o (λ xs. written cap (table_bytes (table_of xs)))))
    go (refused n) e = tt
    go (granted xs) e = short-written cap (table_bytes (table_of xs)) (omega (arith, table-short log xs e))

-- .. all small days at most 54,912, ..
pub short-days : (n cap : ℕ) → Short (length_answered (small_days_outcome n cap))
unfolding small_days_outcome
short-days n cap = go (leb 1 n && leb n 8) refl
  where
    go : (t : Bool) → leb 1 n && leb n 8 ≡ t → Short (length_answered (question 14 t (written cap (joined (small_days n)))))
    go false e = tt
    go true e = short-written cap (joined (small_days n)) (omega (arith, most-54912 n (leb-true n 8 (and_right (leb 1 n) (leb n 8) e))))

-- .. the numbers of a line at most 256, ..
pub short-line : (log : List ℕ) (cap : ℕ) → Short (length_answered (heaviest_line_outcome log cap))
short-line log cap = go (heaviest_line_outcome log cap) refl
  where
    go : (o : Outcome (List ℕ)) → heaviest_line_outcome log cap ≡ o → Short (length_answered o)
    go (refused n) e = tt
    go (granted w) e = let b = (written-line log cap e).2 in omega (arith, b.whole_length, b.few)

-- .. and a page at most 1,620.
pub short-page : (log : List ℕ) (mode page cap : ℕ) → Short (length_answered (sheet_outcome log mode page cap))
short-page log mode page cap = go (sheet_outcome log mode page cap) refl
  where
    go : (o : Outcome (List ℕ)) → sheet_outcome log mode page cap ≡ o → Short (length_answered o)
    go (refused n) e = tt
    go (granted w) e = let p = (written-page log mode page cap e).is-page in omega (arith, p.long, p.few)

-- What a farm's slot holds, where it is a summary, has at most 1,788 bytes.
pub short-end : (s : List ℕ) (farm cap : ℕ) → Short (length_answered (end_outcome (station_of s) farm cap))
unfolding end_outcome
short-end s farm cap = short-question 20 (leb farm 7) _ (go (is_summary piece) refl)
  where
    piece : List ℕ
    piece = held (station_of s) farm

    go : (t : Bool) → is_summary (held (station_of s) farm) ≡ t → Short (length_answered (question 5 t (written cap (held (station_of s) farm))))
    go true e = fits cap piece (summary-length (mode_at piece) piece (record { is = (decide-summary piece).from e; mode-is = refl })).few
    go false e = tt
