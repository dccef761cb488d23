-- Document 02, L2: two logs that differ in batches only have the same answers of every call but reading, and demand 3 says the same of both. Assumes nothing.
use Rattle.std.specs.Prelude.{◌≡◌, refl, true, ℕ, ◌^◌, ◌≤◌, ◌<◌, length, ℤ}
use Rattle.std.proofs.Common.{sym, ◌∙◌, drop_at}
use Rattle.std.proofs.Math.Path.{ap}
use mathlib.Core.List.{List, [], ◌∷◌, ◌++◌, map, map-append}
use borrow.Author.Tests.{le-leb}
use Rattle.gate.specs.Outcome.{granted}
use Rattle.record.specs.Record.{in_range, read_of, before, records_of, open_bytes, batch_bytes}
use Rattle.record.proofs.Laws.{records-next, onto}
use Rattle.record.proofs.Joined.{records-append}
use Rattle.record.proofs.Encoding.{open-length, batch-length, read-open, read-with-batch}
use Rattle.record.specs.declared.Fields.{Fields}
use Rattle.modes.specs.FourModes.{Amounts}
use Rattle.hill.specs.Log.{Record}
use Rattle.hill.specs.Row.{Call, replay}
use Rattle.summary.specs.Outcomes.{summary_bytes, summarise_outcome}
use Rattle.chunk.specs.Chunk.{SameRecords, without_batch, SameButBatches}
use Rattle.chunk.proofs.Laws.{batches-aside, same_log}
use Rattle.outcome.specs.Day.{day_outcome}
use Rattle.day_table.specs.Outcomes.{read_table_outcome}
use Rattle.log_records.specs.Line.{heaviest_line_outcome}
use Rattle.day_sheet.specs.Sheet.{sheet_outcome}
use Rattle.common_record.specs.Common.{common_outcome}
use Rattle.claim.specs.Claim.{records_read, parts, cut_at, stretch_bytes, log_says, IsCut, Lent, by_calls, on_stretches, start_row, AreMerges, Claimed}
use Rattle.claim.proofs.Stretches.{found}
use Rattle.claim.proofs.Cut.{cut-reads, cut-records}
use Rattle.claim.proofs.FirstRow.{first-row, only_one}
use Rattle.claim.proofs.Demand3.{demand3}
use Rattle.claim.specs.Batches.{SameAnswers, SameClaim}

-- ---- the row that a cut log starts depends on what `record_of` leaves of its records alone

stretches : (mode : ℕ) (cs : List (List ℕ)) → map (stretch_bytes mode) cs ≡ map (summary_bytes mode) (map records_read cs)
unfolding stretch_bytes
stretches mode [] = refl
stretches mode (c ∷ cs) = ap (λ (l : List (List ℕ)). stretch_bytes mode c ∷ l) (stretches mode cs)

module _ (mode : ℕ) (log places : List ℕ) (buffers : List (List ℕ)) (i : IsCut mode log places buffers) where
  pub row-of : start_row mode log places buffers ≡ map (summary_bytes mode) (parts (records_read log) 0 places)
  row-of =
      first-row mode i.mode-in-use (cut_at log places) buffers (cut-reads log places i.readable i.between) i.each
      ∙ stretches mode (cut_at log places)
      ∙ ap (map (summary_bytes mode)) (cut-records log places i.readable i.between)

  -- one piece that is left is the summary of the log
  piece_of : (merges : List (Call Lent)) → AreMerges mode log places buffers merges → (p : List ℕ) → replay by_calls merges (start_row mode log places buffers) ≡ p ∷ [] → p ≡ stretch_bytes mode log
  piece_of merges m p e =
      let c : Claimed mode log places buffers merges = demand3 mode log places buffers merges i m in
      only_one (stretch_bytes mode) (replay (on_stretches mode) merges (cut_at log places)) p (sym c.pieces ∙ e) ∙ ap (stretch_bytes mode) c.stretches

-- ---- two logs of which `record_of` leaves the same

module _ (a b : List ℕ) (r : SameRecords a b) where
  records-same : records_read a ≡ records_read b
  records-same = found a r.left r.left-read ∙ r.holds ∙ sym (found b r.right r.right-read)

  summaries-same : (mode : ℕ) → stretch_bytes mode a ≡ stretch_bytes mode b
  unfolding stretch_bytes
  summaries-same mode = ap (summary_bytes mode) records-same

  summarise-same : length a ≤ 65_536 → length b ≤ 65_536 → (mode cap : ℕ) → summarise_outcome a mode cap ≡ summarise_outcome b mode cap
  unfolding summarise_outcome
  summarise-same m n mode cap = rw (le-leb (length a) 65_536 m, le-leb (length b) 65_536 n, r.left-read, r.right-read, r.holds)

  pub same-answers : length a ≤ 65_536 → length b ≤ 65_536 → SameAnswers a b
  unfolding day_outcome read_table_outcome heaviest_line_outcome sheet_outcome common_outcome
  same-answers m n = record {
    summarise = summarise-same m n;
    whole = same_log r m n;
    day = rw (same_log r m n);
    read_table = λ cap. rw (same_log r m n);
    heaviest-line = λ cap. rw (same_log r m n);
    sheet = λ mode page cap. rw (same_log r m n);
    common = λ x y. rw (same_log r m n);
  }

  says_same : (mode : ℕ) → log_says mode a ≡ log_says mode b
  unfolding log_says
  says_same mode = rw (r.left-read, r.right-read, r.holds)

  pub same-claim : (mode : ℕ) → SameClaim mode a b
  same-claim mode = record {
    records = records-same;
    summary = summaries-same mode;
    says = says_same mode;
    row = λ places buffers buffers' i j.
        row-of mode a places buffers i
        ∙ ap (λ (xs : List (Record Amounts)). map (summary_bytes mode) (parts xs 0 places)) records-same
        ∙ sym (row-of mode b places buffers' j);
    piece = λ places places' buffers buffers' merges merges' i j m n p q e f.
        piece_of mode a places buffers i merges m p e ∙ summaries-same mode ∙ sym (piece_of mode b places' buffers' j merges' n q f);
  }

-- "TWO LOGS, BOTH TAKEN, THAT DIFFER IN BATCHES ONLY HAVE EQUAL SUMMARIES", and equal answers of every call on them but reading.
pub batches-ignored : (a b : List ℕ) → SameButBatches a b → length a ≤ 65_536 → length b ≤ 65_536 → SameAnswers a b
batches-ignored a b d m n = same-answers a b (batches-aside d) m n

-- WHAT DEMAND 3 SAYS OF ONE IT SAYS OF THE OTHER.
pub batches-claim : (a b : List ℕ) → SameButBatches a b → (mode : ℕ) → SameClaim mode a b
batches-claim a b d mode = same-claim a b (batches-aside d) mode

-- ---- on bytes: whatever readable chunks stand before and after it, an open record may be given a batch, or another one

module _ (x y : List ℕ) {fs gs : List Fields} (p : records_of x ≡ granted fs) (q : records_of y ≡ granted gs) where
  record-between : (w : List ℕ) (f : Fields) → read_of (w ++ y) ≡ granted f → length w ≡ f.length → records_of (x ++ (w ++ y)) ≡ granted (fs ++ (f ∷ gs))
  unfolding onto
  record-between w f e n =
      records-append x (w ++ y) fs p
      ∙ ap (onto fs) (records-next (w ++ y) f e ∙ ap (λ (t : List ℕ). before f (records_of t)) (drop_at w y f.length n) ∙ ap (before f) q)

  same-but : (w w' : List ℕ) (f g : Fields) → read_of (w ++ y) ≡ granted f → read_of (w' ++ y) ≡ granted g → length w ≡ f.length → length w' ≡ g.length → without_batch f ≡ without_batch g
      → SameButBatches (x ++ (w ++ y)) (x ++ (w' ++ y))
  same-but w w' f g e e' n n' k = record {
    left = fs ++ (f ∷ gs);
    right = fs ++ (g ∷ gs);
    left-read = record-between w f e n;
    right-read = record-between w' g e' n';
    holds = map-append without_batch fs (f ∷ gs) ∙ ap (λ (r : Fields). map without_batch fs ++ (r ∷ map without_batch gs)) k ∙ sym (map-append without_batch fs (g ∷ gs));
  }

  module _ (d : ℕ) (v l h : ℤ) (ok : in_range d v l h ≡ true) where
    -- length 22 instead of 18, ..
    pub batch-given : (b : ℕ) → b < 2 ^ 32 → SameButBatches (x ++ (open_bytes d v l h ++ y)) (x ++ (batch_bytes d v l h b ++ y))
    batch-given b small =
        same-but (open_bytes d v l h) (batch_bytes d v l h b) _ _ (read-open d v l h y ok) (read-with-batch d v l h y ok b small) (open-length d v l h) (batch-length d v l h b) refl

    -- .. and any batch instead of any other
    pub batch-changed : (b c : ℕ) → b < 2 ^ 32 → c < 2 ^ 32 → SameButBatches (x ++ (batch_bytes d v l h b ++ y)) (x ++ (batch_bytes d v l h c ++ y))
    batch-changed b c small less =
        same-but (batch_bytes d v l h b) (batch_bytes d v l h c) _ _ (read-with-batch d v l h y ok b small) (read-with-batch d v l h y ok c less) (batch-length d v l h b) (batch-length d v l h c) refl
