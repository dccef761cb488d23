-- What the calls come to on what they were made for: summarise on readable chunks, merge and finish on its bytes. Finishing the summary of a log says
-- what the log says. Assumes nothing.
use Rattle.std.specs.Prelude.{◌≡◌, refl, Bool, true, false, cond, ◌&&◌, List, [], ◌∷◌, ◌++◌, ℕ, ◌≤◌, leb, eqb, length}
use Rattle.std.proofs.Common.{sym, ap, subst, ◌∙◌, arith, le-leb, leb-true, eqb-true, eq-eqb}
use Rattle.gate.specs.Outcome.{Outcome, granted, question, onward, written}
use Rattle.gate.proofs.Laws.{fits}
use Rattle.record.specs.Record.{is_open, records_of}
use Rattle.record.proofs.Ranged.{AllInRange, records-in-range}
use Rattle.record.specs.declared.Fields.{Fields}
use Rattle.modes.specs.FourModes.{Amounts, InRange}
use Rattle.figure.specs.Mode.{mode_of, mode_in_use}
use Rattle.hill.specs.Log.{Record, opening, closing, log_fault}
use Rattle.hill.specs.Figure.{figure_of}
use Rattle.hill.specs.Summary.{summary_of}
use Rattle.hill.specs.Finish.{finish_of}
use Rattle.hill.proofs.FinishLaws.{finish-log}
use Rattle.hill.specs.Valid.{Readable}
use Rattle.summary.specs.Layout.{encode}
use Rattle.summary.specs.Judge.{mode_at}
use Rattle.summary.specs.Decode.{decode}
use Rattle.summary.specs.Decide.{is_summary}
use Rattle.summary.proofs.DecideLaws.{decide-summary}
use Rattle.summary.proofs.Values.{tells-range}
use Rattle.summary.specs.Accepted.{IsSummaryIn}
use Rattle.summary.proofs.Accepted.{summary-length, decode-encode, chunk-accepted}
use Rattle.summary.proofs.MergeBytes.{merge-accepted, Readables, chunk-is, merge-chunks}
use Rattle.summary.specs.Outcomes.{summary_bytes, merge_bytes, summarise_outcome, merge_outcome, finish_outcome, log_outcome}
use Rattle.chunk.specs.Chunk.{chunk_of}
use Rattle.chunk.proofs.Laws.{chunk-append, onward-outcome}

-- ---- records that were read

either-readable : (m : ℕ) (t : Bool) (d : ℕ) (r : Amounts) → (d ≤ 63) × InRange r → Readable (mode_of m).algebra (mode_of m).sizes (cond t (opening d r) (closing d))
either-readable m true d r h = h
either-readable m false d r h = h.0

readable : (m : ℕ) (fs : List Fields) → AllInRange fs → Readables m (chunk_of fs)
readable m [] h = tt
readable m (f ∷ fs) h =
    let r : Amounts = record { value = f.value; floor = f.floor; ceiling = f.ceiling } in
    (either-readable m (is_open f.kind) f.depth r ((tells-range f.depth r).from h.0), readable m fs h.1)

pub chunk-readable : (m : ℕ) (s : List ℕ) (fs : List Fields) → records_of s ≡ granted fs → Readables m (chunk_of fs)
chunk-readable m s fs e = readable m fs (records-in-range s fs e)

-- ---- the calls

pub summarise-is : (chunk : List ℕ) (m cap : ℕ) (fs : List Fields) → mode_in_use m ≡ true → length chunk ≤ 65_536 → records_of chunk ≡ granted fs →
    summarise_outcome chunk m cap ≡ written cap (summary_bytes m (chunk_of fs))
unfolding summarise_outcome
summarise-is chunk m cap fs u l e = rw (u, le-leb (length chunk) 65_536 l, e)

pub merge-is : (m : ℕ) (a b : List ℕ) (cap : ℕ) → IsSummaryIn m a → IsSummaryIn m b → merge_outcome a b cap ≡ written cap (merge_bytes m a b)
unfolding merge_outcome
merge-is m a b cap i j =
    rw ((decide-summary a).to i.is, (decide-summary b).to j.is, i.mode-is, j.mode-is, eq-eqb m m refl)

-- A buffer for the longest summary is never too short.
pub merge-room : (a b : List ℕ) → merge_outcome a b 1788 ≡ question 5 (is_summary a && is_summary b) (question 6 (eqb (mode_at a) (mode_at b)) (granted (merge_bytes (mode_at a) a b)))
unfolding merge_outcome
merge-room a b = go (is_summary a) refl (is_summary b) refl (eqb (mode_at a) (mode_at b)) refl
  where
    go : (x : Bool) → is_summary a ≡ x → (y : Bool) → is_summary b ≡ y → (z : Bool) → eqb (mode_at a) (mode_at b) ≡ z →
        question 5 (x && y) (question 6 z (written 1788 (merge_bytes (mode_at a) a b))) ≡ question 5 (x && y) (question 6 z (granted (merge_bytes (mode_at a) a b)))
    go true ex true ey true ez =
        let i : IsSummaryIn (mode_at a) a = record { is = (decide-summary a).from ex; mode-is = refl } in
        let j : IsSummaryIn (mode_at a) b = record { is = (decide-summary b).from ey; mode-is = sym (eqb-true (mode_at a) (mode_at b) ez) } in
        fits 1788 (merge_bytes (mode_at a) a b) (summary-length (mode_at a) (merge_bytes (mode_at a) a b) (merge-accepted (mode_at a) a b i j)).few
    go true ex true ey false ez = refl
    go true ex false ey z ez = refl
    go false ex y ey z ez = refl

finish-here : (b : List ℕ) → is_summary b ≡ true → finish_outcome b ≡ onward (finish_of (mode_of (mode_at b)).algebra (decode (mode_at b) b)) (λ v. granted ((mode_of (mode_at b)).store v))
unfolding finish_outcome
finish-here b e = rw e

pub finish-is : (m : ℕ) (b : List ℕ) → IsSummaryIn m b → finish_outcome b ≡ onward (finish_of (mode_of m).algebra (decode m b)) (λ v. granted ((mode_of m).store v))
finish-is m b i =
    subst (λ (k : ℕ). finish_outcome b ≡ onward (finish_of (mode_of k).algebra (decode k b)) (λ v. granted ((mode_of k).store v))) i.mode-is (finish-here b ((decide-summary b).to i.is))

-- FINISH of a log's summary: the recursion's figure, or the log's lowest-numbered fault.
pub finish-chunk : (m : ℕ) (log : List (Record Amounts)) → mode_in_use m ≡ true → Readables m log → finish_outcome (summary_bytes m log) ≡ log_outcome m log
unfolding summary_bytes log_outcome
finish-chunk m log u r =
    finish-is m (encode m (summary_of (mode_of m).algebra log)) (chunk-is m log u r) ∙
    ap (λ s. onward (finish_of (mode_of m).algebra s) (λ v. granted ((mode_of m).store v))) (decode-encode m u (summary_of (mode_of m).algebra log) (chunk-accepted m log r)) ∙
    ap (λ o. onward o (λ v. granted ((mode_of m).store v))) (finish-log (mode_of m).algebra (mode_of m).laws log) ∙
    onward-outcome (mode_of m).store (log_fault log) (figure_of (mode_of m).algebra log)

-- A call that answers has passed its questions.
passed : {A : Type 0} (n : ℕ) (t : Bool) (rest : Outcome A) (w : A) → question n t rest ≡ granted w → (t ≡ true) × (rest ≡ granted w)
passed n true rest w e = (refl, e)
passed n false rest w e = let z : ◌≡◌ {A = ℕ} 0 1 = cc in absurd (omega arith)

pub record Summarised (chunk : List ℕ) (m cap : ℕ) (fs : List Fields) (w : List ℕ) : Type 0 where
  pub mode-used : mode_in_use m ≡ true
  pub short : length chunk ≤ 65_536
  pub bytes : w ≡ summary_bytes m (chunk_of fs)
  pub fits : length w ≤ cap

pub summarised : (chunk : List ℕ) (m cap : ℕ) (fs : List Fields) (w : List ℕ) → records_of chunk ≡ granted fs → summarise_outcome chunk m cap ≡ granted w → Summarised chunk m cap fs w
unfolding summarise_outcome
summarised chunk m cap fs w e h =
    let p = passed 1 (mode_in_use m) _ w h in
    let q = passed 2 (leb (length chunk) 65_536) _ w p.1 in
    let r = passed 12 (leb (length (summary_bytes m (chunk_of fs))) cap) _ w (subst (λ o. onward o (λ fs. written cap (summary_bytes m (chunk_of fs))) ≡ granted w) e q.1) in
    let same : w ≡ summary_bytes m (chunk_of fs) = cc in
    record { mode-used = p.0; short = leb-true _ _ q.0; bytes = same; fits = rw same (leb-true _ _ r.0) }

-- DEMAND 2 for one chunk: what finish answers of the bytes that summarise wrote for a log is what the log says.
pub finish-summarise : (log : List ℕ) (m cap : ℕ) (fs : List Fields) (w : List ℕ) → records_of log ≡ granted fs → summarise_outcome log m cap ≡ granted w → finish_outcome w ≡ log_outcome m (chunk_of fs)
finish-summarise log m cap fs w e h =
    let s = summarised log m cap fs w e h in
    ap finish_outcome s.bytes ∙ finish-chunk m (chunk_of fs) s.mode-used (chunk-readable m log fs e)

-- MERGE of two chunks' bytes: the summary of the joined chunk, however long that is.
module _ (a b : List ℕ) (m cap : ℕ) (fs gs : List Fields) (e : records_of a ≡ granted fs) (f : records_of b ≡ granted gs) (u : mode_in_use m ≡ true) where
  pub merge-joined : merge_outcome (summary_bytes m (chunk_of fs)) (summary_bytes m (chunk_of gs)) cap ≡ written cap (summary_bytes m (chunk_of (fs ++ gs)))
  merge-joined =
      let p = chunk-readable m a fs e in
      let q = chunk-readable m b gs f in
      merge-is m _ _ cap (chunk-is m (chunk_of fs) u p) (chunk-is m (chunk_of gs) u q) ∙
      ap (written cap) (merge-chunks m (chunk_of fs) (chunk_of gs) u p q ∙ ap (summary_bytes m) (sym (chunk-append fs gs)))
