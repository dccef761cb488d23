-- Each merge of neighbouring pieces comes to the summary of the joined stretches, where that fits its buffer, and so does the whole list. Assumes nothing.
use Rattle.std.specs.Prelude.{◌≡◌, Bool, true, false, cond, ℕ, ◌-◌, leb, length, take, drop}
use Rattle.std.proofs.Math.Path.{refl, ap}
use Rattle.std.proofs.Common.{sym, subst, ◌∙◌, arith, length-take, length-drop}
use mathlib.Core.List.{List, [], ◌∷◌, ◌++◌, map, append-nil}
use Rattle.std.proofs.lemmas.List.{length-map}
use Rattle.gate.specs.Outcome.{Outcome, refused, granted, written}
use Rattle.gate.proofs.Laws.{result-first}
use Rattle.row.specs.Row.{end_to_end}
use Rattle.figure.specs.Mode.{mode_of, mode_in_use}
use Rattle.hill.specs.Summary.{summary_of}
use Rattle.hill.specs.Row.{joined, Call, put, Proper, on_result}
use Rattle.hill.proofs.RowLaws.{Keeps, SameRows, replay-same, merge_row-summaries}
use Rattle.summary.specs.Layout.{SummaryIn, encode}
use Rattle.summary.proofs.MergeBytes.{chunk-is, merge-chunks}
use Rattle.summary.specs.Outcomes.{summary_bytes}
use Rattle.summary.proofs.OutcomeLaws.{merge-is}
use Rattle.plan_work.proofs.LogWork.{ReadableRow, valid-row}
use Rattle.outcome.specs.Outcomes.{merge_row_outcome}
use Rattle.outcome.proofs.Laws.{AllAccepted, merge-row-is}
use Rattle.claim.specs.Claim.{records_read, stretch_bytes, leaves, Lent, to_merge, to_merge_row, buffer_of, RowSize, Takes, Neighbours, called, by_calls, on_stretches}
use Rattle.claim.proofs.Stretches.{AllRead, reads-readable, in-append, reads-joined, in-joined, read_take, read-drop, read-append}

module _ (m : ℕ) where
  -- The summaries of a row of stretches, and their bytes.
  abbrev pub summaries : List (List ℕ) → List (SummaryIn m)
  summaries st = map (summary_of (mode_of m).algebra) (map records_read st)

  pub stretch-encoded : (s : List ℕ) → stretch_bytes m s ≡ encode m (summary_of (mode_of m).algebra (records_read s))
  unfolding stretch_bytes summary_bytes
  stretch-encoded s = refl

  pub row-encoded : (st : List (List ℕ)) → map (stretch_bytes m) st ≡ map (encode m) (summaries st)
  row-encoded [] = refl
  row-encoded (s ∷ st) = rw (stretch-encoded s, row-encoded st)

  pub readable_row : (st : List (List ℕ)) → AllRead st → ReadableRow (mode_of m).algebra (mode_of m).sizes (map records_read st)
  readable_row [] a = tt
  readable_row (s ∷ st) a = (reads-readable m s a.0, readable_row st a.1)

  pub accepted-row : (st : List (List ℕ)) → AllRead st → AllAccepted m (summaries st)
  accepted-row st a = valid-row (mode_of m).algebra (mode_of m).sizes (mode_of m).laws (map records_read st) (readable_row st a)

  pub summaries-length : (st : List (List ℕ)) → length (summaries st) ≡ length st
  summaries-length st = length-map (map records_read st) (summary_of (mode_of m).algebra) ∙ length-map st records_read

module _ (m : ℕ) (u : mode_in_use m ≡ true) where
  -- ---- one call

  two-called : (x y b : List ℕ) → AllRead (x ∷ y ∷ []) → called (map (stretch_bytes m) (x ∷ y ∷ [])) (to_merge b) ≡ written (length b) (stretch_bytes m (joined (x ∷ y ∷ [])))
  unfolding stretch_bytes
  two-called x y b a =
      let p = reads-readable m x a.0 in
      let q = reads-readable m y a.1.0 in
      merge-is m (summary_bytes m (records_read x)) (summary_bytes m (records_read y)) (length b) (chunk-is m (records_read x) u p) (chunk-is m (records_read y) u q) ∙
      ap (written (length b)) (merge-chunks m (records_read x) (records_read y) u p q ∙ ap (summary_bytes m) (sym (in-append x y a.0 a.1.0) ∙ ap (λ (t : List ℕ). records_read (x ++ t)) (sym (append-nil y))))

  row-called : (l : List (List ℕ)) (b : List ℕ) → AllRead l → RowSize (length l) → called (map (stretch_bytes m) l) (to_merge_row b) ≡ written (length b) (stretch_bytes m (joined l))
  row-called l b a z =
      let n : length (summaries m l) ≡ length l = summaries-length m l in
      ap (λ (ps : List (List ℕ)). merge_row_outcome (end_to_end ps) (length b)) (row-encoded m l) ∙
      merge-row-is m u (summaries m l) (accepted-row m l a) (omega (arith, z.0)) (omega (arith, z.1)) (length b) ∙
      ap (λ (s : SummaryIn m). written (length b) (encode m s)) (merge_row-summaries (mode_of m).algebra (mode_of m).laws (map records_read l)) ∙
      rw (stretch-encoded m (joined l), in-joined l a)

  called_is : (l : List (List ℕ)) (b : Lent) → AllRead l → Takes b (length l) → called (map (stretch_bytes m) l) b ≡ written (length (buffer_of b)) (stretch_bytes m (joined l))
  called_is [] (to_merge b) a e = absurd (omega arith)
  called_is (x ∷ []) (to_merge b) a e = absurd (omega arith)
  called_is (x ∷ y ∷ []) (to_merge b) a e = two-called x y b a
  called_is (x ∷ y ∷ z ∷ l) (to_merge b) a e = absurd (omega arith)
  called_is l (to_merge_row b) a e = row-called l b a e

  -- The new piece is the summary of the new stretch; 12 where the buffer is shorter.
  call_same : (l : List (List ℕ)) (b : Lent) → AllRead l → Takes b (length l) → by_calls (map (stretch_bytes m) l) b ≡ on_result (stretch_bytes m) (on_stretches m l b)
  call_same l b a e = ap (λ (o : Outcome (List ℕ)). leaves o (buffer_of b)) (called_is l b a e) ∙ go (leb (length (stretch_bytes m (joined l))) (length (buffer_of b)))
    where
      go : (t : Bool) → leaves (cond t (granted (stretch_bytes m (joined l))) (refused 12)) (buffer_of b) ≡ on_result (stretch_bytes m) (cond t (granted (joined l)) (refused 12))
      go true = ap granted (result-first (stretch_bytes m (joined l)) (buffer_of b))
      go false = refl

  -- ---- the list

  keeps : (c : Call Lent) (st : List (List ℕ)) → AllRead st → Neighbours c (map (stretch_bytes m) st) → Keeps (stretch_bytes m) (on_stretches m) by_calls Neighbours AllRead c st
  keeps c st i n =
      let l : List (List ℕ) = take c.many (drop c.place st) in
      let k : length (map (stretch_bytes m) st) ≡ length st = length-map st (stretch_bytes m) in
      let d : length (drop c.place st) ≡ length st - c.place = length-drop c.place st in
      let w : length l ≡ c.many = length-take c.many (drop c.place st) ∙ omega (arith, n.inside) in
      let a : AllRead l = read_take c.many (drop c.place st) (read-drop c.place st i) in
      record {
        same = call_same l c.lent a (subst (Takes c.lent) (sym w) n.takes);
        kept = go (leb (length (stretch_bytes m (joined l))) (length (buffer_of c.lent)));
      }
    where
      go : (t : Bool) → AllRead (put (on_stretches m) (cond t (granted (joined (take c.many (drop c.place st)))) (refused 12)) c st)
      go true =
          let r : List (List ℕ) = drop c.many (drop c.place st) in
          let l : List (List ℕ) = take c.many (drop c.place st) in
          let d : AllRead (drop c.place st) = read-drop c.place st i in
          read-append (take c.place st) (joined l ∷ r) (read_take c.place st i) (reads-joined l (read_take c.many (drop c.place st) d), read-drop c.many (drop c.place st) d)
      go false = i

  pub list_same : (cs : List (Call Lent)) (st : List (List ℕ)) → AllRead st → Proper by_calls Neighbours cs (map (stretch_bytes m) st) → SameRows (stretch_bytes m) (on_stretches m) by_calls Neighbours AllRead cs st
  list_same = replay-same (stretch_bytes m) (on_stretches m) by_calls Neighbours AllRead keeps
