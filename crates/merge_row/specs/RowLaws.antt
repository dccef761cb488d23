-- A row of accepted summaries and its halves. Assumes nothing.
use Rattle.std.specs.Prelude.{◌≡◌, refl, true, ℕ, zero, suc, ◌+◌, ◌-◌, ◌*◌, ◌/◌, ◌^◌, ◌≤◌, ◌<◌, take, drop}
use Rattle.std.proofs.Math.Path.{ap, sym, subst}
use Rattle.std.proofs.Common.{ap₂, ◌∙◌, arith, length-take, length-drop, take-append-drop, length-append, take_at, drop_at}
use mathlib.Core.List.{List, [], ◌∷◌, ◌++◌, map, append_assoc, append-nil}
use Rattle.std.proofs.Math.ListN.{length, length-map}
use Rattle.algebra.specs.Algebra.{Algebra, Laws}
use Rattle.number.specs.Laws.{part-rest}
use Rattle.row.specs.Row.{row_pieces, end_to_end}
use Rattle.row.specs.Laws.{pieces-joined}
use Rattle.figure.specs.Mode.{mode_of, mode_in_use}
use Rattle.hill.specs.Summary.{Summary, blank}
use Rattle.hill.specs.Merge.{merge_summary}
use Rattle.hill.specs.Row.{halves, merge_row}
use Rattle.hill.proofs.RowLaws.{in_order, halves-in_order, merge_row-in_order, map-take, map-drop}
use Rattle.hill.proofs.SummaryLaws.{merge-blank, merge_summary-assoc}
use Rattle.hill.proofs.ValidLaws.{valid-merge_summary}
use Rattle.summary.specs.Layout.{SummaryIn, encode}
use Rattle.summary.specs.Decode.{decode}
use Rattle.summary.specs.Accepted.{Accepted, IsSummaryIn}
use Rattle.summary.proofs.Accepted.{encoded, decode-encode, decoded, encode-fits}
use Rattle.outcome.specs.Laws.{AllIn}
use Rattle.outcome.proofs.Laws.{all_in_use, pieces-all}
use Rattle.merge_row.specs.RowAsks.{row_summary, Row, Room}

-- ---- half with half

module _ {R : Type 0} (𝒜 : Algebra R) (ℒ : Laws 𝒜) where
  open 𝒜 use {Fig}

  enough : (n : ℕ) (row : List (Summary Fig R)) → length row ≤ n → halves (merge_summary 𝒜) blank n row ≡ merge_row 𝒜 row
  enough n row l = halves-in_order (merge_summary 𝒜) blank (merge_summary-assoc 𝒜 ℒ) (λ a. refl) (merge-blank 𝒜) n row l ∙ sym (merge_row-in_order 𝒜 ℒ row)

  by-halves : (w : List (Summary Fig R)) → 2 ≤ length w → merge_row 𝒜 w ≡ merge_summary 𝒜 (merge_row 𝒜 (take ((length w + 1) / 2) w)) (merge_row 𝒜 (drop ((length w + 1) / 2) w))
  by-halves [] l = absurd (omega arith)
  by-halves (a ∷ []) l = absurd (omega arith)
  by-halves (a ∷ (b ∷ row)) l =
      let w = a ∷ (b ∷ row) in
      let h = (length w + 1) / 2 in
      ap₂ (merge_summary 𝒜) (enough (suc (length row)) (take h w) (simp length-take (omega arith))) (enough (suc (length row)) (drop h w) (simp length-drop (omega arith)))

-- ---- lists of pieces

end-append : (p q : List (List ℕ)) → end_to_end (p ++ q) ≡ end_to_end p ++ end_to_end q
end-append [] q = refl
end-append (x ∷ p) q = rw (end-append p q) (sym (append_assoc x (end_to_end p) (end_to_end q)))

module _ (m : ℕ) where
  in_take : (n : ℕ) (ps : List (List ℕ)) → AllIn m ps → AllIn m (take n ps)
  in_take zero ps a = tt
  in_take (suc n) [] a = tt
  in_take (suc n) (p ∷ ps) a = (a.0, in_take n ps a.1)

  in-drop : (n : ℕ) (ps : List (List ℕ)) → AllIn m ps → AllIn m (drop n ps)
  in-drop zero ps a = a
  in-drop (suc n) [] a = tt
  in-drop (suc n) (p ∷ ps) a = in-drop n ps a.1

  abbrev these : List (List ℕ) → List (SummaryIn m)
  these ps = map (decode m) ps

  -- what accepted pieces merge to is accepted
  in_order-accepted : (ps : List (List ℕ)) → AllIn m ps → Accepted m (in_order (merge_summary (mode_of m).algebra) blank (these ps))
  in_order-accepted [] a = tt
  in_order-accepted (p ∷ ps) a = valid-merge_summary (mode_of m).algebra (mode_of m).sizes (mode_of m).laws (decode m p) (in_order (merge_summary (mode_of m).algebra) blank (these ps)) (decoded m p a.0) (in_order-accepted ps a.1)

  row-accepted : (ps : List (List ℕ)) → AllIn m ps → Accepted m (merge_row (mode_of m).algebra (these ps))
  row-accepted ps a = subst (Accepted m) (sym (merge_row-in_order (mode_of m).algebra (mode_of m).laws (these ps))) (in_order-accepted ps a)

-- the row is one summary of mode m, and s is what it says
pub record OnePiece (m : ℕ) (row : List ℕ) (s : SummaryIn m) : Type 0 where
  pub is : IsSummaryIn m row
  pub says : s ≡ decode m row

-- ---- the row as a whole, and a row of one piece

module _ {m : ℕ} {row : List ℕ} {count : ℕ} (h : Row m row count) where
  used : mode_in_use m ≡ true
  used = all_in_use m (row_pieces row) h.all (omega (arith, h.some, h.count-is))

  accepted : Accepted m (row_summary m row)
  unfolding row_summary
  accepted = row-accepted m (row_pieces row) h.all

  -- the bytes of what its pieces merge to
  pub summary-is : IsSummaryIn m (encode m (row_summary m row))
  summary-is = encoded m used (row_summary m row) accepted

  pub summary-fits : length (encode m (row_summary m row)) ≤ 1788
  summary-fits = encode-fits m (row_summary m row) accepted

  pub summary-says : decode m (encode m (row_summary m row)) ≡ row_summary m row
  summary-says = decode-encode m used (row_summary m row) accepted

  pub one_piece : count < 2 → OnePiece m row (row_summary m row)
  unfolding row_summary
  one_piece l = go (row_pieces row) h.all (pieces-joined row) (omega (arith, h.some, h.count-is))
    where
      go : (ps : List (List ℕ)) → AllIn m ps → end_to_end ps ≡ row → length ps ≡ 1 → OnePiece m row (merge_row (mode_of m).algebra (these m ps))
      go [] a e n = absurd (omega arith)
      go (p ∷ []) a e n =
          let s : p ≡ row = sym (append-nil p) ∙ e in
          record { is = subst (IsSummaryIn m) s a.0; says = ap (decode m) s }
      go (p ∷ (q ∷ ps)) a e n = absurd (omega arith)

  -- ---- the halves: the row is cut where the first (count + 1) / 2 pieces end
  module _ {k at : ℕ} (l : 2 ≤ count) (ek : k ≡ (count + 1) / 2) (ea : at ≡ length (end_to_end (take k (row_pieces row)))) where
    abbrev ps : List (List ℕ)
    ps = row_pieces row

    cut-is : row ≡ end_to_end (take k ps) ++ end_to_end (drop k ps)
    cut-is = sym (pieces-joined row) ∙ ap end_to_end (sym (take-append-drop k ps)) ∙ end-append (take k ps) (drop k ps)

    left-bytes : take at row ≡ end_to_end (take k ps)
    left-bytes = ap (take at) cut-is ∙ take_at (end_to_end (take k ps)) (end_to_end (drop k ps)) at (sym ea)

    right-bytes : drop at row ≡ end_to_end (drop k ps)
    right-bytes = ap (drop at) cut-is ∙ drop_at (end_to_end (take k ps)) (end_to_end (drop k ps)) at (sym ea)

    pub inside : at ≤ length row
    inside = omega (arith, ap length cut-is, length-append (end_to_end (take k ps)) (end_to_end (drop k ps)))

    left-pieces : row_pieces (take at row) ≡ take k ps
    left-pieces = ap row_pieces left-bytes ∙ pieces-all m (take k ps) (in_take m k ps h.all)

    right-pieces : row_pieces (drop at row) ≡ drop k ps
    right-pieces = ap row_pieces right-bytes ∙ pieces-all m (drop k ps) (in-drop m k ps h.all)

    pub left-row : Row m (take at row) k
    left-row = record {
      all = subst (AllIn m) (sym left-pieces) (in_take m k ps h.all);
      count-is = rw left-pieces (simp length-take (omega (arith, h.count-is)));
      some = omega arith;
      few = omega (arith, h.few);
    }

    pub right-row : Row m (drop at row) (count - k)
    right-row = record {
      all = subst (AllIn m) (sym right-pieces) (in-drop m k ps h.all);
      count-is = rw right-pieces (simp length-drop (omega (arith, h.count-is)));
      some = omega arith;
      few = omega (arith, h.few);
    }

    -- the rest as the logic gives a part
    pub rest-row : Row m (take (length row - at) (drop at row)) (count - k)
    rest-row = rw (part-rest at row) right-row

    pub halves-merged : merge_summary (mode_of m).algebra (row_summary m (take at row)) (row_summary m (take (length row - at) (drop at row))) ≡ row_summary m row
    unfolding row_summary
    halves-merged =
        let n : (length (these m ps) + 1) / 2 ≡ k = rw (length-map ps (decode m)) (ap (λ (c : ℕ). (c + 1) / 2) (sym h.count-is) ∙ sym ek) in
        rw (part-rest at row, left-pieces, right-pieces, map-take (decode m) k ps, map-drop (decode m) k ps)
        (subst (λ (i : ℕ). merge_summary (mode_of m).algebra (merge_row (mode_of m).algebra (take i (these m ps))) (merge_row (mode_of m).algebra (drop i (these m ps))) ≡ merge_row (mode_of m).algebra (these m ps)) n
        (sym (by-halves (mode_of m).algebra (mode_of m).laws (these m ps) (omega (arith, length-map ps (decode m), h.count-is)))))

    -- what the left half says, and bytes that say what the right one does
    pub halves-added : (b : List ℕ) → decode m b ≡ row_summary m (take (length row - at) (drop at row)) → merge_summary (mode_of m).algebra (row_summary m (take at row)) (decode m b) ≡ row_summary m row
    halves-added b e = ap (merge_summary (mode_of m).algebra (row_summary m (take at row))) e ∙ halves-merged

-- ---- room for the halves that wait

module _ {count room : ℕ} (r : Room count room) where
  pub fewer-wait : {k : ℕ} → k ≤ count → Room k room
  fewer-wait l = record { times = r.times; halved = omega (arith, r.halved); enough = r.enough }

  module _ (l : 4 ≤ count) where
    pub one-waits : 1788 ≤ room
    one-waits = go r.times r.halved r.enough
      where
        go : (t : ℕ) → count ≤ 2 * 2 ^ t → 1788 * t ≤ room → 1788 ≤ room
        go zero h e = absurd (omega arith)
        go (suc t) h e = omega arith

    pub others-wait : {n : ℕ} → n ≤ 1788 → Room ((count + 1) / 2) (room - n)
    others-wait {n} ln = go r.times r.halved r.enough
      where
        go : (t : ℕ) → count ≤ 2 * 2 ^ t → 1788 * t ≤ room → Room ((count + 1) / 2) (room - n)
        go zero h e = absurd (omega arith)
        go (suc t) h e = record { times = t; halved = omega arith; enough = omega arith }
