-- Merging a row: the questions, one for each way out. Assumes nothing.
use Rattle.std.specs.Prelude.{◌≡◌, refl, Bool, true, false, ◌&&◌, List, [], ◌∷◌, ℕ, ◌-◌, ◌≤◌, ◌<◌, min, eqb, length, take, drop}
use Rattle.std.proofs.Math.Path.{ap}
use Rattle.std.proofs.Common.{sym, subst, ◌∙◌, arith, length-drop, eq-eqb}
use Rattle.gate.specs.Outcome.{Outcome, refused, granted, onward, written}
use Rattle.number.specs.Laws.{part-rest}
use Rattle.row.specs.Row.{first_length, row_pieces}
use Rattle.row.specs.Laws.{first-within, pieces-nil, pieces-next}
use Rattle.summary.specs.Judge.{mode_at}
use Rattle.summary.specs.Decide.{is_summary}
use Rattle.outcome.specs.Outcomes.{all_summaries, all_of, first_mode, mode_of_all, Summaries, merged_bytes, merge_row_outcome}
use Rattle.outcome.proofs.Laws.{mode-5, mode-6, mode-all, ask-4, ask-mode, two_to_64, too_many, too_few}
use Rattle.outcome.proofs.Through.{mode-in}
use Rattle.merge_row.specs.RowAsks.{Row, row_summary, row_merged, Passed}

-- ---- 5, 6, piece by piece

and_assoc : (x y z : Bool) → (x && y) && z ≡ x && (y && z)
and_assoc true y z = refl
and_assoc false y z = refl

and-true : (x : Bool) → x && true ≡ x
and-true true = refl
and-true false = refl

-- the first piece of what is left, and the rest as the logic gives a part
module _ (s : List ℕ) {k : ℕ} (l : 0 < length s) (e : k ≡ first_length s) where
  next-pieces : row_pieces s ≡ take k s ∷ row_pieces (take (length s - k) (drop k s))
  next-pieces = rw (part-rest k s) (subst (λ (i : ℕ). row_pieces s ≡ take i s ∷ row_pieces (drop i s)) (sym e) (pieces-next s l))

  pub not-5 : is_summary (take k s) ≡ false → all_summaries (row_pieces s) ≡ false
  not-5 n = rw (next-pieces, n)

  pub inside : k ≤ length s
  inside = rw e (first-within s).inside

  pub shorter : length (take (length s - k) (drop k s)) < length s
  shorter = rw (part-rest k s) (omega (arith, length-drop k s, rw (sym e) at ((first-within s).some l)))

  pub pass-first : {n : ℕ} → is_summary (take k s) ≡ true → n ≡ mode_at (take k s) → Passed s (take (length s - k) (drop k s)) n true
  pass-first y en = rw en record {
    summaries = rw (next-pieces, y);
    modes = rw (next-pieces, eq-eqb (mode_at (take k s)) (mode_at (take k s)) refl);
    mode-is = rw next-pieces;
  }

module _ {row s : List ℕ} {m : ℕ} {t : Bool} (h : Passed row s m t) where
  pub pass-next : {k n : ℕ} → 0 < length s → k ≡ first_length s → is_summary (take k s) ≡ true → n ≡ mode_at (take k s) →
      Passed row (take (length s - k) (drop k s)) m (t && eqb m n)
  pass-next {k} {n} l e y en = record {
    summaries = sym (rw (next-pieces s l e, y) refl) ∙ h.summaries;
    modes = rw en (and_assoc t (eqb m (mode_at (take k s))) (all_of m (row_pieces (take (length s - k) (drop k s)))) ∙ sym (ap (λ (ps : List (List ℕ)). t && all_of m ps) (next-pieces s l e)) ∙ h.modes);
    mode-is = h.mode-is;
  }

  pub pass-5 : all_summaries (row_pieces s) ≡ false → mode_of_all (row_pieces row) ≡ refused 5
  pass-5 n = mode-5 (row_pieces row) (sym h.summaries ∙ n)

  none_left : length s ≤ 0 → row_pieces s ≡ []
  none_left l = go s l
    where
      go : (s : List ℕ) → length s ≤ 0 → row_pieces s ≡ []
      go [] l = pieces-nil
      go (b ∷ s) l = absurd (omega arith)

  all-passed : length s ≤ 0 → all_summaries (row_pieces row) ≡ true
  all-passed l = sym h.summaries ∙ ap all_summaries (none_left l)

  same-is : length s ≤ 0 → t ≡ all_of (first_mode (row_pieces row)) (row_pieces row)
  same-is l = sym (and-true t) ∙ sym (ap (λ (ps : List (List ℕ)). t && all_of m ps) (none_left l)) ∙ h.modes

  pub pass-6 : length s ≤ 0 → t ≡ false → mode_of_all (row_pieces row) ≡ refused 6
  pass-6 l n = mode-6 (row_pieces row) (all-passed l) (sym (same-is l) ∙ n)

  pub pass_all : length s ≤ 0 → t ≡ true → mode_of_all (row_pieces row) ≡ granted m
  pass_all l y = mode-all (row_pieces row) (all-passed l) (sym (same-is l) ∙ y) ∙ ap granted (sym h.mode-is)

-- ---- 4, 5, 6

module _ (row : List ℕ) (cap : ℕ) {n : ℕ} (e : n ≡ min 65 (length (row_pieces row))) where
  pub few-4 : n < 2 → merge_row_outcome row cap ≡ refused 4
  unfolding merge_row_outcome
  few-4 l = rw (ask-4 (row_pieces row) (too_few (row_pieces row) (omega arith)))

  pub many-4 : 64 < n → merge_row_outcome row cap ≡ refused 4
  unfolding merge_row_outcome
  many-4 l = rw (ask-4 (row_pieces row) (too_many (row_pieces row) (omega arith)))

  module _ (lo : 2 ≤ n) (hi : n ≤ 64) where
    pub some_bytes : 0 < length row
    some_bytes = go row e
      where
        go : (s : List ℕ) → n ≡ min 65 (length (row_pieces s)) → 0 < length s
        go [] e = absurd (omega (arith, ap length pieces-nil))
        go (b ∷ s) e = omega arith

    pub row-refused : {k : ℕ} → refused k ≡ mode_of_all (row_pieces row) → merge_row_outcome row cap ≡ refused k
    unfolding merge_row_outcome
    row-refused q = ap (λ (o : Outcome Summaries). onward o (λ s. written cap (merged_bytes s))) (ask-mode (row_pieces row) (two_to_64 (row_pieces row) (omega arith) (omega arith)) (sym q))

    module _ {m : ℕ} (q : granted m ≡ mode_of_all (row_pieces row)) where
      pub is_row : Row m row n
      is_row = record { all = mode-in (row_pieces row) (sym q); count-is = omega arith; some = omega arith; few = hi }

      pub row_is : merge_row_outcome row cap ≡ written cap (row_merged m row)
      unfolding merge_row_outcome merged_bytes row_summary
      row_is = ap (λ (o : Outcome Summaries). onward o (λ s. written cap (merged_bytes s))) (ask-mode (row_pieces row) (two_to_64 (row_pieces row) (omega arith) (omega arith)) (sym q))
