-- One piece more is judged and noted. Assumes nothing.
use Rattle.std.specs.Prelude.{◌≡◌, refl, Bool, true, false, cond, ◌&&◌, List, [], ◌∷◌, ℕ, zero, suc, ◌+◌, ◌-◌, ◌≤◌, ◌<◌, eqb, length, get_or, set, take, drop, Option, None}
use Rattle.std.proofs.Common.{sym, ap, subst, ◌∙◌, true≢false, add-one, arith, below_more, eq-eqb, ne_eqb, length-set, drop_of_length-le, get_or-set_same, get_or-set_other, drop-cons}
use Rattle.gate.specs.Outcome.{refused, granted}
use Rattle.number.specs.Laws.{part-rest}
use Rattle.row.specs.Row.{first_length, row_pieces}
use Rattle.row.specs.Laws.{pieces-next, pieces-nil}
use Rattle.summary.specs.Judge.{mode_at}
use Rattle.summary.specs.Decide.{is_summary}
use Rattle.judge.specs.declared.Piece.{Piece}
use Rattle.judge.specs.declared.Numbers.{Numbers}
use Rattle.judge.specs.Judged.{head_at}
use Rattle.judge.specs.Numbers.{Fits, numbers_of, AllInBounds}
use Rattle.judge.specs.Laws.{Judges, judged-mode, summary-fits, in-bounds}
use Rattle.outcome.specs.Outcomes.{all_summaries, all_of, first_mode, mode_of_all}
use Rattle.outcome.proofs.Laws.{mode-5, mode-6, mode-all}
use Rattle.row_gate.specs.Notes.{note_at, Noted, NotedAll}

-- ---- the notes, in their bounds

set-within : (notes : List (Option Numbers)) (k : ℕ) (n : Option Numbers) → ((i : ℕ) → AllInBounds (note_at notes i)) → AllInBounds n → (i : ℕ) → AllInBounds (note_at (set notes k n) i)
set-within [] k n h b i = h i
set-within (x ∷ xs) zero n h b zero = b
set-within (x ∷ xs) zero n h b (suc i) = h (suc i)
set-within (x ∷ xs) (suc k) n h b zero = h zero
set-within (x ∷ xs) (suc k) n h b (suc i) = set-within xs k n (λ j. h (suc j)) b i

-- ---- the loop over the pieces

first_of : (ps : List (List ℕ)) → 0 < length ps → first_mode ps ≡ mode_at (get_or ps 0 [])
first_of [] h = absurd (omega arith)
first_of (p ∷ ps) h = refl

pub record Judging (row : List ℕ) (before notes : List (Option Numbers)) (rest : List ℕ) (k mode : ℕ) (same : Bool) : Type 0 where
  pub left : row_pieces rest ≡ drop k (row_pieces row)
  pub good : all_summaries (row_pieces row) ≡ all_summaries (drop k (row_pieces row))
  pub mode-is : 0 < k → first_mode (row_pieces row) ≡ mode
  pub same-is : all_of (first_mode (row_pieces row)) (row_pieces row) ≡ (same && all_of (first_mode (row_pieces row)) (drop k (row_pieces row)))
  pub long : length notes ≡ 64
  pub bounds : Noted before → Noted notes
  pub noted : (i : ℕ) → i < k → note_at notes i ≡ numbers_of (head_at (get_or (row_pieces row) i []))

pub judging-start : (row : List ℕ) (notes : List (Option Numbers)) → length notes ≡ 64 → Judging row notes notes row 0 0 true
judging-start row notes l = record {
  left = refl;
  good = refl;
  mode-is = λ h. absurd (omega arith);
  same-is = refl;
  long = l;
  bounds = λ w. w;
  noted = λ i h. absurd (omega arith);
}

module _ (row : List ℕ) (before notes : List (Option Numbers)) (rest : List ℕ) (k mode : ℕ) (same : Bool) (v : Judging row before notes rest k mode same) where
  abbrev ps : List (List ℕ)
  ps = row_pieces row

  module _ (h : k < length (row_pieces row)) (first : ℕ) (e : first ≡ first_length rest) where
    next-piece : drop k ps ≡ get_or ps k [] ∷ drop (suc k) ps
    next-piece = drop-cons ps k [] h

    rest_some : 0 < length rest
    rest_some = go rest v.left
      where
        go : (r : List ℕ) → row_pieces r ≡ drop k ps → 0 < length r
        go [] e = absurd (omega (arith, ap length (sym pieces-nil ∙ e ∙ next-piece)))
        go (x ∷ r) e = omega arith

    two_ways : take (first_length rest) rest ∷ row_pieces (drop (first_length rest) rest) ≡ get_or ps k [] ∷ drop (suc k) ps
    two_ways = sym (pieces-next rest rest_some) ∙ v.left ∙ next-piece

    this-piece : take first rest ≡ get_or ps k []
    this-piece = ap (λ (n : ℕ). take n rest) e ∙ ap (λ (l : List (List ℕ)). get_or l 0 []) two_ways

    not-all : is_summary (take first rest) ≡ false → all_summaries ps ≡ false
    not-all n = v.good ∙ ap all_summaries next-piece ∙ ap (λ (t : Bool). t && all_summaries (drop (suc k) ps)) (ap is_summary (sym this-piece) ∙ n)

    pub judging-not : is_summary (take first rest) ≡ false → (refused 5 ≡ mode_of_all ps) × NotedAll ps before notes
    judging-not n = let f = not-all n in (sym (mode-5 ps f), record { in-range = v.bounds; noted = λ t. absurd (true≢false (sym t ∙ f)) })

    both : (a b c : Bool) → (a && (b && c)) ≡ ((a && b) && c)
    both true b c = refl
    both false b c = refl

    first-is : (m m' : ℕ) → mode_at (get_or ps k []) ≡ m → m' ≡ cond (eqb k 0) m mode → first_mode ps ≡ m'
    first-is m m' q e = go k refl
      where
        go : (i : ℕ) → k ≡ i → first_mode ps ≡ m'
        go zero z = first_of ps (omega arith) ∙ ap (λ (i : ℕ). mode_at (get_or ps i [])) (sym z) ∙ q ∙ sym (e ∙ ap (λ (t : Bool). cond t m mode) (eq-eqb k 0 z))
        go (suc i) z = v.mode-is (omega arith) ∙ sym (e ∙ ap (λ (t : Bool). cond t m mode) (ne_eqb k 0 (omega arith)))

    pub judging-next : (p : Piece) (n : Option Numbers) (m' : ℕ) → k < 64 → Judges (take first rest) p → n ≡ numbers_of p.head → m' ≡ cond (eqb k 0) p.mode mode →
        Judging row before (set notes k n) (take (length rest - first) (drop first rest)) (k + 1) m' (same && eqb m' p.mode)
    judging-next p n m' few j en em =
        let b : List ℕ = take first rest in
        let here : b ≡ get_or ps k [] = this-piece in
        let mode-here : mode_at (get_or ps k []) ≡ p.mode = ap mode_at (sym here) ∙ sym (judged-mode j) in
        let note-here : n ≡ numbers_of (head_at (get_or ps k [])) = en ∙ ap (λ (x : Piece). numbers_of x.head) j.piece ∙ ap (λ (x : List ℕ). numbers_of (head_at x)) here in
        let first-mode : first_mode ps ≡ m' = first-is p.mode m' mode-here em in
        let one : drop (k + 1) ps ≡ drop (suc k) ps = ap (λ (i : ℕ). drop i ps) (add-one k) in
        record {
          left = ap row_pieces (part-rest first rest ∙ ap (λ (i : ℕ). drop i rest) e) ∙ ap (drop 1) two_ways ∙ sym one;
          good = v.good ∙ ap all_summaries next-piece ∙ ap (λ (t : Bool). t && all_summaries (drop (suc k) ps)) (ap is_summary (sym here) ∙ j.test) ∙ ap all_summaries (sym one);
          mode-is = λ _. first-mode;
          same-is = v.same-is ∙ ap (λ (l : List (List ℕ)). same && all_of (first_mode ps) l) next-piece ∙ both same (eqb (first_mode ps) (mode_at (get_or ps k []))) (all_of (first_mode ps) (drop (suc k) ps)) ∙
              ap (λ (t : Bool). (same && t) && all_of (first_mode ps) (drop (suc k) ps)) (ap (λ (x : ℕ). eqb x (mode_at (get_or ps k []))) first-mode ∙ ap (eqb m') mode-here) ∙ ap (λ (l : List (List ℕ)). (same && eqb m' p.mode) && all_of (first_mode ps) l) (sym one);
          long = length-set notes k n ∙ v.long;
          bounds = λ w. record { each = set-within notes k n (v.bounds w).each (subst AllInBounds (sym en) (in-bounds p.head (subst Fits (sym (ap (λ (x : Piece). x.head) j.piece)) (summary-fits b j.summary)))) };
          noted = λ i l. below_more (λ i. note_at (set notes k n) i ≡ numbers_of (head_at (get_or ps i []))) k
              (λ i l. get_or-set_other notes k i n None (omega arith) ∙ v.noted i l) (get_or-set_same notes k n None (omega (arith, v.long)) ∙ note-here) i l;
        }

  module _ (some : 0 < length (row_pieces row)) (h : length (row_pieces row) ≤ k) where
    none : drop k (row_pieces row) ≡ []
    none = drop_of_length-le (row_pieces row) {i = k} h

    all-good : all_summaries (row_pieces row) ≡ true
    all-good = v.good ∙ ap all_summaries none

    all_same : all_of (first_mode (row_pieces row)) (row_pieces row) ≡ same
    all_same = v.same-is ∙ ap (λ (l : List (List ℕ)). same && all_of (first_mode (row_pieces row)) l) none ∙ and-true same
      where
        and-true : (t : Bool) → (t && true) ≡ t
        and-true true = refl
        and-true false = refl

    noted_all : NotedAll (row_pieces row) before notes
    noted_all = record { in-range = v.bounds; noted = λ t i l. v.noted i (omega arith) }

    pub judging-mode : same ≡ true → (granted mode ≡ mode_of_all (row_pieces row)) × NotedAll (row_pieces row) before notes
    judging-mode s = (sym (mode-all (row_pieces row) all-good (all_same ∙ s) ∙ ap granted (v.mode-is (omega arith))), noted_all)

    pub judging-6 : same ≡ false → (refused 6 ≡ mode_of_all (row_pieces row)) × NotedAll (row_pieces row) before notes
    judging-6 s = (sym (mode-6 (row_pieces row) all-good (all_same ∙ s)), noted_all)
