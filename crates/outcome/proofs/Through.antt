-- What the questions of a row let through, and how many bytes its plan has. Assumes nothing.
use Rattle.std.specs.Prelude.{◌≡◌, refl, Bool, true, false, List, [], ◌∷◌, map, ℕ, ◌+◌, ◌*◌, ◌≤◌, leb, eqb, length}
use Rattle.std.proofs.Common.{sym, ap, subst, ◌∙◌, arith, length-append, eqb-true, leb-true}
use Rattle.std.proofs.lemmas.List.{length-map}
use Rattle.gate.specs.Outcome.{granted, question, onward}
use Rattle.number.specs.Bytes.{bytes_of}
use Rattle.record.proofs.Laws.{and_left, and_right}
use Rattle.figure.specs.Mode.{mode_of, mode_in_use}
use Rattle.hill.specs.Verdict.{Verdict, pass, refuse}
use Rattle.hill.specs.Summary.{middle}
use Rattle.hill.specs.Finish.{outcome, finish_of}
use Rattle.hill.specs.Row.{merge_row}
use Rattle.hill.proofs.RowLaws.{merge_row-in_order}
use Rattle.summary.specs.Layout.{SummaryIn}
use Rattle.summary.specs.Judge.{mode_at}
use Rattle.summary.specs.Decode.{decode}
use Rattle.summary.specs.Decide.{is_summary}
use Rattle.summary.proofs.DecideLaws.{decide-summary}
use Rattle.summary.proofs.Accepted.{decoded}
use Rattle.join_plan.specs.Plan.{Line, plan_of_row}
use Rattle.join_plan.proofs.Gate.{gate-bound}
use Rattle.plan_work.specs.Runs.{slopes_of}
use Rattle.plan_work.specs.Gate.{row_fault}
use Rattle.plan_work.specs.Fair.{ValidRow}
use Rattle.plan_work.proofs.GateExact.{merge_all, finish-row, fair-row}
use Rattle.outcome.specs.Outcomes.{two_to64, all_summaries, all_of, first_mode, mode_of_all, Summaries, ask_row, ask_log, line_bytes, lines_bytes, plan_bytes}
use Rattle.outcome.specs.Laws.{AllIn}
use Rattle.outcome.proofs.Laws.{all_in_use}

-- ---- 4, 5 and 6

pub all_in : (m : ℕ) (ps : List (List ℕ)) → all_summaries ps ≡ true → all_of m ps ≡ true → AllIn m ps
all_in m [] g s = tt
all_in m (p ∷ ps) g s = (
  record { is = (decide-summary p).from (and_left (is_summary p) (all_summaries ps) g); mode-is = sym (eqb-true m (mode_at p) (and_left (eqb m (mode_at p)) (all_of m ps) s)) },
  all_in m ps (and_right (is_summary p) (all_summaries ps) g) (and_right (eqb m (mode_at p)) (all_of m ps) s),
)

pub mode-in : (ps : List (List ℕ)) {m : ℕ} → mode_of_all ps ≡ granted m → AllIn m ps
mode-in ps {m} q = go (all_summaries ps) refl (all_of (first_mode ps) ps) refl q
  where
    go : (x : Bool) → all_summaries ps ≡ x → (y : Bool) → all_of (first_mode ps) ps ≡ y → question 5 x (question 6 y (granted (first_mode ps))) ≡ granted m → AllIn m ps
    go true ex true ey q = let f : first_mode ps ≡ m = cc in subst (λ (k : ℕ). AllIn k ps) f (all_in (first_mode ps) ps ex ey)
    go true ex false ey q = let z : ◌≡◌ {A = ℕ} 0 1 = cc in absurd (omega arith)
    go false ex y ey q = let z : ◌≡◌ {A = ℕ} 0 1 = cc in absurd (omega arith)

-- 2 to 64 summaries of one mode.
pub record Found (ps : List (List ℕ)) (s : Summaries) : Type 0 where
  pub some : 2 ≤ length ps
  pub few : length ps ≤ 64
  pub all : AllIn (first_mode ps) ps
  pub are : s ≡ record { mode = first_mode ps; row = map (decode (first_mode ps)) ps }

pub ask-found : (ps : List (List ℕ)) (s : Summaries) → ask_row ps ≡ granted s → Found ps s
unfolding ask_row two_to64
ask-found ps s e = go (two_to64 ps) refl (all_summaries ps) refl (all_of (first_mode ps) ps) refl e
  where
    go : (x : Bool) → two_to64 ps ≡ x → (y : Bool) → all_summaries ps ≡ y → (z : Bool) → all_of (first_mode ps) ps ≡ z →
        question 4 x (onward (question 5 y (question 6 z (granted (first_mode ps)))) (λ m. granted (record { mode = m; row = map (decode m) ps }))) ≡ granted s → Found ps s
    go true ex true ey true ez e = record {
      some = leb-true 2 (length ps) (and_left (leb 2 (length ps)) (leb (length ps) 64) ex);
      few = leb-true (length ps) 64 (and_right (leb 2 (length ps)) (leb (length ps) 64) ex);
      all = all_in (first_mode ps) ps ey ez;
      are = cc;
    }
    go true ex true ey false ez e = let z : ◌≡◌ {A = ℕ} 0 1 = cc in absurd (omega arith)
    go true ex false ey z ez e = let z : ◌≡◌ {A = ℕ} 0 1 = cc in absurd (omega arith)
    go false ex y ey z ez e = let z : ◌≡◌ {A = ℕ} 0 1 = cc in absurd (omega arith)

-- ---- 7 to 11, and the plan

pub log-found : (s t : Summaries) → ask_log s ≡ granted t → (row_fault s.row ≡ pass) × (s ≡ t)
unfolding ask_log
log-found s t e = go (row_fault s.row) e
  where
    go : (v : Verdict) → outcome v s ≡ granted t → (v ≡ pass) × (s ≡ t)
    go pass e = (refl, cc)
    go (refuse n) e = let z : ◌≡◌ {A = ℕ} 0 1 = cc in absurd (omega arith)

module _ (m : ℕ) where
  pub valid-row : (ps : List (List ℕ)) → AllIn m ps → ValidRow (mode_of m).algebra (mode_of m).sizes (map (decode m) ps)
  valid-row [] a = tt
  valid-row (p ∷ ps) a = (decoded m p a.0, valid-row ps a.1)

  -- at most 2 P - 3 lines
  pub few-lines : (ps : List (List ℕ)) → AllIn m ps → 2 ≤ length ps → row_fault (map (decode m) ps) ≡ pass → length (plan_of_row (map (decode m) ps)) + 3 ≤ 2 * length ps
  few-lines ps a l v =
      let 𝒜 = (mode_of m).algebra in
      let ℒ = (mode_of m).laws in
      let r : List (SummaryIn m) = map (decode m) ps in
      let n : length r ≡ length ps = length-map ps (decode m) in
      let w = middle (slopes_of 𝒜 (merge_all 𝒜 r)) in
      let e : finish_of 𝒜 (merge_row 𝒜 r) ≡ granted w =
      ap (finish_of 𝒜) (merge_row-in_order 𝒜 ℒ r) ∙ finish-row 𝒜 ℒ r (fair-row 𝒜 (mode_of m).sizes r (valid-row ps a)) ∙ ap (λ (x : Verdict). outcome x w) v in
      omega (arith, gate-bound 𝒜 ℒ r w e (omega arith))

-- A row that all questions let through.
pub record LetThrough (t : Summaries) : Type 0 where
  pub used : mode_in_use t.mode ≡ true
  pub valid : ValidRow (mode_of t.mode).algebra (mode_of t.mode).sizes t.row
  pub passes : row_fault t.row ≡ pass

pub let_through : (ps : List (List ℕ)) (s t : Summaries) → ask_row ps ≡ granted s → ask_log s ≡ granted t → LetThrough t
let_through ps s t e f =
    let h : Found ps s = ask-found ps s e in
    subst LetThrough (sym h.are ∙ (log-found s t f).1)
    (record {
      used = all_in_use (first_mode ps) ps h.all (omega (arith, h.some));
      valid = valid-row (first_mode ps) ps h.all;
      passes = subst (λ (x : Summaries). row_fault x.row ≡ pass) h.are (log-found s t f).0;
    })

-- At most 125, for 64 pieces.
pub lines-125 : (ps : List (List ℕ)) (s t : Summaries) → ask_row ps ≡ granted s → ask_log s ≡ granted t → length (plan_of_row t.row) ≤ 125
lines-125 ps s t e f =
    let h : Found ps s = ask-found ps s e in
    let v : row_fault (map (decode (first_mode ps)) ps) ≡ pass = subst (λ (x : Summaries). row_fault x.row ≡ pass) h.are (log-found s t f).0 in
    subst (λ (x : Summaries). length (plan_of_row x.row) ≤ 125) (sym h.are ∙ (log-found s t f).1) (omega (arith, h.few, few-lines (first_mode ps) ps h.all h.some v))

-- 12 bytes a line
length-line : (l : Line) → length (line_bytes l) ≡ 12
unfolding line_bytes bytes_of
length-line l = refl

pub lines-length : (ls : List Line) → length (lines_bytes ls) ≡ 12 * length ls
lines-length [] = refl
lines-length (l ∷ ls) = omega (arith, length-append (line_bytes l) (lines_bytes ls), length-line l, lines-length ls)

-- A plan has at most 1,500 bytes.
pub plan-1500 : (ps : List (List ℕ)) (s t : Summaries) → ask_row ps ≡ granted s → ask_log s ≡ granted t → length (plan_bytes t) ≤ 1500
unfolding plan_bytes
plan-1500 ps s t e f = omega (arith, lines-length (plan_of_row t.row), lines-125 ps s t e f)
