-- What the call comes to, where a row is refused and where it is let through. Assumes nothing.
use Rattle.std.specs.Prelude.{◌≡◌, List, map, ℕ, ◌*◌, ◌≤◌, ◌<◌, length, take, Option}
use Rattle.std.proofs.Common.{sym, ap, subst, ◌∙◌, mul-le-mul, arith}
use Rattle.std.proofs.lemmas.List.Edits.{sets}
use Rattle.gate.specs.Outcome.{Outcome, refused, granted, buffer_after}
use Rattle.gate.specs.Answers.{length_answered}
use Rattle.row.specs.Row.{row_pieces}
use Rattle.figure.specs.Mode.{mode_of}
use Rattle.hill.specs.Verdict.{Verdict, pass, refuse}
use Rattle.hill.specs.Finish.{outcome}
use Rattle.summary.specs.Decode.{decode}
use Rattle.join_plan.specs.Plan.{Line, plan_of_row}
use Rattle.join_plan.specs.Scan.{plan}
use Rattle.plan_work.specs.Runs.{runs_of}
use Rattle.plan_work.proofs.RunsExact.{runs-count}
use Rattle.plan_work.specs.Gate.{row_fault}
use Rattle.outcome.specs.Outcomes.{Summaries, first_mode, ask_row, ask_log, run_length, runs_bytes, runs_outcome}
use Rattle.outcome.proofs.RunLaws.{length_most, length-each}
use Rattle.outcome.proofs.Through.{valid-row, Found, ask-found, lines-125}
use Rattle.judge.specs.declared.Numbers.{Numbers}
use Rattle.row_plan.specs.declared.Line.{Line as HeldLine}
use Rattle.row_plan.specs.Arrays.{levels_at, lines_in, Kept}
use Rattle.row_plan.specs.RowLaws.{plan-is}
use Rattle.row_gate.specs.Asks.{ask_all, LetThrough}
use Rattle.row_plan.specs.CallLaws.{call-refused, call-wrote}
use Rattle.row_plan.specs.Wrote.{Wrote}
use Rattle.row_plan.specs.WroteLaws.{too_short, wrote-all}
use Rattle.run_level.specs.Levels.{Begun}
use Rattle.run_level.specs.Along.{row_in}
use Rattle.run_level.specs.AlongLaws.{plan-count, lines-few, along}
use Rattle.runs.specs.Runs.{Lines, lines_runs}
use Rattle.runs.specs.BytesLaws.{few_bytes}

-- ---- the lines of a row that is let through

module _ {row : List ℕ} {count m : ℕ} {notes : List (Option Numbers)} (t : LetThrough row count m notes) {held₀ held : List HeldLine} {n : ℕ} (k : Kept (plan (levels_at notes) count) 0 held₀ n held) where
  -- as many bytes a line
  pub runs-length : length (lines_runs row m (plan_of_row (row_in m row))) ≡ run_length m * n
  runs-length =
      length-each m (runs_of (mode_of m).context (row_in m row)) ∙
      ap (λ (l : ℕ). run_length m * l) (runs-count (mode_of m).context (mode_of m).sizes (λ r f. f) (row_in m row) (valid-row m (row_pieces row) t.all) ∙ sym (plan-count t k))

  -- all are written
  pub runs-written : (b out : List ℕ) (total : ℕ) → total ≡ run_length m * n → total ≤ length b → out ≡ sets b 0 (lines_runs row m (lines_in (take n held))) → Wrote (lines_runs row m (plan_of_row (row_in m row))) (granted total) b out
  runs-written b out total p h e =
      wrote-all (lines_runs row m (plan_of_row (row_in m row))) b out total (p ∙ sym runs-length) (omega (arith, runs-length)) (e ∙ ap (λ (l : List Line). sets b 0 (lines_runs row m l)) (k.lines ∙ plan-is t))

  pub all_lines : {ats : List ℕ} → Begun row count ats → Lines row m ats notes (take n held)
  all_lines b = record { count = count; along = along t k b }

-- ---- the call

pub runs-not : (row b : List ℕ) (n : ℕ) → ask_all row ≡ refused n → (refused n ≡ length_answered (runs_outcome row (length b))) × (b ≡ buffer_after (runs_outcome row (length b)) b)
unfolding runs_outcome
runs-not row b n e = call-refused runs_bytes row b n e

pub runs-wrote : (row before after : List ℕ) (r : Outcome ℕ) (count m : ℕ) (notes : List (Option Numbers)) → LetThrough row count m notes → Wrote (lines_runs row m (plan_of_row (row_in m row))) r before after →
    (r ≡ length_answered (runs_outcome row (length before))) × (after ≡ buffer_after (runs_outcome row (length before)) before)
unfolding runs_outcome runs_bytes
runs-wrote row before after r count m notes t w = call-wrote runs_bytes row before after r count m notes t w

module _ {row : List ℕ} {count m : ℕ} {notes : List (Option Numbers)} (t : LetThrough row count m notes) {held₀ held : List HeldLine} {n : ℕ} (k : Kept (plan (levels_at notes) count) 0 held₀ n held)
    (bytes : ℕ) (e : bytes ≡ run_length m) where
  pub runs-few : bytes * n ≤ 4864
  runs-few = few_bytes bytes n m e (lines-few t k)

  total-is : bytes * n ≡ run_length m * n
  total-is = ap (λ (b : ℕ). b * n) e

  pub runs-short : (b : List ℕ) → length b < bytes * n → (refused 12 ≡ length_answered (runs_outcome row (length b))) × (b ≡ buffer_after (runs_outcome row (length b)) b)
  runs-short b h = runs-wrote row b b (refused 12) count m notes t (too_short (lines_runs row m (plan_of_row (row_in m row))) b (omega (arith, total-is, runs-length t k)))

  pub runs-answered : (b out : List ℕ) → bytes * n ≤ length b → out ≡ sets b 0 (lines_runs row m (lines_in (take n held))) →
      (granted (bytes * n) ≡ length_answered (runs_outcome row (length b))) × (out ≡ buffer_after (runs_outcome row (length b)) b)
  runs-answered b out h f = runs-wrote row b out (granted (bytes * n)) count m notes t (runs-written t k b out (bytes * n) total-is h f)

-- ---- at most 125 runs

log-same : (s t : Summaries) → ask_log s ≡ granted t → s ≡ t
unfolding ask_log
log-same s t e = go (row_fault s.row) e
  where
    go : (v : Verdict) → outcome v s ≡ granted t → s ≡ t
    go pass e = cc
    go (refuse n) e = let z : ◌≡◌ {A = ℕ} 0 1 = cc in absurd (omega arith)

le-of-eq-le : {a b c : ℕ} → a ≡ b → b ≤ c → a ≤ c
le-of-eq-le e h = omega arith

-- The runs of a row have at most 4,750 bytes.
pub runs-4750 : (ps : List (List ℕ)) (s t : Summaries) → ask_row ps ≡ granted s → ask_log s ≡ granted t → length (runs_bytes t) ≤ 4750
unfolding runs_bytes
runs-4750 ps s t e f =
    let h : Found ps s = ask-found ps s e in
    let m : ℕ = first_mode ps in
    let q : record { mode = m; row = map (decode m) ps } ≡ t = sym h.are ∙ log-same s t f in
    let n : length (plan_of_row (map (decode m) ps)) ≤ 125 = subst (λ (x : Summaries). length (plan_of_row x.row) ≤ 125) (sym q) (lines-125 ps s t e f) in
    subst (λ (x : Summaries). length (runs_bytes x) ≤ 4750) q
    (le-of-eq-le (length-each m (runs_of (mode_of m).context (map (decode m) ps))) (mul-le-mul {n₁ = run_length m} {m₁ = length (runs_of (mode_of m).context (map (decode m) ps))} {n₂ = 38} {m₂ = 125} (length_most m) (omega (arith, runs-count (mode_of m).context (mode_of m).sizes (λ r f. f) (map (decode m) ps) (valid-row m ps h.all), n))))
