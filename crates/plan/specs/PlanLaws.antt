-- What the plan's call comes to, where a row is refused and where it is let through. Assumes nothing.
use Rattle.std.specs.Prelude.{◌≡◌, List, ℕ, ◌*◌, ◌≤◌, ◌<◌, length, take, Option}
use Rattle.std.proofs.Common.{sym, ap, subst, ◌∙◌, arith}
use Rattle.std.proofs.lemmas.List.Edits.{sets}
use Rattle.gate.specs.Outcome.{Outcome, refused, granted, buffer_after}
use Rattle.gate.specs.Answers.{length_answered}
use Rattle.join_plan.specs.Plan.{Line}
use Rattle.join_plan.specs.Scan.{plan}
use Rattle.outcome.specs.Outcomes.{lines_bytes, plan_bytes, plan_outcome}
use Rattle.outcome.proofs.Through.{lines-length}
use Rattle.judge.specs.declared.Numbers.{Numbers}
use Rattle.row_plan.specs.declared.Line.{Line as HeldLine}
use Rattle.row_plan.specs.Arrays.{levels_at, lines_in, Kept}
use Rattle.row_gate.specs.Asks.{ask_all, LetThrough}
use Rattle.row_plan.specs.RowLaws.{plan-is, plan-room}
use Rattle.row_plan.specs.ScanLaws.{kept-count}
use Rattle.row_plan.specs.CallLaws.{call-refused, call-wrote}
use Rattle.row_plan.specs.Wrote.{Wrote}
use Rattle.row_plan.specs.WroteLaws.{too_short, wrote-all}

module _ {these : List Line} {held₀ held : List HeldLine} {n : ℕ} (k : Kept these 0 held₀ n held) where
  pub line-count : n ≡ length these
  line-count = kept-count k

  -- 12 bytes a line
  pub plan-length : length (lines_bytes these) ≡ 12 * n
  plan-length = lines-length these ∙ ap (λ (l : ℕ). 12 * l) (sym line-count)

  -- all are written
  pub plan-written : (b out : List ℕ) → 12 * n ≤ length b → out ≡ sets b 0 (lines_bytes (lines_in (take n held))) → Wrote (lines_bytes these) (granted (12 * n)) b out
  plan-written b out h e = wrote-all (lines_bytes these) b out (12 * n) (sym plan-length) (omega (arith, plan-length)) (e ∙ ap (λ (l : List Line). sets b 0 (lines_bytes l)) k.lines)

pub plan-not : (row b : List ℕ) (n : ℕ) → ask_all row ≡ refused n → (refused n ≡ length_answered (plan_outcome row (length b))) × (b ≡ buffer_after (plan_outcome row (length b)) b)
unfolding plan_outcome
plan-not row b n e = call-refused plan_bytes row b n e

pub plan-wrote : (row before after : List ℕ) (r : Outcome ℕ) (count m : ℕ) (notes : List (Option Numbers)) → LetThrough row count m notes → Wrote (lines_bytes (plan (levels_at notes) count)) r before after →
    (r ≡ length_answered (plan_outcome row (length before))) × (after ≡ buffer_after (plan_outcome row (length before)) before)
unfolding plan_outcome plan_bytes
plan-wrote row before after r count m notes t w = call-wrote plan_bytes row before after r count m notes t (subst (λ (l : List Line). Wrote (lines_bytes l) r before after) (plan-is t) w)

-- ---- a row that is let through

module _ {row : List ℕ} {count m : ℕ} {notes : List (Option Numbers)} (t : LetThrough row count m notes) {held₀ held : List HeldLine} {n : ℕ} (k : Kept (plan (levels_at notes) count) 0 held₀ n held) where
  pub plan-few : n ≤ 128
  plan-few = omega (arith, line-count k, plan-room t)

  pub plan-short : (b : List ℕ) → length b < 12 * n → (refused 12 ≡ length_answered (plan_outcome row (length b))) × (b ≡ buffer_after (plan_outcome row (length b)) b)
  plan-short b h = plan-wrote row b b (refused 12) count m notes t (too_short (lines_bytes (plan (levels_at notes) count)) b (omega (arith, plan-length k)))

  pub plan-answered : (b out : List ℕ) → 12 * n ≤ length b → out ≡ sets b 0 (lines_bytes (lines_in (take n held))) →
      (granted (12 * n) ≡ length_answered (plan_outcome row (length b))) × (out ≡ buffer_after (plan_outcome row (length b)) b)
  plan-answered b out h e = plan-wrote row b out (granted (12 * n)) count m notes t (plan-written k b out h e)
