-- What is noted of a row that is let through says its plan, which has room. Assumes nothing.
use Rattle.std.specs.Prelude.{◌≡◌, List, [], ◌++◌, map, length, get_or, Option}
use Rattle.std.proofs.Math.Path.{refl, ap, ap₂}
use Rattle.std.proofs.Common.{sym, ◌∙◌, arith}
use Prim.Native.Nat.{ℕ, zero, suc, ◌+◌, ◌≤◌, ◌<◌}
use Rattle.std.proofs.lemmas.List.{length-map}
use Rattle.figure.specs.Mode.{mode_of}
use Rattle.hill.specs.Summary.{blank}
use Rattle.summary.specs.Judge.{IsSummary, is_blank, is_spoilt, is_hill, rise_at, fall_at, start_at, peak_at, end_at}
use Rattle.summary.specs.Decode.{decode}
use Rattle.summary.proofs.Values.{lefts-length, rights-length, reading-blank, reading-spoilt, reading-hill}
use Rattle.summary.specs.Layout.{SummaryIn}
use Rattle.judge.specs.Judged.{head_at}
use Rattle.judge.specs.Numbers.{numbers_of}
use Rattle.judge.specs.declared.Numbers.{Numbers}
use Rattle.judge.specs.Laws.{head-blank, head-spoilt, head-hill}
use Rattle.join_plan.specs.Plan.{Levels, blank as noLevels, hill as levels, levels_of_summary, plan_of_row}
use Rattle.join_plan.specs.Scan.{line_of, passed, walk, lines_to, plan}
use Rattle.plan_work.proofs.RowLevels.{plan-row}
use Rattle.outcome.specs.Laws.{AllIn}
use Rattle.outcome.proofs.Through.{few-lines}
use Rattle.row.specs.Row.{row_pieces}
use Rattle.row_plan.specs.Arrays.{levels_of, levels_at}
use Rattle.row_gate.specs.Notes.{AllNoted}
use Rattle.row_gate.specs.Asks.{LetThrough}
use Rattle.row_gate.specs.RowLaws.{each_in, decoded-at}

-- ---- one piece

pub levels-piece : (m : ℕ) (b : List ℕ) → IsSummary b → levels_of (numbers_of (head_at b)) ≡ levels_of_summary (decode m b)
unfolding decode
levels-piece m b (is_blank f) = rw (head-blank b f.kind_fits, reading-blank (mode_of m).read b f.kind_fits)
levels-piece m b (is_spoilt v) = rw (head-spoilt b v.layout.kind_fits, reading-spoilt (mode_of m).read b v.layout.kind_fits)
levels-piece m b (is_hill v) =
    let s : peak_at b + rise_at b ≡ start_at b = omega (arith, v.peak-start) in
    let e : peak_at b + fall_at b ≡ end_at b = omega (arith, v.peak-end) in
    rw (
      head-hill b (λ x. omega (arith, v.layout.kind_fits)) (λ x. omega (arith, v.layout.kind_fits)),
      reading-hill (mode_of m).read b v.layout.kind_fits,
      lefts-length (mode_of m).read b (rise_at b),
      rights-length (mode_of m).read b (fall_at b),
      s,
      e,
    )

-- ---- the plan reads the levels of its chunks only

module _ (f g : ℕ → Levels) where
  walk-cong : (j p m n : ℕ) → ((k : ℕ) → k < n → f k ≡ g k) → walk f j p m n ≡ walk g j p m n
  unfolding walk
  walk-cong j p m zero h = refl
  walk-cong j p m (suc n) h = ap (λ c. line_of c n j p m ++ walk f j p (passed c m) n) (h n (omega arith)) ∙ ap (λ l. line_of (g n) n j p m ++ l) (walk-cong j p (passed (g n) m) n (λ k b. h k (omega arith)))

  lines_to-cong : (c : Levels) (j : ℕ) → ((k : ℕ) → k < j → f k ≡ g k) → lines_to f c j ≡ lines_to g c j
  unfolding lines_to
  lines_to-cong noLevels j h = refl
  lines_to-cong (levels s p e) j h = walk-cong j p s j h

  plan-cong : (n : ℕ) → ((k : ℕ) → k < n → f k ≡ g k) → plan f n ≡ plan g n
  unfolding plan
  plan-cong zero h = refl
  plan-cong (suc n) h = ap₂ (λ a b. a ++ b) (plan-cong n (λ k b. h k (omega arith))) (ap (λ c. lines_to f c n) (h n (omega arith)) ∙ lines_to-cong (g n) n (λ k b. h k (omega arith)))

-- ---- the pieces of a row

module _ (m : ℕ) (ps : List (List ℕ)) (a : AllIn m ps) where
  abbrev row : List (SummaryIn m)
  row = map (decode m) ps

  pub row-plan : (notes : List (Option Numbers)) → AllNoted ps notes → (count : ℕ) → length ps ≡ count → plan (levels_at notes) count ≡ plan_of_row row
  row-plan notes noted count e =
      plan-cong (levels_at notes) (λ k. levels_of_summary (get_or row k blank)) count each ∙ ap (plan (λ (k : ℕ). levels_of_summary (get_or row k blank))) (sym e ∙ sym (length-map ps (decode m))) ∙ sym (plan-row (mode_of m).algebra row)
    where
      each : (k : ℕ) → k < count → levels_at notes k ≡ levels_of_summary (get_or row k blank)
      each k h = ap levels_of (noted k (omega arith)) ∙ levels-piece m (get_or ps k []) (each_in m ps a k (omega arith)) ∙ ap levels_of_summary (sym (decoded-at m ps k (omega arith)))

-- ---- a row that is let through

module _ {row : List ℕ} {count m : ℕ} {notes : List (Option Numbers)} (t : LetThrough row count m notes) where
  pub plan-is : plan (levels_at notes) count ≡ plan_of_row (map (decode m) (row_pieces row))
  plan-is = row-plan m (row_pieces row) t.all notes t.noted count t.long

  -- at most 125 lines
  pub plan-room : length (plan (levels_at notes) count) ≤ 128
  plan-room = omega (arith, t.long, t.few, ap length plan-is, few-lines m (row_pieces row) t.all (omega (arith, t.long, t.some)) t.faultless)
