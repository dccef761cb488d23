-- A line of the plan: where its levels are read, what they are, and what they can add up to. Assumes nothing.
use Rattle.std.specs.Prelude.{◌≡◌, refl, ℕ, zero, suc, ◌+◌, ◌-◌, ◌≤◌, ◌<◌, length, take, Option}
use Rattle.std.proofs.Common.{ap, subst, ◌∙◌, arith, length-take}
use Rattle.std.proofs.Math.Path.{ap₂}
use mathlib.Core.List.{List, [], ◌∷◌, ◌++◌, Memᴰ}
use Rattle.row.specs.Row.{row_pieces}
use Rattle.algebra.specs.Run.{Level}
use Rattle.algebra.specs.Sizes.{costs}
use Rattle.figure.specs.Mode.{mode_of}
use Rattle.summary.specs.Layout.{SummaryIn}
use Rattle.summary.specs.Decode.{decode}
use Rattle.join_plan.specs.Plan.{Line, plan_of_row}
use Rattle.join_plan.specs.Scan.{plan}
use Rattle.plan_work.specs.Runs.{peak_of_summary, slopes_of, levels_down, summary_at, run_levels}
use Rattle.plan_work.proofs.WorkLaws.{levels-next}
use Rattle.plan_work.proofs.RunsExact.{line-spans}
use Rattle.plan_work.proofs.WorkSizes.{levels-light, load_fits}
use Rattle.row_plan.specs.Arrays.{levels_at, lines_in, Kept}
use Rattle.row_plan.specs.declared.Line.{Line as HeldLine}
use Rattle.judge.specs.declared.Numbers.{Numbers}
use Rattle.row_plan.specs.RowLaws.{plan-is, plan-room}
use Rattle.row_plan.specs.ScanLaws.{kept-count}
use Rattle.outcome.proofs.Through.{valid-row}
use Rattle.row_gate.specs.RowLaws.{decoded-at}
use Rattle.run_level.specs.declared.Place.{Place}
use Rattle.run_level.specs.Levels.{piece_of, Begun, place_in, Reads, level_at, level_for}
use Rattle.run_level.specs.StandsFor.{LineLevels, level-is}
use Rattle.run_level.specs.Lines.{line_reads, levels-of}
use Rattle.row_gate.specs.Asks.{LetThrough}
use Rattle.run_level.specs.Along.{row_in, Along, line_at, levels_of}

-- ---- the lines of a plan

-- A row that is let through, once its plan is scanned.
module _ {row : List ℕ} {count m : ℕ} {notes : List (Option Numbers)} (t : LetThrough row count m notes) {held held' : List HeldLine} {n : ℕ} (k : Kept (plan (levels_at notes) count) 0 held n held') where
  pub plan-count : n ≡ length (plan_of_row (row_in m row))
  plan-count = kept-count k ∙ ap length (plan-is t)

  pub lines-few : n ≤ 128
  lines-few = omega (arith, kept-count k, plan-room t)

  pub along : {ats : List ℕ} → Begun row count ats → Along row count m ats notes (take n held')
  along b = record { ready = record { let_through = t; begun = b }; planned = k.lines ∙ plan-is t; few = simp length-take (omega (arith, lines-few)) }

line-here : (lines : List HeldLine) (k : ℕ) → k < length lines → Memᴰ (line_at lines k) (lines_in lines)
line-here [] k h = absurd (omega arith)
line-here (l ∷ lines) zero h = Memᴰ.head refl
line-here (l ∷ lines) (suc k) h = Memᴰ.tail (line-here lines k (omega arith))

module _ {row : List ℕ} {count m : ℕ} {ats : List ℕ} {notes : List (Option Numbers)} {lines : List HeldLine} (a : Along row count m ats notes lines) (k : ℕ) (h : k < length lines) where
  abbrev e : Line
  e = line_at lines k

  pub line-member : Memᴰ e (plan_of_row (row_in m row))
  line-member = subst (λ (ls : List Line). Memᴰ e ls) a.planned (line-here lines k h)

  pub line-levels-of : LineLevels m (row_pieces row) e
  line-levels-of = levels-of a.ready.let_through a.ready.begun e line-member

  pub line-reads-at : (d : ℕ) → e.lowest ≤ d → d ≤ e.highest → Reads row (place_in ats notes e.i) (place_in ats notes e.j) d
  line-reads-at = line_reads a.ready.let_through a.ready.begun e line-levels-of

  -- The levels of the line are those of the hills at its places.
  pub line-is : run_levels (mode_of m).algebra (row_in m row) e ≡ levels_of row m (place_in ats notes e.i) (place_in ats notes e.j) e.lowest (suc e.highest - e.lowest)
  unfolding run_levels
  line-is =
      let v = line-levels-of in
      let p : summary_at (mode_of m).algebra (row_in m row) e.i ≡ decode m (piece_of row e.i) = decoded-at m (row_pieces row) e.i (omega (arith, v.order, v.within)) in
      let q : summary_at (mode_of m).algebra (row_in m row) e.j ≡ decode m (piece_of row e.j) = decoded-at m (row_pieces row) e.j v.within in
      ap₂ (λ (s t : SummaryIn m). levels_down (mode_of m).algebra (peak_of_summary (mode_of m).algebra s) (slopes_of (mode_of m).algebra s) (peak_of_summary (mode_of m).algebra t) (slopes_of (mode_of m).algebra t) e.lowest (suc e.highest - e.lowest)) p q

  -- They add at most 10^14.
  pub line-costs : costs (mode_of m).sizes (run_levels (mode_of m).algebra (row_in m row) e) ≤ 100_000_000_000_000
  line-costs =
      let 𝒜 = (mode_of m).algebra in
      let 𝒮 = (mode_of m).sizes in
      let t = a.ready.let_through in
      let v = valid-row m (row_pieces row) t.all in
      omega (arith, levels-light 𝒜 𝒮 (row_in m row) v e (line-spans 𝒜 (row_in m row) e line-member), load_fits 𝒜 𝒮 (row_in m row) v (mode_of m).laws (mode_of m).commutative t.faultless (mode_of m).unit-small)

-- ---- one level more

module _ (row : List ℕ) (m : ℕ) (o c : Place) (low n : ℕ) where
  -- The level of depth low + n stands before those below it.
  pub levels-cons : (d : ℕ) → d ≡ low + n → Reads row o c d → levels_of row m o c low (suc n) ≡ level_for m (level_at (piece_of row o.piece) (piece_of row c.piece) d) ∷ levels_of row m o c low n
  levels-cons d e r =
      let s : Reads row o c (low + n) = rw e at r in
      rw e (levels-next (mode_of m).algebra _ _ _ _ low n ∙ ap (λ (ls : List (Level (mode_of m).algebra)). ls ++ levels_of row m o c low n) (level-is m (piece_of row o.piece) (piece_of row c.piece) (low + n) s.opens s.closes))
