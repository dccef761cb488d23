-- A line's levels in a row that is let through: its two places, and what is read at each of its depths. Assumes nothing.
use Rattle.std.specs.Prelude.{◌≡◌, ℕ, ◌≤◌, ◌<◌, length, Option}
use Rattle.std.proofs.Common.{ap, ◌∙◌, arith}
use mathlib.Core.List.{List, map, Memᴰ}
use Rattle.row.specs.Row.{row_pieces}
use Rattle.summary.specs.Judge.{IsHill}
use Rattle.summary.specs.Decode.{decode}
use Rattle.judge.specs.Judged.{head_at, hill_head_at}
use Rattle.judge.specs.declared.Head.TheVariants.{Hill}
use Rattle.judge.specs.Laws.{head-hill}
use Rattle.join_plan.specs.Plan.{Line, plan_of_row}
use Rattle.judge.specs.Numbers.{numbers_of}
use Rattle.judge.specs.declared.Numbers.{Numbers}
use Rattle.row_gate.specs.Asks.{LetThrough}
use Rattle.run_level.specs.Levels.{piece_of, Begun, start_of, peak_of, place_in, Placed, Reads}
use Rattle.run_level.specs.StandsFor.{LineLevels, line-levels}

hill-head : (b : List ℕ) → IsHill b → head_at b ≡ Hill (hill_head_at b)
hill-head b v = head-hill b (λ e. omega (arith, v.layout.kind_fits)) (λ e. omega (arith, v.layout.kind_fits))

module _ {row : List ℕ} {count m : ℕ} {notes : List (Option Numbers)} (t : LetThrough row count m notes) {ats : List ℕ} (b : Begun row count ats) where
  -- The place of a hill.
  pub placed : (k : ℕ) → k < count → IsHill (piece_of row k) → Placed row (place_in ats notes k)
  placed k h v =
      let l : k < length (row_pieces row) = omega (arith, t.long) in
      let n = t.noted k l ∙ ap numbers_of (hill-head (piece_of row k) v) in
      record { within = l; begins = b.each k h; start_is = ap start_of n; peak-is = ap peak_of n }

  -- What is read at each depth of a line.
  pub line_reads : (e : Line) → LineLevels m (row_pieces row) e → (d : ℕ) → e.lowest ≤ d → d ≤ e.highest → Reads row (place_in ats notes e.i) (place_in ats notes e.j) d
  line_reads e v d l h =
      let j : e.j < count = omega (arith, v.within, t.long) in
      let o = v.opens d l h in
      let c = v.closes d l h in
      record { opener-placed = placed e.i (omega (arith, v.order)) o.is; closer-placed = placed e.j j c.is; opens = o; closes = c }

  pub levels-of : (e : Line) → Memᴰ e (plan_of_row (map (decode m) (row_pieces row))) → LineLevels m (row_pieces row) e
  levels-of e x = line-levels m (row_pieces row) t.all e x
