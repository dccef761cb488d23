-- The ways to finish a log, and the figure that they all lead to. Definitions only.
use Rattle.std.specs.Prelude.{◌≡◌, cond, List, [], ◌∷◌, ℕ, ◌≤◌, eqb, ℤ, length}
use Rattle.gate.specs.Outcome.{granted}
use Rattle.hill.specs.Row.{Call, replay, on_result}
use Rattle.summary.specs.Outcomes.{finish_outcome}
use Rattle.outcome.specs.Outcomes.{work_outcome}
use Rattle.outcome.specs.Day.{day_outcome}
use Rattle.outcome.specs.declared.Figures.{Figures}
use Rattle.claim.specs.Claim.{log_says, IsCut, Lent, by_calls, RowSize, chunks, start_row, lent_row, AreMerges}

-- A way to finish a log: its bytes are cut and merged, in some mode, until one piece is left.
pub record Finishing (mode : ℕ) (log : List ℕ) : Type 0 where
  pub places : List ℕ
  pub buffers : List (List ℕ)
  pub merges : List (Call Lent)
  pub is_cut : IsCut mode log places buffers
  pub are-merges : AreMerges mode log places buffers merges
  pub piece : List ℕ
  pub is-left : replay by_calls merges (start_row mode log places buffers) ≡ piece ∷ []

-- The day's figure in a mode in use.
abbrev pub day_figure : (mode : ℕ) → Figures → ℤ
day_figure mode f = cond (eqb mode 1) f.net (cond (eqb mode 2) f.heaviest (cond (eqb mode 4) f.stamp f.eaten))

-- A log leads to the figure z in a mode: z is what the log says and, however the log is cut and merged, what finish answers and the work along the plan comes to;
-- and, of a log of one chunk, what the day's call answers.
pub record LeadsTo (mode : ℕ) (log : List ℕ) (z : ℤ) : Type 0 where
  pub says : log_says mode log ≡ granted z
  pub finished : (t : Finishing mode log) → finish_outcome t.piece ≡ granted z
  pub worked : (places : List ℕ) (buffers : List (List ℕ)) → IsCut mode log places buffers → RowSize (length (chunks mode log places buffers))
      → on_result (λ w. w.figure) (work_outcome (lent_row mode log places buffers)) ≡ granted z
  pub day : length log ≤ 65_536 → on_result (day_figure mode) (day_outcome log) ≡ granted z
