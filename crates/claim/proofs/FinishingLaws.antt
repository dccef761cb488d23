-- Every way to finish a log leads to what the log says; where it is well formed, to the recursion's figure. Assumes nothing.
use Rattle.std.specs.Prelude.{◌≡◌, true, List, [], ℕ, ◌≤◌, ℤ, length}
use Rattle.std.proofs.Math.Path.{refl}
use Rattle.std.proofs.Common.{ap, ◌∙◌}
use Rattle.gate.specs.Outcome.{granted}
use Rattle.modes.specs.FourModes.{Amounts}
use Rattle.figure.specs.Mode.{mode_in_use}
use Rattle.figure.specs.Stored.{by_mode}
use Rattle.hill.specs.Log.{Record}
use Rattle.hill.specs.Row.{on_result}
use Rattle.summary.specs.Outcomes.{finish_outcome, log_outcome}
use Rattle.chunk.specs.Chunk.{figure_in, IsWellFormed}
use Rattle.chunk.proofs.Laws.{log_is}
use Rattle.outcome.specs.Day.{figures_of, day_outcome}
use Rattle.claim.specs.Claim.{log_says}
use Rattle.claim.proofs.Demand3.{demand3}
use Rattle.claim.specs.Finishing.{day_figure, Finishing, LeadsTo}

pub finish-says : {mode : ℕ} {log : List ℕ} (t : Finishing mode log) → finish_outcome t.piece ≡ log_says mode log
finish-says {mode} {log} t = (demand3 mode log t.places t.buffers t.merges t.is_cut t.are-merges).finished t.piece t.is-left

module _ (mode : ℕ) (u : mode_in_use mode ≡ true) {log : List ℕ} {xs : List (Record Amounts)} (i : IsWellFormed log xs) where
  says : log_says mode log ≡ granted (figure_in mode xs)
  unfolding log_says log_outcome figure_in
  says = rw (i.read, i.records-are, i.fine)

  by-day : day_figure mode (figures_of xs) ≡ figure_in mode xs
  unfolding figures_of
  by-day = by_mode (λ m. day_figure m (figures_of xs) ≡ figure_in m xs) refl refl refl refl mode u

  answered : length log ≤ 65_536 → on_result (day_figure mode) (day_outcome log) ≡ granted (figure_in mode xs)
  unfolding day_outcome
  answered h = rw (log_is (record { short = h; formed = i })) (ap granted by-day)

  -- A WELL-FORMED LOG LEADS TO THE RECURSION'S FIGURE.
  pub leads-to : (z : ℤ) → figure_in mode xs ≡ z → LeadsTo mode log z
  leads-to z e = rw (← e) record { says = says; finished = λ t. finish-says t ∙ says; worked = λ places buffers c s. (demand3 mode log places buffers [] c tt).worked s ∙ says; day = answered }
