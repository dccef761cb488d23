-- The runs that are written are the paper's: for each line the one that figure/Run says, and no other. Assumes nothing.
use Rattle.std.specs.Prelude.{◌≡◌, refl, length}
use Rattle.std.proofs.Common.{sym, ap₂, arith}
use Rattle.std.proofs.Math.Path.{subst}
use mathlib.Core.List.{List, [], ◌∷◌, ◌++◌, Memᴰ}
use Prim.Native.Nat.{ℕ, suc, ◌-◌, ◌≤◌, ◌<◌}
use Rattle.gate.specs.Outcome.{granted, written}
use Rattle.row.specs.Row.{row_pieces}
use Rattle.algebra.specs.Run.{Level, AllSound, run}
use Rattle.modes.specs.FourModes.{InRange}
use Rattle.figure.specs.Mode.{mode_of}
use Rattle.summary.specs.Layout.{SummaryIn}
use Rattle.join_plan.specs.Plan.{Line, plan_of_row}
use Rattle.plan_work.specs.Fair.{ValidRow}
use Rattle.plan_work.specs.Runs.{run_levels, run_of, runs_along, runs_of}
use Rattle.plan_work.proofs.RunsExact.{run_length_lem, run_sound}
use Rattle.outcome.specs.Outcomes.{Summaries, ask_row, ask_log, each_run, runs_bytes, runs_outcome}
use Rattle.outcome.proofs.Through.{let_through}

module _ (m : ℕ) (row : List (SummaryIn m)) where
  -- One run for each of these lines, in their order: numbers that figure/Run says are the run of the levels that the line goes through.
  abbrev pub RunsOfLines : List Line → List (mode_of m).context.K → Type 0
  RunsOfLines [] [] = Unit {0}
  RunsOfLines [] (k ∷ ks) = ⊥
  RunsOfLines (e ∷ es) [] = ⊥
  RunsOfLines (e ∷ es) (k ∷ ks) = (mode_of m).IsRun (run_levels (mode_of m).algebra row e) k × RunsOfLines es ks

  only-these : (es : List Line) (js ks : List (mode_of m).context.K) → RunsOfLines es js → RunsOfLines es ks → js ≡ ks
  only-these [] [] [] p q = refl
  only-these [] [] (k ∷ ks) p q = absurd q
  only-these [] (j ∷ js) ks p q = absurd p
  only-these (e ∷ es) [] ks p q = absurd p
  only-these (e ∷ es) (j ∷ js) [] p q = absurd q
  only-these (e ∷ es) (j ∷ js) (k ∷ ks) p q =
      ap₂ ◌∷◌ ((mode_of m).pinned.only (run_levels (mode_of m).algebra row e) j k p.0 q.0) (only-these es js ks p.1 q.1)

  one-run : (ls : List (Level (mode_of m).algebra)) → 0 < length ls → AllSound InRange ls → (k : (mode_of m).context.K) × (run_of (mode_of m).context ls ≡ k ∷ []) × (mode_of m).IsRun ls k
  one-run [] h s = absurd (omega arith)
  one-run (l ∷ ls) h s = (run (mode_of m).context l ls, refl, (mode_of m).pinned.is l ls s)

  module _ (v : ValidRow (mode_of m).algebra (mode_of m).sizes row) where
    computed : (es : List Line) → ((e : Line) → Memᴰ e es → Memᴰ e (plan_of_row row)) → RunsOfLines es (runs_along (mode_of m).context row es)
    unfolding runs_along
    computed [] f = tt
    computed (e ∷ es) f =
        let n : (e.lowest ≤ e.highest) × (length (run_levels (mode_of m).algebra row e) ≡ suc e.highest - e.lowest) = run_length_lem (mode_of m).algebra row e (f e (Memᴰ.head refl)) in
        let r = one-run (run_levels (mode_of m).algebra row e) (omega arith) (run_sound (mode_of m).algebra (mode_of m).sizes InRange (λ r s. s) row e v) in
        subst (λ (ks : List (mode_of m).context.K). RunsOfLines (e ∷ es) (ks ++ runs_along (mode_of m).context row es)) (sym r.1) (r.2, computed es (λ d i. f d (Memᴰ.tail i)))

-- What the call writes of the row that it let through as t: the runs of the plan's lines, and there is only one such list of numbers.
pub record WritesRuns (row : List ℕ) (t : Summaries) : Type 0 where
  pub runs : List (mode_of t.mode).context.K
  pub outcome : (cap : ℕ) → runs_outcome row cap ≡ written cap (each_run t.mode runs)
  pub are : RunsOfLines t.mode t.row (plan_of_row t.row) runs
  pub only : (ks : List (mode_of t.mode).context.K) → RunsOfLines t.mode t.row (plan_of_row t.row) ks → ks ≡ runs

pub runs-written : (row : List ℕ) (s t : Summaries) → ask_row (row_pieces row) ≡ granted s → ask_log s ≡ granted t → WritesRuns row t
unfolding runs_outcome runs_bytes
runs-written row s t e f = record {
  runs = runs_of (mode_of t.mode).context t.row;
  outcome = λ cap. rw (e, f);
  are = these;
  only = λ ks r. only-these t.mode t.row (plan_of_row t.row) ks (runs_of (mode_of t.mode).context t.row) r these;
}
  where
    these : RunsOfLines t.mode t.row (plan_of_row t.row) (runs_of (mode_of t.mode).context t.row)
    these = computed t.mode t.row (let_through (row_pieces row) s t e f).valid (plan_of_row t.row) (λ d i. i)
