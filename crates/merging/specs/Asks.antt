-- What the functions of `merging` ask and leave. Definitions only.
use Rattle.std.specs.Prelude.{◌≡◌, ℕ, ◌*◌}
use Rattle.figure.specs.Mode.{mode_of}
use Rattle.hill.specs.Verdict.{pass}
use Rattle.summary.specs.Layout.{SummaryIn}
use Rattle.summary.specs.Accepted.{Accepted}
use Rattle.slopes.specs.Arrays.{Arrays64, StandsFor}
use Rattle.slopes.specs.Kept.{arrays_of}
use Rattle.join_plan.specs.Gate.{summary_fault}
use Rattle.plan_work.specs.Runs.{slopes_of}
use Rattle.merging.specs.declared.Merged.{Merged}
use Rattle.merging.specs.Side.{SaysOf}

-- What was merged is the accepted summary s of mode m: the numbers in hand are its, and, where it has no fault, the slopes stand for its hill.
pub record Kept (m : ℕ) (a : Merged) (s : SummaryIn m) : Type 0 where
  pub whole : Arrays64 (arrays_of a.slopes)
  pub accepted : Accepted m s
  pub says : SaysOf m a.side s
  pub stands : summary_fault (mode_of m).algebra s ≡ pass → StandsFor (mode_of m) (arrays_of a.slopes) a.counts (slopes_of (mode_of m).algebra s) ((mode_of m).sizes.unit * 100000)

-- It is some such summary.
pub record Keeps (m : ℕ) (a : Merged) : Type 0 where
  pub summary : SummaryIn m
  pub kept : Kept m a summary
