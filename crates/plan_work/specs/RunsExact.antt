-- Each line of the plan of an accepted row has its run, which does to x what its levels do one after another. Assumes nothing.
use mathlib.Core.List.{List}
use Prim.Native.Nat.{◌+◌, ◌≤◌, ◌<◌}
use Rattle.std.proofs.Math.ListN.{length}
use Rattle.algebra.specs.Algebra.{Algebra}
use Rattle.hill.specs.Summary.{Summary, rise, fall}
use Rattle.join_plan.specs.Plan.{Line}
use Rattle.plan_work.specs.Runs.{peak_of_summary, slopes_of, summary_at}

module _ {R : Type 0} (𝒜 : Algebra R) where
  open 𝒜 use {Fig}

  -- Where a line of the plan lies: its depths are those of unclosed records of its first chunk, and of left values of its second.
  pub record Spans (row : List (Summary Fig R)) (e : Line) : Type 0 where
    pub before : e.i < e.j
    pub inside : e.j < length row
    pub some : e.lowest ≤ e.highest
    pub open-from : peak_of_summary 𝒜 (summary_at 𝒜 row e.i) ≤ e.lowest
    pub open-to : e.highest < peak_of_summary 𝒜 (summary_at 𝒜 row e.i) + fall (slopes_of 𝒜 (summary_at 𝒜 row e.i))
    pub close-from : peak_of_summary 𝒜 (summary_at 𝒜 row e.j) ≤ e.lowest
    pub close-to : e.highest < peak_of_summary 𝒜 (summary_at 𝒜 row e.j) + rise (slopes_of 𝒜 (summary_at 𝒜 row e.j))
