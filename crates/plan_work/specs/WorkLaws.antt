-- The clauses of the definitions of Runs and Work, as equations to rewrite by: what loops over levels, hills and lines go by. Assumes nothing.
use mathlib.Core.List.{List}
use Rattle.algebra.specs.Algebra.{Algebra}
use Rattle.algebra.specs.Run.{through}
use Rattle.hill.specs.Summary.{Summary}
use Rattle.join_plan.specs.Plan.{Line}
use Rattle.plan_work.specs.Runs.{run_levels}
use Rattle.plan_work.specs.Work.{Done, given}

module _ {R : Type 0} (𝒜 : Algebra R) where
  open 𝒜 use {Fig, ι, ◌⊗◌}

  infixl 70 ◌⊗◌
  module _ (row : List (Summary Fig R)) where
    -- a line, worked after ds
    abbrev pub work : Line → List (Done Fig) → Done Fig
    work e ds = record { line = e; out = through 𝒜 (run_levels 𝒜 row e) (given 𝒜 row e ds) }
