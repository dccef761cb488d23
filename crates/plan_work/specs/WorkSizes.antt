-- How large the figures of the work along a plan get: what all the opened records of the row can make bounds each outcome, and 130 times that each
-- figure on the way. Assumes nothing.
use mathlib.Core.List.{List, [], ◌∷◌}
use Prim.Native.Nat.{ℕ, ◌+◌, ◌*◌, ◌≤◌}
use Rattle.algebra.specs.Algebra.{Algebra}
use Rattle.algebra.specs.Run.{AllSound}
use Rattle.algebra.specs.Sizes.{Sizes, costs}
use Rattle.hill.specs.Summary.{Summary}
use Rattle.join_plan.specs.Plan.{Line}
use Rattle.plan_work.specs.Runs.{run_levels}
use Rattle.plan_work.specs.Work.{Done, given}
use Rattle.plan_work.specs.WorkLaws.{work}
use Rattle.plan_work.specs.Gate.{parts_of, total_opened}
use Rattle.plan_work.specs.RunsExact.{Spans}

module _ {R : Type 0} (𝒜 : Algebra R) {Fine : R → Type 0} (𝒮 : Sizes 𝒜 Fine) where
  open 𝒜 use {Fig, ι, ◌⊗◌}

  infixl 70 ◌⊗◌
  open 𝒮 use {unit, size, size-ι, size-⊗}

  -- What all the opened records of a row can make.
  abbrev pub load : List (Summary Fig R) → ℕ
  load row = unit * total_opened (parts_of row)

  -- Each outcome has at most the size B.
  abbrev pub AllLight : ℕ → List (Done Fig) → Type 0
  AllLight B [] = Unit {0}
  AllLight B (d ∷ ds) = (size d.out ≤ B) × AllLight B ds

  -- What the work of a line needs, after the lines ds: where it lies, the outcomes that it reads, its x, and its x with all that its levels add.
  pub record LineLight (row : List (Summary Fig R)) (e : Line) (ds : List (Done Fig)) : Type 0 where
    pub spans : Spans 𝒜 row e
    pub outs : AllLight (load row) ds
    pub x-light : size (given 𝒜 row e ds) ≤ 129 * load row
    pub sound : AllSound Fine (run_levels 𝒜 row e)
    pub run-light : size (given 𝒜 row e ds) + costs 𝒮 (run_levels 𝒜 row e) ≤ 130 * load row
    pub out-light : size (work 𝒜 row e ds).out ≤ load row
