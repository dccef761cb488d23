-- Rows of two and of five summaries, computed: plan, runs' levels, work and finish. Assumes nothing.
use Rattle.std.specs.Prelude.{◌≡◌, refl, ℕ, ◌+◌, ◌*◌}
use mathlib.Core.List.{List, [], ◌∷◌, flat_map}
use Rattle.algebra.specs.Algebra.{Algebra}
use Rattle.algebra.specs.Run.{step, through}
use Rattle.hill.specs.Verdict.{pass, joint, count, cut, ends}
use Rattle.hill.specs.Summary.{hill, Summary, whole, blank, part}
use Rattle.gate.specs.Outcome.{granted}
use Rattle.hill.specs.Finish.{finish_of}
use Rattle.hill.specs.Row.{merge_row}
use Rattle.join_plan.specs.Plan.{left_open, up_to, down_from, select, depths_joined, line_for, plan_of, folded, plan_of_row}
use Rattle.plan_work.specs.Runs.{levels_down, run_levels}
use Rattle.plan_work.specs.Work.{middles_at, outcomes_at, given, worked, work_of}
use Rattle.plan_work.specs.Gate.{row_fault}

-- Sums of natural numbers, and a record's figure as in mode 4, before the remainder.
abbrev stamp : Algebra ℕ
stamp = record { Fig = ℕ; ι = 0; ◌⊗◌ = ◌+◌; node = λ v y. v + 31 * y }

-- open 0 value 10, open 1 value 5, cut, close 1, open 1 value 3, close 1, close 0
two : List (Summary ℕ ℕ)
two = part (whole 0 2 (hill [] 0 ((5, 0) ∷ (10, 0) ∷ []))) ∷ part (whole 0 1 (hill (3 ∷ 0 ∷ []) 0 [])) ∷ []

two-plan : plan_of_row two ≡ record { i = 0; j = 1; lowest = 0; highest = 1 } ∷ []
unfolding two plan_of flat_map left_open up_to down_from select depths_joined line_for
two-plan = refl

two-levels : run_levels stamp two (record { i = 0; j = 1; lowest = 0; highest = 1 }) ≡
    record { carried = 5; before = 0; after = 0 } ∷ record { carried = 10; before = 0; after = 3 } ∷ []
unfolding two run_levels levels_down
two-levels = refl

two-work : work_of stamp two ≡ record { figure = 258; joins = 1; levels = 2 }
unfolding two plan_of flat_map left_open up_to down_from select depths_joined line_for folded run_levels levels_down worked given middles_at outcomes_at through step
two-work = refl

two-finish : finish_of stamp (merge_row stamp two) ≡ granted 258
unfolding two joint count cut ends
two-finish = refl

-- Five chunks: up 3; down 1 with a record at the peak, up 1; a blank; down 2 likewise, up 1; down 2. The x of line 3 has a middle value and an outcome.
five : List (Summary ℕ ℕ)
five =
    part (whole 0 4 (hill [] 0 ((7, 2) ∷ (5, 0) ∷ (10, 1) ∷ []))) ∷ part (whole 2 3 (hill (4 ∷ []) 6 ((8, 1) ∷ []))) ∷ blank
    ∷ part (whole 1 4 (hill (2 ∷ 1 ∷ []) 9 ((3, 3) ∷ []))) ∷ part (whole 0 2 (hill (12 ∷ 11 ∷ []) 0 [])) ∷ []

five-plan : plan_of_row five ≡
    record { i = 0; j = 1; lowest = 2; highest = 2 } ∷ record { i = 1; j = 3; lowest = 2; highest = 2 } ∷ record { i = 0; j = 3; lowest = 1; highest = 1 }
    ∷ record { i = 3; j = 4; lowest = 1; highest = 1 } ∷ record { i = 0; j = 4; lowest = 0; highest = 0 } ∷ []
unfolding five plan_of flat_map left_open up_to down_from select depths_joined line_for
five-plan = refl

five-gate : row_fault five ≡ pass
unfolding five joint count ends
five-gate = refl

five-work : work_of stamp five ≡ record { figure = 274825; joins = 5; levels = 5 }
unfolding five plan_of flat_map left_open up_to down_from select depths_joined line_for folded run_levels levels_down worked given middles_at outcomes_at through step
five-work = refl

five-finish : finish_of stamp (merge_row stamp five) ≡ granted 274825
unfolding five joint count cut ends
five-finish = refl
