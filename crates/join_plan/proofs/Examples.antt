-- Worked cases, by computation. Assumes nothing.
use Rattle.std.specs.Prelude.{ℕ, ◌≡◌, refl}
use mathlib.Core.List.{List, [], ◌∷◌, map, flat_map}
use Rattle.hill.specs.Verdict.{joint, count}
use Rattle.hill.specs.Log.{Record, opening, closing}
use Rattle.hill.specs.Summary.{summary_of}
use Rattle.hill.proofs.TreeLaws.{free}
use Rattle.join_plan.specs.Plan.{Levels, blank, hill, Line, up_to, down_from, select, left_open, depths_joined, line_for, plan_of, folded, plan_of_row}

abbrev line : (i j lowest highest : ℕ) → Line
line i j lowest highest = record { i = i; j = j; lowest = lowest; highest = highest }

-- log D, cut after record 2 (the plan does not read what a record carries: here its place)
abbrev D : List (List (Record ℕ))
D = (opening 0 0 ∷ opening 1 1 ∷ []) ∷ (closing 1 ∷ opening 1 3 ∷ closing 1 ∷ closing 0 ∷ []) ∷ []

pub D-plan : plan_of_row (map (summary_of (free ℕ)) D) ≡ line 0 1 0 1 ∷ []
unfolding joint count plan_of flat_map up_to down_from select left_open depths_joined line_for
D-plan = refl

-- the bound is met: 2 · 4 - 3 lines of four chunks, and 8 levels folded
abbrev tight : List Levels
tight = hill 0 0 4 ∷ hill 4 2 4 ∷ hill 4 1 3 ∷ hill 3 0 0 ∷ []

pub tight-plan : plan_of tight ≡ line 0 1 2 3 ∷ line 1 2 2 3 ∷ line 0 2 1 1 ∷ line 2 3 1 2 ∷ line 0 3 0 0 ∷ []
unfolding plan_of flat_map up_to down_from select left_open depths_joined line_for
tight-plan = refl

pub tight-folded : folded (plan_of tight) ≡ 8
unfolding plan_of flat_map up_to down_from select left_open depths_joined line_for folded
tight-folded = refl

-- blank chunks are counted and join nothing; nor does a neighbour that only reaches the level where the chunk before it ended
abbrev gaps : List Levels
gaps = blank ∷ hill 0 0 2 ∷ blank ∷ hill 2 2 2 ∷ hill 2 0 0 ∷ blank ∷ []

pub gaps-plan : plan_of gaps ≡ line 1 4 0 1 ∷ []
unfolding plan_of flat_map up_to down_from select left_open depths_joined line_for
gaps-plan = refl

-- one chunk has it all: no line
pub one-plan : plan_of (blank ∷ hill 0 0 0 ∷ []) ≡ []
unfolding plan_of flat_map up_to down_from select left_open depths_joined line_for
one-plan = refl
