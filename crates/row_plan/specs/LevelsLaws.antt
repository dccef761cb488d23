-- The levels that the lines of a plan fold, line by line. Assumes nothing.
use Rattle.std.specs.Prelude.{◌≡◌, List, [], ◌∷◌, ◌+◌, ◌-◌, ℕ, sum_by}
use Rattle.std.proofs.Common.{refl, ap, ◌∙◌}
use Rattle.std.proofs.lemmas.List.Sums.{sum_by-cons}
use Rattle.join_plan.specs.Plan.{folded}
use Rattle.row_plan.specs.declared.Line.{Line as HeldLine}
use Rattle.row_plan.specs.Arrays.{lines_in}

abbrev pub levels_held : HeldLine → ℕ
levels_held l = l.high - l.low + 1

pub sum-folded : (ls : List HeldLine) → sum_by levels_held ls ≡ folded (lines_in ls)
unfolding folded
sum-folded [] = refl
sum-folded (l ∷ ls) = sum_by-cons levels_held l ls ∙ ap (λ n. levels_held l + n) (sum-folded ls)
