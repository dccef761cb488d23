-- The calls on a row of summaries of one mode: what their questions find. Assumes nothing.
use Rattle.std.specs.Prelude.{ℕ}
use mathlib.Core.List.{List, [], ◌∷◌}
use Rattle.summary.specs.Accepted.{IsSummaryIn}

-- ---- summaries of mode m

-- Each of these bytes is a summary, in mode m.
abbrev pub AllIn : ℕ → List (List ℕ) → Type 0
AllIn m [] = Unit {0}
AllIn m (p ∷ ps) = IsSummaryIn m p × AllIn m ps
