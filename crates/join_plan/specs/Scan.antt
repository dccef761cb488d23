-- The plan by a scan that keeps a running minimum of the peaks passed: what a loop computes. ScanExact and PlanExact show that it is the plan. Assumes nothing.
use Rattle.std.specs.Prelude.{ℕ, zero, suc, ◌-◌, ◌<◌, min, max, List, [], ◌∷◌, ◌++◌, length}
use Rattle.std.proofs.Math.Decide.{dec_lt}
use Rattle.join_plan.specs.Plan.{Levels, blank, hill, Line, row_of}

-- the line of chunks i and j for the depths from `lowest` to below `top`, if there are any
unfoldable pub line_if : (i j lowest top : ℕ) → Dec (lowest < top) → List Line
line_if i j lowest top (yes h) = record { i = i; j = j; lowest = lowest; highest = top - 1 } ∷ []
line_if i j lowest top (no h) = []

-- the line of chunk i, which is c, and chunk j, whose peak is p: the depths of the records still open are below m
unfoldable pub line_of : Levels → (i j p m : ℕ) → List Line
line_of blank i j p m = []
line_of (hill start peak end) i j p m = line_if i j (max peak p) (min end m) (dec_lt (max peak p) (min end m))

-- the depths still open below m, once c is passed
unfoldable pub passed : Levels → ℕ → ℕ
passed blank m = m
passed (hill start peak end) m = min peak m

module _ (row : ℕ → Levels) where
  -- the lines to chunk j from the chunks below n, the nearest first
  unfoldable pub walk : (j p m n : ℕ) → List Line
  walk j p m zero = []
  walk j p m (suc n) = line_of (row n) n j p m ++ walk j p (passed (row n) m) n

  -- the lines to chunk j, which is c
  unfoldable pub lines_to : Levels → ℕ → List Line
  lines_to blank j = []
  lines_to (hill start peak end) j = walk j peak start j

  -- the plan of the first n chunks
  unfoldable pub plan : ℕ → List Line
  plan zero = []
  plan (suc n) = plan n ++ lines_to (row n) n

-- the plan of a whole row
unfoldable pub scan_of : List Levels → List Line
scan_of row = plan (row_of row) (length row)
