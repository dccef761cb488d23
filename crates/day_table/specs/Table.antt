-- The day table: "lines in log order". The table of a log, the log of a table, and question 13. Definitions only.
use Rattle.std.specs.Prelude.{Bool, true, cond, ◌&&◌, List, [], ◌∷◌, ◌++◌, ℕ, zero, suc, leb, ltb, eqb}
use Rattle.modes.specs.FourModes.{Amounts}
use Rattle.hill.specs.Log.{Record, opening, closing}

-- A line: the depth of an opened record, and its value, floor and ceiling.
pub record TableLine : Type 0 where
  pub depth : ℕ
  pub amounts : Amounts

abbrev pub table_line : ℕ → Amounts → TableLine
table_line d r = record { depth = d; amounts = r }

-- THE TABLE OF A LOG: a line for each opened record, in log order.
abbrev pub table_of : List (Record Amounts) → List TableLine
table_of [] = []
table_of (opening d r ∷ xs) = table_line d r ∷ table_of xs
table_of (closing d ∷ xs) = table_of xs

-- The closes from one level down to another, deepest first.
abbrev pub closes_to : (from to : ℕ) → List (Record Amounts)
closes_to zero to = []
closes_to (suc l) to = cond (leb to l) (closing l ∷ closes_to l to) []

-- THE LOG OF A TABLE from a level on, "closes where they belong": before a line's open down to its depth, and after the last line down to level 0.
-- It is the only well-formed log with these lines (`log-table`).
abbrev pub log_from : ℕ → List TableLine → List (Record Amounts)
log_from level [] = closes_to level 0
log_from level (x ∷ ls) = closes_to level x.depth ++ (opening x.depth x.amounts ∷ log_from (suc x.depth) ls)

abbrev pub log_of : List TableLine → List (Record Amounts)
log_of ls = log_from 0 ls

-- 13: "when the first depth is not 0, a later one is 0, or a depth is more than one above the line before it". None of these, for the lines after one
-- of depth `before` ..
abbrev pub nested_after : (before : ℕ) → List TableLine → Bool
nested_after before [] = true
nested_after before (x ∷ ls) = ltb 0 x.depth && leb x.depth (suc before) && nested_after x.depth ls

-- .. and for all lines.
abbrev pub nested : List TableLine → Bool
nested [] = true
nested (x ∷ ls) = eqb x.depth 0 && nested_after x.depth ls
