-- The join plan of a row of chunks, from the levels of their summaries: definitions only. Assumes nothing.
use Rattle.std.specs.Prelude.{ℕ, zero, suc, ◌+◌, ◌-◌, ◌<◌, ◌≡◌, ◌⊎◌, Bool, true, false, ◌&&◌, cond, length, get_or, take, drop, leb, ltb}
use mathlib.Core.List.{List, [], ◌∷◌, ◌++◌, map, flat_map}
use Rattle.hill.specs.Summary.{Summary, blank as blankSummary, part, spoilt, whole, rise, fall}

-- what the plan reads of a summary: a hill's start, peak ("the lowest level reached") and end; a blank has none
pub data Levels : Type 0 where
  blank : Levels
  hill : (start peak end : ℕ) → Levels

-- (no spoilt summary gets past the gate)
abbrev pub levels_of_summary : {Fig R : Type 0} → Summary Fig R → Levels
levels_of_summary blankSummary = blank
levels_of_summary (part (spoilt fault start end opened)) = blank
levels_of_summary (part (whole peak opened h)) = hill (peak + rise h) peak (peak + fall h)

-- a line: chunks i < j, counted from 0, and the lowest and highest depth of the records opened in i and closed in j
pub record Line : Type 0 where
  pub i : ℕ
  pub j : ℕ
  pub lowest : ℕ
  pub highest : ℕ

-- the numbers below n, rising and falling, and the members of a list that pass a test
unfoldable pub up_to : ℕ → List ℕ
up_to zero = []
up_to (suc n) = up_to n ++ (n ∷ [])

unfoldable pub down_from : ℕ → List ℕ
down_from zero = []
down_from (suc n) = n ∷ down_from n

unfoldable pub select : (ℕ → Bool) → List ℕ → List ℕ
select test [] = []
select test (d ∷ ds) = cond (test d) (d ∷ select test ds) (select test ds)

-- the depths of the records that a chunk opens and leaves open, rising: those of its right slope
unfoldable pub left_open : Levels → List ℕ
left_open blank = []
left_open (hill start peak end) = select (λ d. leb peak d) (up_to end)

-- the chunk closes a record of depth d that it did not open: one of its left slope.
-- (Where hills meet in level, d < start adds nothing for a record that is still open: PlanExact, start-implied.)
abbrev pub closes_earlier : Levels → ℕ → Bool
closes_earlier blank d = false
closes_earlier (hill start peak end) d = leb peak d && ltb d start

-- none of these chunks closes a record of depth d: d is below every peak of theirs, and a blank has none
abbrev pub below_peaks : List Levels → ℕ → Bool
below_peaks [] d = true
below_peaks (blank ∷ cs) d = below_peaks cs d
below_peaks (hill start peak end ∷ cs) d = ltb d peak && below_peaks cs d

-- chunk i of a row (past its end: a blank), and the chunks between i and j
abbrev pub row_of : List Levels → ℕ → Levels
row_of row i = get_or row i blank

abbrev pub chunks_between : List Levels → (i j : ℕ) → List Levels
chunks_between row i j = drop (suc i) (take j row)

-- the depths joined: "some record opened in i is closed in j", since none between closes it
unfoldable pub depths_joined : List Levels → (i j : ℕ) → List ℕ
depths_joined row i j = select (λ d. closes_earlier (row_of row j) d && below_peaks (chunks_between row i j) d) (left_open (row_of row i))

-- "one line a join": the first of the depths joined is the lowest, the last the highest; where there is none, no join and no line
abbrev pub last_of : ℕ → List ℕ → ℕ
last_of d [] = d
last_of d (e ∷ ds) = last_of e ds

unfoldable pub line_for : (i j : ℕ) → List ℕ → List Line
line_for i j [] = []
line_for i j (d ∷ ds) = record { i = i; j = j; lowest = d; highest = last_of d ds } ∷ []

-- THE PLAN: "lines go by rising j, then falling i"
unfoldable pub plan_of : List Levels → List Line
plan_of row = flat_map (λ j. flat_map (λ i. line_for i j (depths_joined row i j)) (down_from j)) (up_to (length row))

-- the plan of a row of summaries
abbrev pub plan_of_row : {Fig R : Type 0} → List (Summary Fig R) → List Line
plan_of_row row = plan_of (map levels_of_summary row)

-- "the joins used (its lines)", and "the number of levels folded, the sum of highest - lowest + 1 over the plan"
abbrev pub joins : List Line → ℕ
joins lines = length lines

unfoldable pub folded : List Line → ℕ
folded [] = 0
folded (l ∷ ls) = l.highest - l.lowest + 1 + folded ls

-- that order as a property: in a plan each line stands before all that follow it (`Sorted Before`), so no two chunks have two lines
abbrev pub Before : Line → Line → Type 0
Before x y = (x.j < y.j) ⊎ ((x.j ≡ y.j) × (y.i < x.i))
