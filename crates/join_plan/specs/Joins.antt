-- The joins of a row as propositions, for the proofs, and rows whose chunks meet in level. A row is a function of the chunk's number. Assumes nothing.
use Rattle.std.specs.Prelude.{ℕ, zero, suc, ◌≤◌, ◌<◌, ◌≡◌, ◌↔◌}
use Rattle.join_plan.specs.Plan.{Levels, blank, hill, Line}

-- the chunk opens a record of depth d that it leaves open
abbrev pub Opens : Levels → ℕ → Type 0
Opens blank d = ⊥
Opens (hill start peak end) d = (peak ≤ d) × (d < end)

-- the chunk closes a record of depth d that it did not open
abbrev pub Closes : Levels → ℕ → Type 0
Closes blank d = ⊥
Closes (hill start peak end) d = (peak ≤ d) × (d < start)

-- the chunk closes no record of depth d or less
abbrev pub Above : Levels → ℕ → Type 0
Above blank d = Unit {0}
Above (hill start peak end) d = d < peak

-- chunk i opens a record of depth d that is still open before chunk n
pub record LeftOpen (row : ℕ → Levels) (i n d : ℕ) : Type 0 where
  pub before : i < n
  pub opens : Opens (row i) d
  pub between : (k : ℕ) → i < k → k < n → Above (row k) d

-- chunk i opens a record of depth d that chunk j closes
abbrev pub Joins : (ℕ → Levels) → (i j d : ℕ) → Type 0
Joins row i j d = LeftOpen row i j d × Closes (row j) d

-- there are depths in D, and the line goes from the lowest to the highest: just those between are in D
pub record For (D : ℕ → Type 0) (l : Line) : Type 0 where
  pub some : l.lowest ≤ l.highest
  pub depths : (d : ℕ) → D d ↔ ((l.lowest ≤ d) × (d ≤ l.highest))

-- what a line of the plan says: its chunks are joined, in just its depths
abbrev pub IsLine : (ℕ → Levels) → Line → Type 0
IsLine row l = For (Joins row l.i l.j) l

-- the level after a chunk that was reached at level l
abbrev pub after : Levels → ℕ → ℕ
after blank l = l
after (hill start peak end) l = end

-- the level before chunk n
unfoldable pub level_at : (ℕ → Levels) → ℕ → ℕ
level_at row zero = 0
level_at row (suc n) = after (row n) (level_at row n)

-- the chunk goes on from level l, and its peak is its lowest level
abbrev pub Meets : Levels → ℕ → Type 0
Meets blank l = Unit {0}
Meets (hill start peak end) l = (start ≡ l) × (peak ≤ start) × (peak ≤ end)

-- the first n chunks begin and end at level 0 and meet
pub record WellFormed (row : ℕ → Levels) (n : ℕ) : Type 0 where
  pub meets : (k : ℕ) → k < n → Meets (row k) (level_at row k)
  pub ends : level_at row n ≡ 0
