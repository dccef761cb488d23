-- The join plan of a cut log by its records, as document 01 says it: definitions only. Assumes nothing.
use Rattle.std.specs.Prelude.{ℕ, zero, suc, ◌+◌, ◌≤◌, ◌<◌, ◌≡◌, ◌≢◌, ◌⊎◌, ◌↔◌, length}
use mathlib.Core.List.{List, [], ◌∷◌, Memᴰ}
use Rattle.hill.specs.Log.{Record}
use Rattle.hill.specs.Sorted.{Sorted}
use Rattle.hill.specs.Closing.{ClosedBy}
use Rattle.hill.specs.Row.{joined}
use Rattle.join_plan.specs.Plan.{Line, Before}

-- the place in the log, which is `joined cs`, where chunk i begins
unfoldable pub place : {R : Type 0} → List (List (Record R)) → ℕ → ℕ
place cs zero = 0
place [] (suc i) = 0
place (c ∷ cs) (suc i) = length c + place cs i

module _ {R : Type 0} (cs : List (List (Record R))) where
  -- the record at place p of the log stands in chunk i
  abbrev pub InChunk : (i p : ℕ) → Type 0
  InChunk i p = (place cs i ≤ p) × (p < place cs (suc i))

  -- "some record opened in i is closed in j": one of depth d, opened at place p and closed at place q
  abbrev pub Joined : (i j d : ℕ) → Type 0
  Joined i j d = (p : ℕ) × (q : ℕ) × InChunk i p × InChunk j q × ClosedBy (joined cs) p q d

  -- a line of the plan: chunks i < j that are joined, with the "lowest and highest depth of those records"
  pub record PlanLine (l : Line) : Type 0 where
    pub apart : l.i < l.j
    pub low : Joined l.i l.j l.lowest
    pub high : Joined l.i l.j l.highest
    pub within : (d : ℕ) → Joined l.i l.j d → (l.lowest ≤ d) × (d ≤ l.highest)

  -- the plan of the cut log: "just the lines described", by rising j, then falling i
  pub record IsPlan (ls : List Line) : Type 0 where
    pub lines : (l : Line) → Memᴰ l ls ↔ PlanLine l
    pub sorted : Sorted Before ls

  -- the record at place q closes one that was opened in another chunk
  abbrev pub Crossing : (q : ℕ) → Type 0
  Crossing q = (i : ℕ) × (j : ℕ) × (p : ℕ) × (d : ℕ) × (i ≢ j) × InChunk i p × InChunk j q × ClosedBy (joined cs) p q d

-- c of the numbers below n have P
abbrev pub Tally : (ℕ → Type 0) → (n c : ℕ) → Type 0
Tally P zero c = c ≡ 0
Tally P (suc n) c = (P n × ((b : ℕ) × (c ≡ suc b) × Tally P n b)) ⊎ ((P n → ⊥) × Tally P n c)
