-- What is claimed of the way back. Definitions only.
use Rattle.std.specs.Prelude.{◌≡◌, ◌⊎◌, ◌↔◌, true, false, List, ℕ, ◌*◌, ◌<◌, ℤ, length, take, drop, get_or}
use Rattle.gate.specs.Outcome.{refused, granted}
use Rattle.row.specs.Row.{row_pieces}
use Rattle.algebra.specs.Run.{Level, through}
use Rattle.modes.specs.FourModes.{is_stamp}
use Rattle.figure.specs.Mode.{mode_of}
use Rattle.summary.specs.Judge.{mode_at}
use Rattle.join_plan.specs.Plan.{Line, plan_of_row}
use Rattle.plan_work.specs.Runs.{run_levels}
use Rattle.outcome.specs.Outcomes.{Summaries, ask_row, ask_log, run_length}
use Rattle.run_back.specs.Judge.{run_at, Near, IsRunBytes}
use Rattle.run_back.specs.Backwards.{forwards, backwards_outcome}

-- "In mode 1 among whole numbers, in mode 4 among 0 to 2^32 - 1."
abbrev pub Inner : (m : ℕ) → ℤ → Type 0
Inner m x = m ≡ 4 → is_stamp x ≡ true

-- "The one inner figure x that leads to it": the figure f x of an inner figure x is y for this x, and for no other.
pub record TheOnly (m : ℕ) (f : ℤ → ℤ) (y x : ℤ) : Type 0 where
  pub inner : Inner m x
  pub leads : f x ≡ y
  pub only : (z : ℤ) → Inner m z → f z ≡ y → z ≡ x

-- What 17 lets through, in the modes that have a way back, ..
abbrev pub Taken : (m : ℕ) → (y : ℤ) → Type 0
Taken m y = ((m ≡ 1) × Near y) ⊎ ((m ≡ 4) × (is_stamp y ≡ true))

-- .. and what it does not: "when y is beyond ±10^14 in mode 1 or outside 0 to 2^32 - 1 in mode 4".
abbrev pub Beyond : (m : ℕ) → (y : ℤ) → Type 0
Beyond m y = ((m ≡ 1) × (¬ Near y)) ⊎ ((m ≡ 4) × (is_stamp y ≡ false))

-- "Turned away: 15 first, when the bytes are no run ..; 16 next, for modes 2 and 5; 17 last, when y is ..", and all else is answered.
pub record TurnsAway (b : List ℕ) (y : ℤ) : Type 0 where
  pub by-15 : (backwards_outcome b y ≡ refused 15) ↔ (¬ IsRunBytes b)
  pub by-16 : (backwards_outcome b y ≡ refused 16) ↔ (IsRunBytes b × ((mode_at b ≡ 2) ⊎ (mode_at b ≡ 5)))
  pub by-17 : (backwards_outcome b y ≡ refused 17) ↔ (IsRunBytes b × Beyond (mode_at b) y)
  pub by-no-other : (n : ℕ) → backwards_outcome b y ≡ refused n → (n ≡ 15) ⊎ ((n ≡ 16) ⊎ (n ≡ 17))
  pub else-answered : IsRunBytes b → Taken (mode_at b) y → (x : ℤ) × (backwards_outcome b y ≡ granted x)

-- ---- the runs that are written

-- Run c of the bytes that the call `runs` writes in mode m.
abbrev pub run_in : (m c : ℕ) → List ℕ → List ℕ
run_in m c w = take (run_length m) (drop (run_length m * c) w)

-- "The figure of its lowest-depth record as a function of x": through the levels ls.
abbrev pub outer_of : (m : ℕ) → List (Level (mode_of m).algebra) → ℤ → ℤ
outer_of m ls x = (mode_of m).store (through (mode_of m).algebra ls ((mode_of m).read x))

-- The bytes b are a run of mode m by 15, and make of each x what the levels ls make of it. In modes 1 and 4 each y within 17's bounds gets the one inner
-- figure from which the levels lead to y; in modes 2 and 5 each gets 16.
pub record AcceptedRun (m : ℕ) (ls : List (Level (mode_of m).algebra)) (b : List ℕ) : Type 0 where
  pub is : IsRunBytes b
  pub mode-is : mode_at b ≡ m
  pub as-levels : (x : ℤ) → forwards m (run_at b) x ≡ outer_of m ls x
  pub back : (y : ℤ) → Taken m y → (x : ℤ) × (backwards_outcome b y ≡ granted x) × TheOnly m (outer_of m ls) y x
  pub no_way : (m ≡ 2) ⊎ (m ≡ 5) → (y : ℤ) → backwards_outcome b y ≡ refused 16

-- The bytes w that `runs` writes of a row: one run for each line of the plan, in plan order, and each is accepted. Line c is there, so the default d
-- of the list is never taken.
pub record AcceptedRuns (row w : List ℕ) : Type 0 where
  pub summaries : Summaries
  pub asked : (ask_row (row_pieces row) ≡ granted summaries) × (ask_log summaries ≡ granted summaries)
  pub bytes : length w ≡ run_length summaries.mode * length (plan_of_row summaries.row)
  pub each : (c : ℕ) (d : Line) → c < length (plan_of_row summaries.row) →
      AcceptedRun summaries.mode (run_levels (mode_of summaries.mode).algebra summaries.row (get_or (plan_of_row summaries.row) c d)) (run_in summaries.mode c w)
