-- Question 15: which bytes are a run. The clauses of document 02, L6, each with its words, by where the numbers stand. Definitions only.
-- The bytes of a slice are each 0 to 255; no clause asks for that again.
use Rattle.std.specs.Prelude.{◌≡◌, ◌≢◌, ◌⊎◌, true, List, ℕ, ◌%◌, ◌≤◌, ℤ, pos, nat_abs, ◌≤ℤ◌}
use Rattle.number.specs.Bytes.{i64_at}
use Rattle.modes.specs.FourModes.{nothing, is_stamp}
use Rattle.modes.specs.declared.Run.{Run}
use Rattle.summary.specs.Judge.{mode_at, HasLayout}
use Rattle.outcome.specs.Outcomes.{run_length}

-- "length 30, kind 20, mode, three signed 64-bit numbers"; in mode 5 "length 38 and four numbers". Where there is no fourth, it is read as 0.
abbrev pub run_at : List ℕ → Run
run_at b = record { first = i64_at b 6; second = i64_at b 14; third = i64_at b 22; fourth = i64_at b 30 }

-- Not "beyond ±10^14".
abbrev pub Near : ℤ → Type 0
Near z = nat_abs z ≤ 100_000_000_000_000

-- The numbers k of a run in mode m: "Mode 1: (a,0,0) ..", "Mode 2: (z,A,B) ..", "Mode 4: (m,q,0) ..", and in mode 5 "z .., then a, l, h".
-- Beside each clause stand the words for what 15 turns away; the clause says that it is not so.
pub record RunNumbers (m : ℕ) (k : Run) : Type 0 where
  -- "a mode 4 number outside 0 to 2^32 - 1"
  pub times-stamp : m ≡ 4 → is_stamp k.first ≡ true
  pub plus-stamp : m ≡ 4 → is_stamp k.second ≡ true
  -- "an even multiplier"
  pub times-odd : m ≡ 4 → nat_abs k.first % 2 ≡ 1
  -- "unused numbers not 0"
  pub second-unused : m ≡ 1 → k.second ≡ pos 0
  pub third-unused : (m ≡ 1) ⊎ (m ≡ 4) → k.third ≡ pos 0
  -- "in modes 1, 2 and 5 a number beyond ±10^14 that is not the -2^63 allowed for A in mode 2": the layout leaves these modes and 4
  pub first-near : m ≢ 4 → Near k.first
  pub second-near : m ≢ 4 → Near k.second ⊎ ((m ≡ 2) × (k.second ≡ nothing))
  pub third-near : m ≢ 4 → Near k.third
  pub fourth-near : m ≡ 5 → Near k.fourth
  -- "or l above h"
  pub ordered : m ≡ 5 → k.third ≤ℤ k.fourth

-- QUESTION 15, "when the bytes are no run (layout, a mode out of use, .."
pub record IsRunBytes (b : List ℕ) : Type 0 where
  -- kind 20; 30 bytes, or 38 in mode 5, and the length field says so; "a mode out of use"
  pub layout : HasLayout b 20 (run_length (mode_at b))
  pub numbers : RunNumbers (mode_at b) (run_at b)
