-- What the functions inside `judge` ask of bytes, and what they answer: parts of the test of question 5. Definitions only.
use Rattle.std.specs.Prelude.{Bool, ◌&&◌, List, ℕ, ◌+◌, ◌*◌, ◌^◌, ◌≤◌, ◌<◌, leb, length, ℤ}
use Rattle.number.specs.Bytes.{i32_at, i64_at}
use Rattle.record.specs.Record.{amounts_fit}
use Rattle.modes.specs.FourModes.{limit, is_stamp}
use Rattle.figure.specs.Mode.{mode_of}
use Rattle.figure.specs.Stored.{size_of}
use Rattle.summary.specs.Judge.{start_at, peak_at, end_at, opened_at, rise_at, fall_at, left_at, middle_at, held_at, sum_to}
use Rattle.summary.specs.Decide.{all_to, layout_fits, spoilt_fits, hill_fits}

abbrev pub hill_length : List ℕ → ℕ
hill_length b = 24 + 8 * rise_at b + 20 * fall_at b

abbrev pub is_spoilt_test : List ℕ → Bool
is_spoilt_test b = layout_fits b 17 16 && spoilt_fits b

abbrev pub is_hill_test : List ℕ → Bool
is_hill_test b = layout_fits b 18 (hill_length b) && hill_fits b

-- The two ways of `values_fit`.
abbrev pub stamps_fit : List ℕ → Bool
stamps_fit b = all_to (rise_at b) (λ i. is_stamp (left_at b i)) && is_stamp (middle_at b) && all_to (fall_at b) (λ j. is_stamp (held_at b j)) && leb (fall_at b) (opened_at b)

-- In mode m, by the sizes of the mode.
abbrev pub sizes_fit : ℕ → List ℕ → Bool
sizes_fit m b =
    leb (limit * fall_at b + (sum_to (rise_at b) (λ i. size_of (mode_of m) (left_at b i)) + size_of (mode_of m) (middle_at b) + sum_to (fall_at b) (λ j. size_of (mode_of m) (held_at b j)))) (limit * opened_at b)

-- A hill's levels are there, and fit.
pub record Levels (b : List ℕ) : Type 0 where
  pub long : 16 ≤ length b
  pub start-high : start_at b ≤ 64
  pub end-high : end_at b ≤ 64
  pub peak-start : peak_at b ≤ start_at b
  pub peak-end : peak_at b ≤ end_at b

-- All a hill's bytes are there.
pub record Laid (b : List ℕ) : Type 0 where
  pub levels : Levels b
  pub whole : hill_length b ≤ length b

-- And it does not open too many, so that the bound on its values is small.
pub record Few (b : List ℕ) : Type 0 where
  pub laid : Laid b
  pub few : opened_at b ≤ 100_000

-- The amounts of the unclosed record whose bytes begin at `at` are in range.
abbrev pub record_in : List ℕ → ℕ → Bool
record_in b at = amounts_fit (i32_at b at) (i32_at b (at + 4)) (i32_at b (at + 8))

-- Number i of the 64-bit values at `at` and then each `step` bytes on; n of them are there.
abbrev pub value_in : List ℕ → ℕ → ℕ → ℕ → ℤ
value_in b at step i = i64_at b (at + step * i)

pub record Strides (b : List ℕ) (at step n : ℕ) : Type 0 where
  pub there : (i : ℕ) → i < n → at + step * i + 8 ≤ length b

-- n numbers of at most cap can be added in 64 bits, and twice that many too.
pub record Room (n cap : ℕ) : Type 0 where
  pub count : n ≤ 65
  pub each : cap ≤ 2 ^ 56
