-- Question 5: which bytes are a summary. Document 01's clauses, each with its sentence, by where the numbers stand. Definitions only.
-- The bytes of a slice are each 0 to 255; no clause asks for that again.
use Rattle.std.specs.Prelude.{◌≡◌, ◌≢◌, ◌⊎◌, true, cond, ◌&&◌, List, ℕ, zero, suc, ◌+◌, ◌-◌, ◌*◌, ◌≤◌, ◌<◌, length, ℤ, pos, nat_abs}
use Rattle.number.specs.Bytes.{le_at, i32_at, i64_at}
use Rattle.number.specs.Integer.{same}
use Rattle.record.specs.Record.{in_range}
use Rattle.modes.specs.FourModes.{limit, nothing, is_stamp}
use Rattle.figure.specs.Mode.{mode_in_use, stores_nothing}

-- "Each begins with length, kind and mode, 16 bits each."
abbrev pub length_at : List ℕ → ℕ
length_at b = le_at 2 b 0

abbrev pub kind_at : List ℕ → ℕ
kind_at b = le_at 2 b 2

abbrev pub mode_at : List ℕ → ℕ
mode_at b = le_at 2 b 4

-- Spoilt: "then fault (7, 8 or 9, the lowest present), start level, end level (16 bits each), and opened records (32 bits ..)".
abbrev pub fault_at : List ℕ → ℕ
fault_at b = le_at 2 b 6

abbrev pub spoilt_start_at : List ℕ → ℕ
spoilt_start_at b = le_at 2 b 8

-- Hill: "then start, peak, end (16 bits each), opened records (32 bits)". End and opened stand where a spoilt summary has them.
abbrev pub start_at : List ℕ → ℕ
start_at b = le_at 2 b 6

abbrev pub peak_at : List ℕ → ℕ
peak_at b = le_at 2 b 8

abbrev pub end_at : List ℕ → ℕ
end_at b = le_at 2 b 10

abbrev pub opened_at : List ℕ → ℕ
opened_at b = le_at 4 b 12

-- start - peak: as many left values. end - peak: as many unclosed records.
abbrev pub rise_at : List ℕ → ℕ
rise_at b = start_at b - peak_at b

abbrev pub fall_at : List ℕ → ℕ
fall_at b = end_at b - peak_at b

-- "Signed 64-bit left values from level start down to peak+1": the one at level start - i, ..
abbrev pub left_at : List ℕ → ℕ → ℤ
left_at b i = i64_at b (16 + 8 * i)

-- .. "one middle value at the peak", ..
abbrev pub middle_at : List ℕ → ℤ
middle_at b = i64_at b (16 + 8 * rise_at b)

-- .. "and for each level from peak+1 up to end" 20 bytes: those of level peak + 1 + j begin here. The unclosed record has depth peak + j.
abbrev pub record_at : List ℕ → ℕ → ℕ
record_at b j = 24 + 8 * rise_at b + 20 * j

abbrev pub value_at : List ℕ → ℕ → ℤ
value_at b j = i32_at b (record_at b j)

abbrev pub floor_at : List ℕ → ℕ → ℤ
floor_at b j = i32_at b (record_at b j + 4)

abbrev pub ceiling_at : List ℕ → ℕ → ℤ
ceiling_at b j = i32_at b (record_at b j + 8)

abbrev pub held_at : List ℕ → ℕ → ℤ
held_at b j = i64_at b (record_at b j + 12)

-- f 0 + .. + f (n - 1)
unfoldable pub sum_to : ℕ → (ℕ → ℕ) → ℕ
sum_to zero f = 0
sum_to (suc n) f = sum_to n f + f n

-- "'Nothing held' counts as 0 .. In mode 2 it is no number", nor in mode 5: as it is stored.
unfoldable pub nothing_in : ℕ → ℤ
nothing_in m = cond (stores_nothing m) nothing (pos 0)

-- "The absolute 64-bit values (-2^63 in mode 2 counts 0)", and in mode 5.
unfoldable pub counted : ℕ → ℤ → ℕ
counted m z = cond (stores_nothing m && same z nothing) 0 (nat_abs z)

abbrev pub absolute_values : List ℕ → ℕ
absolute_values b =
    sum_to (rise_at b) (λ i. counted (mode_at b) (left_at b i)) + counted (mode_at b) (middle_at b) + sum_to (fall_at b) (λ j. counted (mode_at b) (held_at b j))

-- "In mode 4, 64-bit values are 0 to 2^32 - 1."
pub record AllStamps (b : List ℕ) : Type 0 where
  pub lefts : (i : ℕ) → i < rise_at b → is_stamp (left_at b i) ≡ true
  pub middle : is_stamp (middle_at b) ≡ true
  pub helds : (j : ℕ) → j < fall_at b → is_stamp (held_at b j) ≡ true

-- "Bytes are a summary if the layout and mode fit." A run has such a layout too, of kind 20.
pub record HasLayout (b : List ℕ) (kind bytes : ℕ) : Type 0 where
  pub kind_fits : kind_at b ≡ kind
  -- as many bytes as the kind asks for, and as the length field says
  pub length-fits : length b ≡ bytes
  pub length-said : length_at b ≡ length b
  -- "The layout and mode fit": "mode 3 gets .. 5 within a summary"; of a run 15 asks it, "a mode out of use".
  pub mode-fits : mode_in_use (mode_at b) ≡ true

pub record IsSpoilt (b : List ℕ) : Type 0 where
  -- "Kind 17, spoilt: 16 bytes."
  pub layout : HasLayout b 17 16
  -- "fault (7, 8 or 9 ..)"
  pub fault-low : 7 ≤ fault_at b
  pub fault-high : fault_at b ≤ 9
  -- "levels are 0 to 64"
  pub start-high : spoilt_start_at b ≤ 64
  pub end-high : end_at b ≤ 64
  -- "opened records (.. at most 100,001 ..)"
  pub opened-few : opened_at b ≤ 100_001
  -- "A spoilt one with fault 9 has opened 100,001."
  pub opened-more : fault_at b ≡ 9 → opened_at b ≡ 100_001

pub record IsHill (b : List ℕ) : Type 0 where
  -- "Kind 18, hill. .. Length 24 + 8 × (start - peak) + 20 × (end - peak)"
  pub layout : HasLayout b 18 (24 + 8 * rise_at b + 20 * fall_at b)
  -- "levels are 0 to 64 with peak not above start or end"
  pub start-high : start_at b ≤ 64
  pub end-high : end_at b ≤ 64
  pub peak-start : peak_at b ≤ start_at b
  pub peak-end : peak_at b ≤ end_at b
  -- "a peak of 0 has start or end 0"
  pub ground : peak_at b ≡ 0 → (start_at b ≡ 0) ⊎ (end_at b ≡ 0)
  -- "and records meet the ranges above"
  pub records : (j : ℕ) → j < fall_at b → in_range (peak_at b + j) (value_at b j) (floor_at b j) (ceiling_at b j) ≡ true
  -- "In a hill opened is at most 100,000, and not 0 if start = peak = end."
  pub opened-few : opened_at b ≤ 100_000
  pub opened_some : start_at b ≡ peak_at b → peak_at b ≡ end_at b → opened_at b ≢ 0
  -- "At peak 0 the middle holds nothing unless start = end = 0."
  pub middle-nothing : peak_at b ≡ 0 → ¬ ((start_at b ≡ 0) × (end_at b ≡ 0)) → middle_at b ≡ nothing_in (mode_at b)
  -- In modes 1, 2 and 5, "10^9 × unclosed records + the absolute 64-bit values .. is at most 10^9 × opened."
  pub values-light : mode_at b ≢ 4 → limit * fall_at b + absolute_values b ≤ limit * opened_at b
  -- "In mode 4, 64-bit values are 0 to 2^32 - 1, and opened is at least the unclosed records."
  pub values-stamps : mode_at b ≡ 4 → AllStamps b
  pub opened-unclosed : mode_at b ≡ 4 → fall_at b ≤ opened_at b

-- QUESTION 5. "A summary is one of three cases": "Kind 16, blank: 6 bytes", spoilt, or a hill.
pub data IsSummary (b : List ℕ) : Type 0 where
  is_blank : HasLayout b 16 6 → IsSummary b
  is_spoilt : IsSpoilt b → IsSummary b
  is_hill : IsHill b → IsSummary b
