-- What is claimed of the list of small days. Definitions only.
use Rattle.std.specs.Prelude.{◌≡◌, ◌⊎◌, ◌↔◌, ℕ, ◌*◌, ◌≤◌, ◌<◌, pos, length, take, get_or}
use mathlib.Core.List.{List, [], ◌∷◌, Memᴰ}
use Rattle.gate.specs.Outcome.{refused, granted}
use Rattle.number.specs.Bytes.{AllBytes}
use Rattle.record.specs.Record.{close_fields}
use Rattle.record.specs.declared.Fields.{Fields}
use Rattle.record.specs.declared.Kind.TheVariants as kind
use Rattle.modes.specs.FourModes.{Amounts}
use Rattle.hill.specs.Log.{Record, opened_of}
use Rattle.hill.specs.Sorted.{Sorted, NoDuplicates}
use Rattle.hill.specs.Row.{joined}
use Rattle.chunk.specs.Chunk.{IsWellFormed, ReadAs}
use Rattle.day_list.specs.Days.{small_days, small_days_outcome}

-- "Short open records, each value 1": of the records of a log, as they are read.
abbrev pub AllShortOnes : List Fields → Type 0
AllShortOnes [] = Unit {0}
AllShortOnes (f ∷ fs) = (f.kind ≡ kind.Open → (f.length ≡ 10) × (f.value ≡ pos 1)) × AllShortOnes fs

-- "Well-formed logs with n opened records, short open records, each value 1": whether bytes are such a log.
pub record IsSmallDay (n : ℕ) (log : List ℕ) : Type 0 where
  pub bytes : AllBytes log
  pub records : List (Record Amounts)
  pub formed : IsWellFormed log records
  pub opened : opened_of records ≡ n
  pub ones : AllShortOnes formed.fields

-- "Compare two record by record, an open before a close: that is the order."
abbrev pub Lexicographic : (first second : List Fields) → Type 0
Lexicographic [] gs = ⊥
Lexicographic (f ∷ fs) [] = ⊥
Lexicographic (f ∷ fs) (g ∷ gs) = ((f.kind ≡ kind.Open) × (g.kind ≡ kind.Close)) ⊎ ((f ≡ g) × Lexicographic fs gs)

-- The same by a place: before it they have the same records, at it the first has an open and the second a close (`DayLaws.by_place`).
pub record DifferAt (place : ℕ) (first second : List Fields) : Type 0 where
  pub inside : (place < length first) × (place < length second)
  pub same : take place first ≡ take place second
  pub opens : (get_or first place (close_fields 0)).kind ≡ kind.Open
  pub closes : (get_or second place (close_fields 0)).kind ≡ kind.Close

-- The order of two logs, by the records that are read of them.
abbrev pub Precedes : (a b : List ℕ) → Type 0
Precedes = ReadAs Lexicographic

-- ALL SMALL DAYS, of a list of logs: "none is missing", and nothing else is there; "each log is there just once", which follows from the order; and "that
-- is the order".
pub record AreSmallDays (n : ℕ) (logs : List (List ℕ)) : Type 0 where
  pub each : (log : List ℕ) → Memᴰ log logs ↔ IsSmallDay n log
  pub once : NoDuplicates logs
  pub in_order : Sorted Precedes logs

-- What the call writes, of the bytes w: all small days, "one log after another". There is no other such list, each log has 16 bytes for each record that it
-- opens, and so does the whole.
pub record SmallDaysBytes (n : ℕ) (w : List ℕ) : Type 0 where
  pub logs : List (List ℕ)
  pub are : AreSmallDays n logs
  pub bytes : w ≡ joined logs
  pub only : (others : List (List ℕ)) → AreSmallDays n others → others ≡ logs
  pub log-length : (log : List ℕ) → Memᴰ log logs → length log ≡ 16 * n
  pub whole_length : length w ≡ 16 * n * length logs

-- "Turned away: 14, before all else, when n is outside 1 to 8; a short buffer gets 12 with nothing written." By no other number, and all else is written.
pub record TurnsAway (n cap : ℕ) : Type 0 where
  pub by-14 : (small_days_outcome n cap ≡ refused 14) ↔ ((n < 1) ⊎ (8 < n))
  pub by-12 : (small_days_outcome n cap ≡ refused 12) ↔ ((1 ≤ n) × (n ≤ 8) × (cap < length (joined (small_days n))))
  pub by-no-other : (k : ℕ) → small_days_outcome n cap ≡ refused k → (k ≡ 14) ⊎ (k ≡ 12)
  pub else-written : 1 ≤ n → n ≤ 8 → length (joined (small_days n)) ≤ cap → small_days_outcome n cap ≡ granted (joined (small_days n))
