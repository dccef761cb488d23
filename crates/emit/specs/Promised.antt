-- What each function of `emit::bytes` asks and leaves. Definitions only.
use Rattle.std.specs.Prelude.{◌≡◌, List, [], ◌++◌, ℕ, zero, suc, ◌+◌, ◌*◌, ◌≤◌, ℤ, length}
use Rattle.number.specs.Bytes.{bytes_of}
use Rattle.gate.specs.Outcome.{granted, buffer_after}
use Rattle.figure.specs.Mode.{Mode}
use Rattle.summary.specs.Layout.{i64_bytes, record_bytes}
use Rattle.slopes.specs.declared.Counts.{Counts}
use Rattle.slopes.specs.Arrays.{Arrays, at, Sound, Stored}

-- The bytes w stand at the front of the buffer, whose other bytes stay; the answer is their number.
pub record Wrote (w before after : List ℕ) (answer : ℕ) : Type 0 where
  pub answered : answer ≡ length w
  pub buffer : after ≡ buffer_after (granted w) before

-- "Each begins with length, kind and mode, 16 bits each."
abbrev pub front_bytes : (n kind m : ℕ) → List ℕ
front_bytes n kind m = bytes_of 2 n ++ (bytes_of 2 kind ++ bytes_of 2 m)

-- Three numbers of 16 bits and one of 32 follow, in a spoilt summary as in a hill.
abbrev pub level_bytes : (x y z o : ℕ) → List ℕ
level_bytes x y z o = bytes_of 2 x ++ (bytes_of 2 y ++ (bytes_of 2 z ++ bytes_of 4 o))

-- The first n numbers of an array, index 0 first.
abbrev pub numbers_bytes : List ℤ → ℕ → List ℕ
numbers_bytes xs zero = []
numbers_bytes xs (suc n) = numbers_bytes xs n ++ i64_bytes (at xs n)

-- One record with its held figures as they are stored, and the first n records of four arrays, index 0 first.
abbrev pub stored_record : (v f c h : ℤ) → List ℕ
stored_record v f c h = record_bytes (λ (x : ℤ). x) (record { value = v; floor = f; ceiling = c }, h)

abbrev pub records_bytes : (vs fs cs hs : List ℤ) → ℕ → List ℕ
records_bytes vs fs cs hs zero = []
records_bytes vs fs cs hs (suc n) = records_bytes vs fs cs hs n ++ stored_record (at vs n) (at fs n) (at cs n) (at hs n)

abbrev pub records_of : Arrays → ℕ → List ℕ
records_of A n = records_bytes A.values A.floors A.ceilings A.held n

-- "Length 24 + 8 × (start - peak) + 20 × (end - peak)"
abbrev pub hill_length : Counts → ℕ
hill_length c = 24 + 8 * c.nl + 20 * c.n

-- What writing a hill asks: whole arrays of stored numbers, a level, and room for the bytes.
pub record Writes (M : Mode) (A : Arrays) (c : Counts) (peak room : ℕ) : Type 0 where
  pub sound : Sound A c
  pub stored : Stored M A c
  pub level : peak ≤ 64
  pub fits : hill_length c ≤ room
