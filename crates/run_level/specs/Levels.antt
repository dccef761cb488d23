-- One level of a run in the bytes of a row. Definitions only.
use Rattle.std.specs.Prelude.{◌≡◌, List, [], ℕ, suc, ◌+◌, ◌-◌, ◌≤◌, ◌<◌, length, get_or, take, Option, Some, None}
use Rattle.number.specs.Bytes.{i32_at, i64_at}
use Rattle.row.specs.Row.{row_pieces, end_to_end}
use Rattle.algebra.specs.Run.{Level}
use Rattle.figure.specs.Mode.{mode_of}
use Rattle.figure.specs.Stored.{amounts}
use Rattle.summary.specs.Judge.{start_at, peak_at, end_at, value_at, floor_at, ceiling_at, held_at, left_at, IsHill}
use Rattle.judge.specs.declared.Numbers.{Numbers}
use Rattle.row_gate.specs.Notes.{no_peak, peak_unless, note_at}
use Rattle.run_level.specs.declared.Place.{Place}
use Rattle.run_level.specs.declared.RunLevel.{RunLevel}

-- Piece k of a row, and where it begins.
abbrev pub piece_of : List ℕ → ℕ → List ℕ
piece_of row k = get_or (row_pieces row) k []

abbrev pub begin_of : List ℕ → ℕ → ℕ
begin_of row k = length (end_to_end (take k (row_pieces row)))

-- The first `count` numbers are where the pieces begin.
pub record Begun (row : List ℕ) (count : ℕ) (ats : List ℕ) : Type 0 where
  pub long : length ats ≡ 64
  pub each : (k : ℕ) → k < count → get_or ats k 0 ≡ begin_of row k

-- The levels noted of a piece. A blank starts at 0, and what is no hill has no peak.
abbrev pub start_of : Option Numbers → ℕ
start_of None = 0
start_of (Some n) = n.start

abbrev pub peak_of : Option Numbers → ℕ
peak_of None = no_peak
peak_of (Some n) = peak_unless n.fault n.peak

abbrev pub place_in : List ℕ → List (Option Numbers) → ℕ → Place
place_in ats notes k = record { piece = k; at = get_or ats k 0; start = start_of (note_at notes k); peak = peak_of (note_at notes k) }

-- A place is that of its piece.
pub record Placed (row : List ℕ) (p : Place) : Type 0 where
  pub within : p.piece < length (row_pieces row)
  pub begins : p.at ≡ begin_of row p.piece
  pub start_is : p.start ≡ start_at (piece_of row p.piece)
  pub peak-is : p.peak ≡ peak_at (piece_of row p.piece)

-- The bytes b are a hill that leaves a record of depth d open; that closes one.
pub record LeavesOpen (b : List ℕ) (d : ℕ) : Type 0 where
  pub is : IsHill b
  pub low : peak_at b ≤ d
  pub high : d < end_at b

pub record Closes (b : List ℕ) (d : ℕ) : Type 0 where
  pub is : IsHill b
  pub low : peak_at b ≤ d
  pub high : d < start_at b

pub record Reads (row : List ℕ) (opener closer : Place) (d : ℕ) : Type 0 where
  pub opener-placed : Placed row opener
  pub closer-placed : Placed row closer
  pub opens : LeavesOpen (piece_of row opener.piece) d
  pub closes : Closes (piece_of row closer.piece) d

-- The record at a and the left value at b.
abbrev pub level_in : List ℕ → (a b : ℕ) → RunLevel
level_in s a b = record { value = i32_at s a; floor = i32_at s (a + 4); ceiling = i32_at s (a + 8); held = i64_at s (a + 12); left = i64_at s b }

-- The level of depth d: the unclosed record of that depth of the hill p, and the value of the hill q at level d + 1.
unfoldable pub level_at : (p q : List ℕ) (d : ℕ) → RunLevel
level_at p q d = record {
  value = value_at p (d - peak_at p);
  floor = floor_at p (d - peak_at p);
  ceiling = ceiling_at p (d - peak_at p);
  held = held_at p (d - peak_at p);
  left = left_at q (start_at q - suc d);
}

-- What it stands for in mode m.
abbrev pub level_for : (m : ℕ) → RunLevel → Level (mode_of m).algebra
level_for m l = record { carried = amounts l.value l.floor l.ceiling; before = (mode_of m).read l.held; after = (mode_of m).read l.left }
