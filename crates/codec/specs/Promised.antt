-- What each function of `codec` asks and leaves. Definitions only.
use Rattle.std.specs.Prelude.{◌≡◌, List, ℕ, ◌+◌, ◌-◌, ◌*◌, ◌^◌, ◌≤◌, ◌<◌, ℤ, length}
use Rattle.modes.specs.FourModes.{InRange}
use Rattle.figure.specs.Mode.{Mode, mode_of}
use Rattle.figure.specs.Stored.{IsStored, size_of}
use Rattle.hill.specs.Summary.{hill}
use Rattle.hill.specs.Valid.{weight_up, weight_down, AllFine}
use Rattle.hill.specs.Building.{push, join, closes}
use Rattle.summary.specs.Judge.{mode_at, rise_at, fall_at, left_at, held_at, IsHill}
use Rattle.summary.specs.Decode.{amounts_at, lefts_in, rights_in, hill_in}
use Rattle.slopes.specs.declared.Counts.{Counts}
use Rattle.slopes.specs.declared.OpenAmounts.{OpenAmounts}
use Rattle.slopes.specs.Arrays.{Arrays, at, Fig, downs, slopes_of, weight_of, Able, StandsFor}
use Rattle.slopes.specs.Laws.{counts}

-- What going through the first k left values of the bytes b asks of the arrays.
pub record Sinks (M : Mode) (b : List ℕ) (k : ℕ) (A : Arrays) (c : Counts) : Type 0 where
  pub able : Able M A c
  pub bytes : 16 + 8 * k ≤ length b
  pub stored : (i : ℕ) → i < k → IsStored M (left_at b i)
  -- the left slope has room for those that find no record to close
  pub room : c.nl + (k - c.n) ≤ 64
  pub light : weight_of M (slopes_of M A c) + weight_up M.algebra M.sizes (lefts_in M.read b k) < 2 ^ 62

-- After i of the left values: the arrays A, with the counts c, stand for the hill that A₀ and c₀ stood for, brought down by them.
abbrev pub Sunk : (M : Mode) (b : List ℕ) (i : ℕ) (A₀ : Arrays) (c₀ : Counts) (A : Arrays) (c : Counts) → Type 0
Sunk M b i A₀ c₀ A c =
    StandsFor M A c (closes M.algebra (slopes_of M A₀ c₀) (lefts_in M.read b i))
    (weight_of M (slopes_of M A₀ c₀) + weight_up M.algebra M.sizes (lefts_in M.read b i))

-- What going on from there to k asks, where all records were closed.
pub record LeavesOn (M : Mode) (b : List ℕ) (i k : ℕ) (A : Arrays) (c : Counts) : Type 0 where
  pub within : i ≤ k
  pub closed : i < k → c.n ≡ 0
  pub from : Arrays
  pub counted : Counts
  pub asked : Sinks M b k from counted
  pub sunk : Sunk M b i from counted A c

-- What closing k of n records by the first k left values asks.
pub record Falls (M : Mode) (b : List ℕ) (k : ℕ) (vs fs cs hs : List ℤ) (n : ℕ) : Type 0 where
  pub values : length vs ≡ 64
  pub floors : length fs ≡ 64
  pub ceilings : length cs ≡ 64
  pub held : length hs ≡ 64
  pub few : n ≤ 64
  pub there : k ≤ n
  pub bytes : 16 + 8 * k ≤ length b
  pub lefts : (i : ℕ) → i < k → IsStored M (left_at b i)
  pub stored : (i : ℕ) → i < n → IsStored M (at hs i)
  pub fine : AllFine M.algebra M.sizes (downs M vs fs cs hs n)
  pub light : weight_down M.algebra M.sizes (downs M vs fs cs hs n) + weight_up M.algebra M.sizes (lefts_in M.read b k) < 2 ^ 62

-- What it answers, whatever the left values and the middle are: x is to join the level below.
pub record Carried (M : Mode) (b : List ℕ) (k : ℕ) (vs fs cs hs : List ℤ) (n : ℕ) (x : ℤ) : Type 0 where
  pub is : (u : List (Fig M)) (m : Fig M) → join M.algebra (M.read x) (hill u m (downs M vs fs cs hs (n - k))) ≡ closes M.algebra (hill u m (downs M vs fs cs hs n)) (lefts_in M.read b k)
  pub stored : IsStored M x
  pub light : size_of M x + weight_down M.algebra M.sizes (downs M vs fs cs hs (n - k)) ≤ weight_down M.algebra M.sizes (downs M vs fs cs hs n) + weight_up M.algebra M.sizes (lefts_in M.read b k)

-- The two of amounts that stand together.
abbrev pub FallsOf : (M : Mode) (b : List ℕ) (k : ℕ) (a : OpenAmounts) (hs : List ℤ) (n : ℕ) → Type 0
FallsOf M b k a hs n = Falls M b k a.values a.floors a.ceilings hs n

abbrev pub CarriedOf : (M : Mode) (b : List ℕ) (k : ℕ) (a : OpenAmounts) (hs : List ℤ) (n : ℕ) (x : ℤ) → Type 0
CarriedOf M b k a hs n x = Carried M b k a.values a.floors a.ceilings hs n x

-- What putting the first k records of the bytes b on top asks of them and of the hill below.
pub record Puts (M : Mode) (b : List ℕ) (k : ℕ) (A : Arrays) (c : Counts) : Type 0 where
  pub able : Able M A c
  pub ranges : (j : ℕ) → j < k → InRange (amounts_at b j)
  pub stored : (j : ℕ) → j < k → IsStored M (held_at b j)
  pub light : weight_of M (slopes_of M A c) + weight_down M.algebra M.sizes (rights_in M.read b k) < 2 ^ 62

-- What it leaves, whatever the mode, the counts and the middle are: of the k records of the bytes, the first j stand on top of n others.
abbrev pub Stacked : (b : List ℕ) (k j n : ℕ) (A A' : Arrays) → Type 0
Stacked b k j n A A' =
    (m nl : ℕ) (mid : ℤ) → Puts (mode_of m) b k A (counts nl n mid)
    → StandsFor (mode_of m) A' (counts nl (n + j) mid)
    (push (rights_in (mode_of m).read b j) (slopes_of (mode_of m) A (counts nl n mid)))
    (weight_of (mode_of m) (slopes_of (mode_of m) A (counts nl n mid)) + weight_down (mode_of m).algebra (mode_of m).sizes (rights_in (mode_of m).read b j))

-- What loading asks: the bytes b are a hill in mode m, both slopes of the merged hill have room, and what they weigh fits.
pub record Loads (m : ℕ) (b : List ℕ) (A : Arrays) (c : Counts) : Type 0 where
  pub able : Able (mode_of m) A c
  pub hill : IsHill b
  pub mode-is : mode_at b ≡ m
  pub left-room : c.nl + (rise_at b - c.n) ≤ 64
  pub right-room : fall_at b + (c.n - rise_at b) ≤ 64
  pub light : weight_of (mode_of m) (slopes_of (mode_of m) A c) + weight_of (mode_of m) (hill_in (mode_of m).read b) < 2 ^ 62
