-- The runs of the four modes in the words of document 01, "Plan and runs", and in mode 5 of document 02, L3: what a run's numbers do to x, how they are
-- stored and read, and which numbers are the run of given levels: IsNetRun .. IsStampRun, each mode's `IsRun`. That the call writes these: outcome/RunsWritten.
use Rattle.std.specs.Prelude.{◌≡◌, ◌+◌, ◌*◌, List, [], ◌∷◌, ℤ, pos, ◌+ℤ◌, ◌≤ℤ◌}
use Rattle.algebra.specs.Run.{Level, through}
use Rattle.number.specs.Integer.{max_z, clamp}
use Rattle.modes.specs.FourModes.{net, heaviest, eaten, stamp, Stamp, stamp_of, store_held, read_held, store_stamp, read_stamp}
use Rattle.modes.specs.declared.Held.{Held}
use Rattle.modes.specs.declared.Held.TheVariants.{Nothing, Figure}
use Rattle.modes.specs.declared.Run.{Run}

-- "The run of a join is the figure of its lowest-depth record as a function of x": `through` the levels, the deepest first.

-- "Mode 1: (a,0,0), x + a."
abbrev pub net_run : ℤ → Run
net_run a = record { first = a; second = pos 0; third = pos 0; fourth = pos 0 }

abbrev pub read_net_run : Run → ℤ
read_net_run k = k.first

abbrev pub net_along : ℤ → ℤ → ℤ
net_along a x = x +ℤ a

abbrev pub IsNetRun : List (Level net) → ℤ → Type 0
IsNetRun ls a = (x : ℤ) → net_along a x ≡ through net ls x

-- "Mode 2: (z,A,B), z for nothing, else the greater of A and x + B." Where there is no A, x + B.
pub record HeaviestNumbers : Type 0 where
  pub empty : ℤ
  pub other : Held
  pub add : ℤ

unfoldable pub at_least : Held → ℤ → ℤ
at_least Nothing y = y
at_least (Figure a) y = max_z a y

unfoldable pub along : HeaviestNumbers → Held → ℤ
along k Nothing = k.empty
along k (Figure x) = at_least k.other (x +ℤ k.add)

abbrev pub heaviest_run : HeaviestNumbers → Run
heaviest_run k = record { first = k.empty; second = store_held k.other; third = k.add; fourth = pos 0 }

abbrev pub read_heaviest_run : Run → HeaviestNumbers
read_heaviest_run k = record { empty = k.first; other = read_held k.second; add = k.third }

abbrev pub IsHeaviestRun : List (Level heaviest) → HeaviestNumbers → Type 0
IsHeaviestRun ls k = (x : Held) → Figure (along k x) ≡ through heaviest ls x

-- "Mode 4: (m,q,0), m·x + q modulo 2^32, m and q from 0 to 2^32 - 1."
pub record Affine : Type 0 where
  pub times : Stamp
  pub plus : Stamp

abbrev pub affine : Affine → Stamp → Stamp
affine k x = stamp_of (k.times.num * x.num + k.plus.num)

abbrev pub stamp_run : Affine → Run
stamp_run k = record { first = store_stamp k.times; second = store_stamp k.plus; third = pos 0; fourth = pos 0 }

abbrev pub read_stamp_run : Run → Affine
read_stamp_run k = record { times = read_stamp k.first; plus = read_stamp k.second }

abbrev pub IsStampRun : List (Level stamp) → Affine → Type 0
IsStampRun ls k = (x : Stamp) → affine k x ≡ through stamp ls x

-- Mode 5: "four numbers: z for nothing inside, then a, l, h": x + a held between l and h, where a adds all values and combined figures on
-- the way and l, h are the ends of what it can give where something is inside.
pub record Between : Type 0 where
  pub add : ℤ
  pub low : ℤ
  pub high : ℤ

abbrev pub between : Between → ℤ → ℤ
between k x = clamp (x +ℤ k.add) k.low k.high

pub record EatenNumbers : Type 0 where
  pub empty : ℤ
  pub some : Between

unfoldable pub eaten_along : EatenNumbers → Held → ℤ
eaten_along k Nothing = k.empty
eaten_along k (Figure x) = between k.some x

abbrev pub eaten_run : EatenNumbers → Run
eaten_run k = record { first = k.empty; second = k.some.add; third = k.some.low; fourth = k.some.high }

abbrev pub read_eaten_run : Run → EatenNumbers
read_eaten_run k = record { empty = k.first; some = record { add = k.second; low = k.third; high = k.fourth } }

-- What a figure adds to a sum: nothing held adds nothing.
abbrev pub addend : Held → ℤ
addend Nothing = pos 0
addend (Figure z) = z

unfoldable pub total : List (Level eaten) → ℤ
total [] = pos 0
total (l ∷ ls) = (l.carried.value +ℤ (addend l.before +ℤ addend l.after)) +ℤ total ls

pub record IsEatenRun (ls : List (Level eaten)) (k : EatenNumbers) : Type 0 where
  pub gives : (x : Held) → Figure (eaten_along k x) ≡ through eaten ls x
  pub adds : k.some.add ≡ total ls
  pub not-below : (x y : ℤ) → through eaten ls (Figure x) ≡ Figure y → k.some.low ≤ℤ y
  pub gives-low : (x : ℤ) × (through eaten ls (Figure x) ≡ Figure k.some.low)
  pub not-above : (x y : ℤ) → through eaten ls (Figure x) ≡ Figure y → y ≤ℤ k.some.high
  pub gives-high : (x : ℤ) × (through eaten ls (Figure x) ≡ Figure k.some.high)
