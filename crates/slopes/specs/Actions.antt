-- What each function of `slopes` asks and leaves. Definitions only.
use Rattle.std.specs.Prelude.{◌≡◌, Bool, true, false, List, ℕ, zero, suc, ◌+◌, ◌^◌, ◌≤◌, ◌<◌, ℤ, length, set}
use Rattle.hill.specs.Log.{Record, opening, closing}
use Rattle.modes.specs.FourModes.{Amounts, InRange}
use Rattle.figure.specs.Mode.{Mode}
use Rattle.figure.specs.Stored.{IsStored, size_of, combined, Combines, amounts, passed}
use Rattle.slopes.specs.declared.Counts.{Counts}
use Rattle.slopes.specs.Arrays.{Arrays, arrays, at, slopes_of, weight_of, Able}

-- ---- `push`: a record is put on top

pub record Pushed (n : ℕ) (v f c h : ℤ) (vs fs cs hs vs' fs' cs' hs' : List ℤ) : Type 0 where
  pub values : vs' ≡ set vs n v
  pub floors : fs' ≡ set fs n f
  pub ceilings : cs' ≡ set cs n c
  pub held : hs' ≡ set hs n h

-- ---- `add`: a figure joins the current level, that of the deepest unclosed record or else the middle

-- what the level has so far
abbrev pub current : ℕ → ℤ → List ℤ → ℤ
current zero mid hs = mid
current (suc k) mid hs = at hs k

pub record Adds (M : Mode) (hs : List ℤ) (n : ℕ) (mid x : ℤ) : Type 0 where
  pub whole : length hs ≡ 64
  pub few : n ≤ 64
  pub fits : Combines M (current n mid hs) x

abbrev pub mid_after : Mode → ℕ → ℤ → ℤ → ℤ
mid_after M zero x mid = combined M mid x
mid_after M (suc k) x mid = mid

abbrev pub held_after : Mode → ℕ → ℤ → List ℤ → List ℤ
held_after M zero x hs = hs
held_after M (suc k) x hs = set hs k (combined M (at hs k) x)

pub record Added (M : Mode) (hs : List ℤ) (n : ℕ) (mid x : ℤ) (hs' : List ℤ) (mid' : ℤ) : Type 0 where
  pub middle : mid' ≡ mid_after M n x mid
  pub held : hs' ≡ held_after M n x hs

-- ---- `close_top`: the deepest record is closed, and its figure joins the level below

-- the deepest record is at index t; of left values nothing is used
pub record Top (M : Mode) (vs fs cs hs : List ℤ) (t : ℕ) (mid : ℤ) : Type 0 where
  pub left : List ℤ
  pub nl : ℕ
  pub able : Able M (arrays left vs fs cs hs) (record { nl = nl; n = suc t; mid = mid })

-- its figure
abbrev pub top_figure : Mode → (vs fs cs hs : List ℤ) (t : ℕ) → ℤ
top_figure M vs fs cs hs t = passed M (amounts (at vs t) (at fs t) (at cs t)) (at hs t)

abbrev pub ClosedTop : Mode → (vs fs cs hs : List ℤ) (t : ℕ) (mid : ℤ) (hs' : List ℤ) (mid' : ℤ) → Type 0
ClosedTop M vs fs cs hs t mid hs' mid' = Added M hs t mid (top_figure M vs fs cs hs t) hs' mid'

-- ---- `close`, `apply`

-- where no record is open, there is room for one more left value
abbrev pub CanClose : Counts → Type 0
CanClose c = c.nl < 64 + c.n

-- x can join the current level
pub record Joins (M : Mode) (A : Arrays) (c : Counts) (x : ℤ) : Type 0 where
  pub able : Able M A c
  pub stored : IsStored M x
  pub light : weight_of M (slopes_of M A c) + size_of M x < 2 ^ 62

-- there is room for a record: an open puts one more record on top, whose numbers are in range; a close takes one off
pub record Room (opens : Bool) (r : Amounts) (c : Counts) : Type 0 where
  pub up : opens ≡ true → (c.n < 64) × InRange r
  pub down : opens ≡ false → CanClose c

-- a record of depth d
abbrev pub entry : Bool → ℕ → Amounts → Record Amounts
entry true d r = opening d r
entry false d r = closing d

-- what it can add to the weight
abbrev pub cost : Mode → Bool → ℕ
cost M true = M.sizes.unit
cost M false = 0
