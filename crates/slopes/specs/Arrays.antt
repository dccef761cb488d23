-- A hill under construction in five arrays and three numbers. Definitions only.
use Rattle.std.specs.Prelude.{◌≡◌, List, [], ◌∷◌, ℕ, zero, suc, ◌^◌, ◌≤◌, ◌<◌, ℤ, pos, length, get_or}
use Rattle.hill.specs.Summary.{Hill, hill}
use Rattle.hill.specs.Valid.{weight, FineHill}
use Rattle.modes.specs.FourModes.{Amounts}
use Rattle.figure.specs.Mode.{Mode}
use Rattle.figure.specs.Stored.{IsStored, amounts}
use Rattle.slopes.specs.declared.Counts.{Counts}

-- The left values, and of each unclosed record its value, floor, ceiling and held figures so far. Index 0 is the start level among the left
-- values and the record at the peak among the unclosed ones: both in the order of a summary's bytes. Figures are stored numbers.
pub record Arrays : Type 0 where
  pub left : List ℤ
  pub values : List ℤ
  pub floors : List ℤ
  pub ceilings : List ℤ
  pub held : List ℤ

abbrev pub arrays : (ls vs fs cs hs : List ℤ) → Arrays
arrays ls vs fs cs hs = record { left = ls; values = vs; floors = fs; ceilings = cs; held = hs }

-- What stands at an index.
abbrev pub at : List ℤ → ℕ → ℤ
at l i = get_or l i (pos 0)

abbrev pub amounts_at : Arrays → ℕ → Amounts
amounts_at A i = amounts (at A.values i) (at A.floors i) (at A.ceilings i)

module _ (M : Mode) where
  abbrev pub Fig : Type 0
  Fig = M.algebra.Fig

  -- Both slopes from their inner end: the left value nearest the peak first, the deepest record first.
  abbrev pub ups : List ℤ → ℕ → List Fig
  ups ls zero = []
  ups ls (suc k) = M.read (at ls k) ∷ ups ls k

  abbrev pub downs : (vs fs cs hs : List ℤ) → ℕ → List (Amounts × Fig)
  downs vs fs cs hs zero = []
  downs vs fs cs hs (suc k) = (amounts (at vs k) (at fs k) (at cs k), M.read (at hs k)) ∷ downs vs fs cs hs k

  -- The hill that the arrays stand for: nl left values, n unclosed records, the middle value mid.
  abbrev pub slopes_of : Arrays → Counts → Hill Fig Amounts
  slopes_of A c = hill (ups A.left c.nl) (M.read c.mid) (downs A.values A.floors A.ceilings A.held c.n)

  -- "10^9 × unclosed records + the absolute 64-bit values"
  abbrev pub weight_of : Hill Fig Amounts → ℕ
  weight_of = weight M.algebra M.sizes

  -- The unclosed records are in range.
  abbrev pub Fine : Hill Fig Amounts → Type 0
  Fine = FineHill M.algebra M.sizes

-- Five arrays of 64 numbers.
pub record Arrays64 (A : Arrays) : Type 0 where
  pub left : length A.left ≡ 64
  pub values : length A.values ≡ 64
  pub floors : length A.floors ≡ 64
  pub ceilings : length A.ceilings ≡ 64
  pub held : length A.held ≡ 64

-- The arrays are whole, and the counts within them.
pub record Sound (A : Arrays) (c : Counts) : Type 0 where
  pub whole : Arrays64 A
  pub nl≤ : c.nl ≤ 64
  pub n≤ : c.n ≤ 64

-- Each number in use is one that the mode stores.
pub record Stored (M : Mode) (A : Arrays) (c : Counts) : Type 0 where
  pub left : (i : ℕ) → i < c.nl → IsStored M (at A.left i)
  pub mid : IsStored M c.mid
  pub held : (i : ℕ) → i < c.n → IsStored M (at A.held i)

-- What each function asks of the arrays: with this, no sum of figures passes 2^63. Document 01's bound, 10^9 × opened, is far below 2^62.
pub record Able (M : Mode) (A : Arrays) (c : Counts) : Type 0 where
  pub sound : Sound A c
  pub stored : Stored M A c
  pub fine : Fine M (slopes_of M A c)
  pub light : weight_of M (slopes_of M A c) < 2 ^ 62

-- What each function leaves: the arrays stand for the hill h, which weighs at most b.
pub record StandsFor (M : Mode) (A : Arrays) (c : Counts) (h : Hill (Fig M) Amounts) (b : ℕ) : Type 0 where
  pub sound : Sound A c
  pub stored : Stored M A c
  pub is : slopes_of M A c ≡ h
  pub fine : Fine M h
  pub light : weight_of M h ≤ b
