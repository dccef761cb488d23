-- Which summaries are accepted, in the words of "Summaries". Generic over a size of figures. Definitions only.
use Rattle.std.specs.Prelude.{◌≡◌, List, [], ◌∷◌, ℕ, ◌+◌, ◌*◌, ◌≤◌, ◌<◌, min}
use Rattle.algebra.specs.Algebra.{Algebra}
use Rattle.algebra.specs.Sizes.{Sizes}
use Rattle.hill.specs.Log.{Record, opening, closing}
use Rattle.hill.specs.Summary.{Hill, hill, Part, spoilt, whole, Summary, blank, part, rise, fall, middle}

-- "Fault (7, 8 or 9), levels are 0 to 64, a spoilt one with fault 9 has opened 100,001."
pub record ValidSpoilt (f s e o : ℕ) : Type 0 where
  pub low-fault : 7 ≤ f
  pub high-fault : f ≤ 9
  pub start-high : s ≤ 64
  pub end-high : e ≤ 64
  pub few : o ≤ 100001
  pub many : f ≡ 9 → o ≡ 100001

-- `Sizes` says how large a figure is and what a record can add, `unit`. In modes 1, 2 and 5: the absolute value (nothing held, where it is no number: 0), and
-- 10^9 for a record whose numbers are in range (`Fine`). In mode 4: 0, and 1.
module _ {R : Type 0} (𝒜 : Algebra R) {Fine : R → Type 0} (𝒮 : Sizes 𝒜 Fine) where
  open 𝒜 use {Fig, ι}
  open 𝒮 use {unit, size}

  -- All values of a hill, and `unit` for each unclosed record.
  abbrev pub weight_up : List Fig → ℕ
  weight_up [] = 0
  weight_up (l ∷ u) = size l + weight_up u

  abbrev pub weight_down : List (R × Fig) → ℕ
  weight_down [] = 0
  weight_down (e ∷ d) = unit + size e.1 + weight_down d

  abbrev pub weight : Hill Fig R → ℕ
  weight (hill u m d) = weight_up u + size m + weight_down d

  abbrev pub AllFine : List (R × Fig) → Type 0
  AllFine [] = Unit {0}
  AllFine (e ∷ d) = Fine e.0 × AllFine d

  abbrev pub FineHill : Hill Fig R → Type 0
  FineHill (hill u m d) = AllFine d

  -- "Levels are 0 to 64 .., a peak of 0 has start or end 0, and records meet the ranges. In a hill opened is at most 100,000, and not 0 if
  -- start = peak = end. At peak 0 the middle holds nothing unless start = end = 0." The values weigh no more than the opened records can make them.
  pub record ValidHill (p o : ℕ) (h : Hill Fig R) : Type 0 where
    pub start-high : p + rise h ≤ 64
    pub end-high : p + fall h ≤ 64
    pub ground : p ≡ 0 → min (rise h) (fall h) ≡ 0
    pub few : o ≤ 100000
    pub some : 0 < rise h + fall h + o
    pub nothing : p ≡ 0 → 0 < rise h + fall h → middle h ≡ ι
    pub fine : FineHill h
    pub light : weight h ≤ unit * o

  abbrev pub ValidPart : Part Fig R → Type 0
  ValidPart (spoilt f s e o) = ValidSpoilt f s e o
  ValidPart (whole p o h) = ValidHill p o h

  abbrev pub ValidSummary : Summary Fig R → Type 0
  ValidSummary blank = Unit {0}
  ValidSummary (part a) = ValidPart a

  -- Records as they are read: "depth is 0 to 63", numbers in range.
  abbrev pub Readable : Record R → Type 0
  Readable (opening d r) = (d ≤ 63) × Fine r
  Readable (closing d) = d ≤ 63

  abbrev pub AllReadable : List (Record R) → Type 0
  AllReadable [] = Unit {0}
  AllReadable (x ∷ xs) = Readable x × AllReadable xs
