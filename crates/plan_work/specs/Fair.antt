-- What the laws of the gate and of the work along the plan need of the summaries of a row. No contract is stated with it. Assumes nothing.
use Rattle.std.specs.Prelude.{List, [], ◌∷◌, ◌≡◌, ℕ, ◌+◌, ◌≤◌, ◌<◌, min}
use Rattle.algebra.specs.Algebra.{Algebra}
use Rattle.algebra.specs.Sizes.{Sizes}
use Rattle.hill.specs.Summary.{Hill, Part, spoilt, whole, Summary, blank, part, rise, fall, middle}
use Rattle.hill.specs.Valid.{ValidSummary}

-- A hill opens at most 100,000 records, "a peak of 0 has start or end 0", and "at peak 0 the middle holds nothing unless start = end = 0"; a spoilt
-- one's fault is at most 9.
module _ {R : Type 0} (𝒜 : Algebra R) where
  open 𝒜 use {Fig, ι}

  pub record FairHill (p o : ℕ) (h : Hill Fig R) : Type 0 where
    pub few : o ≤ 100000
    pub ground : p ≡ 0 → min (rise h) (fall h) ≡ 0
    pub nothing : p ≡ 0 → 0 < rise h + fall h → middle h ≡ ι

  abbrev pub FairPart : Part Fig R → Type 0
  FairPart (spoilt f s e o) = f ≤ 9
  FairPart (whole p o h) = FairHill p o h

  abbrev pub FairRow : List (Summary Fig R) → Type 0
  FairRow [] = Unit {0}
  FairRow (blank ∷ row) = FairRow row
  FairRow (part a ∷ row) = FairPart a × FairRow row

  -- A row of accepted summaries: crate hill says what is asked of each.
  abbrev pub ValidRow : {Fine : R → Type 0} → Sizes 𝒜 Fine → List (Summary Fig R) → Type 0
  ValidRow 𝒮 [] = Unit {0}
  ValidRow 𝒮 (s ∷ row) = ValidSummary 𝒜 𝒮 s × ValidRow 𝒮 row
