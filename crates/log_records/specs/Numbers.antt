-- The opened records by their numbers, "counted from 0 in log order". Definitions only.
use Rattle.std.specs.Prelude.{◌≡◌, List, [], ◌∷◌, ℕ, zero, suc, take}
use Rattle.hill.specs.Log.{Record, opening, closing, opened_of}
use Rattle.hill.specs.Closing.{OpensAt}

-- The number of the record opened at place p: as many are opened before it.
abbrev pub number_at : {R : Type 0} → List (Record R) → (p : ℕ) → ℕ
number_at log p = opened_of (take p log)

-- The place where record n is opened (`NumberLaws.record-at`).
abbrev pub place_of : {R : Type 0} → List (Record R) → (n : ℕ) → ℕ
place_of [] n = 0
place_of (opening d r ∷ xs) zero = 0
place_of (opening d r ∷ xs) (suc n) = suc (place_of xs n)
place_of (closing d ∷ xs) n = suc (place_of xs n)

-- Record n is the one opened at place p, of depth d.
pub record IsRecord {R : Type 0} (log : List (Record R)) (n p d : ℕ) : Type 0 where
  pub opens : OpensAt log p d
  pub number : number_at log p ≡ n
