-- What the pass keeps that finds the record in common, and what it asks. Definitions only.
use Rattle.std.specs.Prelude.{◌↔◌, List, [], ◌∷◌, ℕ, ◌≤◌, ◌<◌, length}
use Rattle.modes.specs.FourModes.{Amounts}
use Rattle.hill.specs.Log.{Record, opened_of}
use Rattle.chunk.specs.Chunk.{IsWellFormed}
use Rattle.log_records.specs.Numbers.{IsRecord}
use Rattle.log_records.specs.Formed.{Formed}
use Rattle.log_records.specs.OpenNumbers.{OpenNumbers}
use Rattle.common.specs.declared.walk.Progress.{Progress}

-- Of the open records the n nearest the root, and no others, are opened at place p or before.
abbrev pub Shares : (p n : ℕ) (stack : List ℕ) → Type 0
Shares p n [] = Unit {0}
Shares p n (q ∷ qs) = ((q ≤ p) ↔ (length qs < n)) × Shares p n qs

module _ (xs : List (Record Amounts)) where
  -- Of the log's records xs, k are read: what is counted, and the numbers of the open records. Once the earlier of the two is opened, so many of the open records
  -- are or hold it.
  pub record Walked (earlier k : ℕ) (s : Progress) (ns : List ℕ) : Type 0 where
    pub formed : Formed xs
    pub stack : List ℕ
    pub numbers : OpenNumbers xs k s.opened ns stack
    pub shares : (p d : ℕ) → IsRecord xs earlier p d → p < k → (s.shared ≤ length stack) × Shares p s.shared stack

-- Two records of a log that was let through, ..
pub record BothThere (log : List ℕ) (a b : ℕ) : Type 0 where
  pub records : List (Record Amounts)
  pub is : IsWellFormed log records
  pub below-a : a < opened_of records
  pub below-b : b < opened_of records

-- .. the earlier of them given first.
pub record InOrder (log : List ℕ) (earlier later : ℕ) : Type 0 where
  pub both : BothThere log earlier later
  pub order : earlier ≤ later
