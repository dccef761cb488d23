-- A record's figure is what the paper says: its own record over the combined figures, in log order, of exactly those that it holds.
-- And `opened_of` is the number of opens. Assumes nothing.
use Rattle.std.specs.Prelude.{Bool, false, ℕ, suc, eqb}
use mathlib.Core.List.{List}
use Rattle.hill.specs.Log.{Record, opening, closing}
use Rattle.hill.specs.Places.{select}

module _ {R : Type 0} where
  -- An open at depth d; a close that ends what a record of depth d - 1 holds.
  abbrev pub opens_at : ℕ → Record R → Bool
  opens_at d (opening c r) = eqb c d
  opens_at d (closing c) = false

  abbrev pub ends_at : ℕ → Record R → Bool
  ends_at d (opening c r) = false
  ends_at d (closing c) = eqb (suc c) d

  abbrev pub held_from : ℕ → ℕ → List (Record R) → List ℕ
  held_from d n xs = select (λ x _. opens_at d x) (ends_at d) n xs
