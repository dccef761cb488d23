-- The open records as a pass over the log has them that names records: their stack, and the number of each at its depth. Assumes nothing.
use Rattle.std.specs.Prelude.{◌≡◌, List, [], ◌∷◌, ℕ, length, get_or}
use Rattle.hill.specs.Log.{Record}
use Rattle.log_records.specs.Numbers.{number_at}
use Rattle.log_records.specs.StackLaws.{StackBefore}

module _ {R : Type 0} (xs : List (Record R)) where
  -- The number of each open record stands at its depth.
  abbrev pub Numbered : (ns stack : List ℕ) → Type 0
  Numbered ns [] = Unit {0}
  Numbered ns (p ∷ ps) = (get_or ns (length ps) 0 ≡ number_at xs p) × Numbered ns ps

  -- Of the log's records xs, k are read, n of them opens; the records of the stack are open, and ns has their numbers.
  pub record OpenNumbers (k n : ℕ) (ns stack : List ℕ) : Type 0 where
    pub stands : StackBefore xs k stack
    pub numbered : Numbered ns stack
    pub size : length ns ≡ 64
    pub counted : n ≡ number_at xs k
