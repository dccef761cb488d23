-- Lists of places: no two list the same places, and the places that a pass over the log selects. Assumes nothing.
use Rattle.std.specs.Prelude.{Bool, cond, List, [], ◌∷◌, ℕ, suc}
use Rattle.hill.specs.Log.{Record}

module _ {R : Type 0} (keep : Record R → List (Record R) → Bool) (stop : Record R → Bool) where
  -- The places, counted from n, of the records that are kept, before the first one that stops.
  abbrev pub select : ℕ → List (Record R) → List ℕ
  select n [] = []
  select n (x ∷ xs) = cond (stop x) [] (cond (keep x xs) (n ∷ select (suc n) xs) (select (suc n) xs))
