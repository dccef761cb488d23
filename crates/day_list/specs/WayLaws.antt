-- The list of small days by their records: just those that are wanted, in order. Assumes nothing.
use Rattle.std.specs.Prelude.{ℕ, zero, suc}
use mathlib.Core.List.{List, [], ◌∷◌, map}
use Rattle.record.specs.declared.Fields.{Fields}
use Rattle.day_list.specs.Days.{open_one, ways}

-- the ways that open a record, of which there are none where no record is left to open
abbrev pub opening_ways : (left level : ℕ) → List (List Fields)
opening_ways zero level = []
opening_ways (suc left) level = map (λ fs. open_one level ∷ fs) (ways left (suc level))
