-- "That record's own subtree" (document 02, L9) as a log of its own. Definitions only.
use Rattle.std.specs.Prelude.{List, map, ℕ, suc, ◌-◌, take, drop}
use Rattle.hill.specs.Log.{Record, opening, closing}

module _ {R : Type 0} where
  -- A record d levels lower.
  abbrev pub lowered : (d : ℕ) → Record R → Record R
  lowered d (opening c r) = opening (c - d) r
  lowered d (closing c) = closing (c - d)

  -- Of the record that is opened at place p, at depth d, and closed at place q: the records from its open to its close, with their depths counted from its own.
  abbrev pub own_log : List (Record R) → (p q d : ℕ) → List (Record R)
  own_log log p q d = map (lowered d) (take (suc q - p) (drop p log))
