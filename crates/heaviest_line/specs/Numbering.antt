-- What the pass that writes the numbers of the line keeps. Definitions only.
use Rattle.std.specs.Prelude.{◌≡◌, List, [], ◌∷◌, map, ℕ, suc, ◌+◌, ◌*◌, ◌≤◌, length, take, drop}
use Rattle.modes.specs.FourModes.{Amounts}
use Rattle.hill.specs.Log.{Record}
use Rattle.log_records.specs.Numbers.{number_at}
use Rattle.log_records.specs.Line.{number_bytes}
use Rattle.log_records.specs.Formed.{Formed}
use Rattle.log_records.specs.StackLaws.{unwind, StackBefore}

module _ (xs : List (Record Amounts)) (depth : ℕ) where
  -- The buffer begins with the numbers of the open records, as far as they are not deeper than the line goes.
  abbrev pub Begins : (out : List ℕ) (stack : List ℕ) → Type 0
  Begins out [] = Unit {0}
  Begins out (p ∷ ps) = (length ps ≤ depth → take (4 * suc (length ps)) out ≡ number_bytes (map (number_at xs) (unwind ps (p ∷ [])))) × Begins out ps

  -- Of the log's records xs, k are read, and `number` of them are opens; what follows the line's bytes is as before.
  pub record Numbering (before : List ℕ) (k number : ℕ) (out : List ℕ) : Type 0 where
    pub formed : Formed xs
    pub stack : List ℕ
    pub stands : StackBefore xs k stack
    pub counted : number ≡ number_at xs k
    pub begins : Begins out stack
    pub size : length out ≡ length before
    pub after : drop (4 * depth + 4) out ≡ drop (4 * depth + 4) before
