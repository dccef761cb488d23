-- Where a log goes down through a level there is a close, where it goes up an open; and what "closed in the chunk" says by places. Assumes nothing.
use Rattle.std.specs.Prelude.{◌≡◌, List, ℕ, suc, ◌<◌, length}
use Rattle.hill.specs.Log.{Record, start_level, end_level}
use Rattle.hill.specs.Closing.{at}

module _ {R : Type 0} where
  -- Neighbours meet in level.
  abbrev pub Meeting : List (Record R) → Type 0
  Meeting log = (k : ℕ) → suc k < length log → end_level (at log k) ≡ start_level (at log (suc k))
