-- Laws of a chunk's records, and of a call on a whole log, question by question. Assumes nothing.
use Rattle.std.specs.Prelude.{List, ℕ, ◌≤◌, length}
use Rattle.modes.specs.FourModes.{Amounts}
use Rattle.hill.specs.Log.{Record}
use Rattle.chunk.specs.Chunk.{IsWellFormed}

-- ---- the bytes of a log that is let through

pub record IsLog (log : List ℕ) (xs : List (Record Amounts)) : Type 0 where
  pub short : length log ≤ 65_536
  pub formed : IsWellFormed log xs
