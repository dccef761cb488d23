-- Question 5 and what bytes stand for: bytes are a summary in mode m exactly where they are the bytes of an accepted one, which is then the one that
-- they say. Assumes nothing.
use Rattle.std.specs.Prelude.{◌≡◌, List, ℕ}
use Rattle.figure.specs.Mode.{mode_of}
use Rattle.hill.specs.Valid.{ValidSummary}
use Rattle.summary.specs.Layout.{SummaryIn}
use Rattle.summary.specs.Judge.{mode_at, IsSummary}

-- What merging needs of a summary in mode m.
abbrev pub Accepted : (m : ℕ) → SummaryIn m → Type 0
Accepted m s = ValidSummary (mode_of m).algebra (mode_of m).sizes s

-- The bytes b are a summary, in mode m.
pub record IsSummaryIn (m : ℕ) (b : List ℕ) : Type 0 where
  pub is : IsSummary b
  pub mode-is : mode_at b ≡ m
