-- Document 02, L9: what is claimed of the figures of a sheet beside the other calls. Definitions only.
use Rattle.std.specs.Prelude.{◌≡◌, List, ℕ, ◌<◌, ℤ, length, take}
use Rattle.modes.specs.FourModes.{Amounts}
use Rattle.hill.specs.Log.{Record}
use Rattle.hill.specs.OwnLog.{own_log}
use Rattle.chunk.specs.Chunk.{IsWellFormed}
use Rattle.day_sheet.specs.Claims.{read_line, WritesPage}
use Rattle.claim.specs.Finishing.{LeadsTo}

-- The records `own` as a log: there are bytes that say them, and all such bytes lead to the figure z in the mode.
pub record AloneLeadsTo (mode : ℕ) (own : List (Record Amounts)) (z : ℤ) : Type 0 where
  pub some : (bytes : List ℕ) × IsWellFormed bytes own
  pub all : (bytes : List ℕ) → IsWellFormed bytes own → LeadsTo mode bytes z

-- "Each figure is what the recursion gives for that record's own subtree": were the subtree of line i a log of its own, every cut of it and every way to merge
-- the parts would lead to the figure printed there.
pub record EachAlone (log : List ℕ) (mode page cap : ℕ) (w : List ℕ) : Type 0 where
  pub writes : WritesPage log mode page cap w
  pub alone : (i : ℕ) (l : i < length writes.is-page.lines)
      → let t = writes.is-page.each i l in AloneLeadsTo mode (own_log writes.records t.place t.close t.depth) t.figure

-- The first line of the first page is the root's, and has the figure that the log leads to.
pub record RootFirst (log : List ℕ) (mode : ℕ) (w : List ℕ) : Type 0 where
  pub figure : ℤ
  pub leads-to : LeadsTo mode log figure
  pub first : read_line (take 27 w) ≡ record { number = 0; depth = 0; figure = figure }
