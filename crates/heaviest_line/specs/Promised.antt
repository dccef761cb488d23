-- What the functions inside `heaviest_line` ask and leave. Definitions only.
use Rattle.std.specs.Prelude.{true, false, cond, ◌&&◌, List, ℕ, ◌+◌, ◌*◌, ◌≤◌, ◌<◌, ℤ, pos, nat_abs, get_or}
use Rattle.std.specs.Int.Signed.{lt_z}
use Rattle.record.specs.declared.Fields.{Fields}
use Rattle.modes.specs.FourModes.{Amounts, limit}
use Rattle.hill.specs.Log.{Record}
use Rattle.chunk.specs.Chunk.{IsWellFormed}
use Rattle.heaviest_line.specs.declared.ends.Search.{Search}
use Rattle.heaviest_line.specs.Search.{IsEnd}

-- What an open and a close leave of the search.
abbrev pub after_open : Search → Search
after_open s = record s { opened = s.opened + 1; opens = true }

abbrev pub after_close : Search → (depth : ℕ) (sum : ℤ) → Search
after_close s depth sum =
    cond (s.opens && lt_z s.sum sum) (record s { opens = false; upto = s.opened; depth = depth; sum = sum }) (record s { opens = false })

-- A value is added to what stands at a depth.
pub record AddsAt (depth : ℕ) (value : ℤ) (sums : List ℤ) : Type 0 where
  pub deep : depth < 64
  pub value-light : nat_abs value ≤ limit
  pub sum-light : nat_abs (get_or sums depth (pos 0)) ≤ limit * 64

pub record CanNote (s : Search) (f : Fields) (sums : List ℤ) : Type 0 where
  pub adds : AddsAt f.depth f.value sums
  pub few : s.opened ≤ 100_000

-- The line of a log that was let through fits into so many bytes.
pub record LineFits (log : List ℕ) (upto depth room : ℕ) : Type 0 where
  pub records : List (Record Amounts)
  pub is : IsWellFormed log records
  pub found : IsEnd records upto depth
  pub fits : 4 * depth + 4 ≤ room
