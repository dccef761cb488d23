-- What the functions inside `small_days` ask. Definitions only.
use Rattle.std.specs.Prelude.{◌≡◌, List, [], ℕ, ◌+◌, ◌≤◌, ◌<◌, length, get_or}
use Rattle.record.specs.Record.{chunk_bytes}
use Rattle.day_list.specs.Days.{ways, small_days}

-- n is from 1 to 8, and so many logs open n records.
pub record Small (n count : ℕ) : Type 0 where
  pub some : 1 ≤ n
  pub few : n ≤ 8
  pub counted : count ≡ length (small_days n)

-- There is a log with `rank` others before it, and it fits into a buffer of so many bytes from `start` on.
pub record DayFits (n rank start room : ℕ) : Type 0 where
  pub some : 1 ≤ n
  pub few : n ≤ 8
  pub there : rank < length (small_days n)
  pub fits : start + length (get_or (small_days n) rank []) ≤ room

-- The bytes of a log from level 1 on, and that they fit into a buffer.
abbrev pub way_bytes : (left rank : ℕ) → List ℕ
way_bytes left rank = chunk_bytes (get_or (ways left 1) rank [])

pub record WayFits (left rank start room : ℕ) : Type 0 where
  pub few : left ≤ 7
  pub there : rank < length (ways left 1)
  pub fits : start + length (way_bytes left rank) ≤ room
