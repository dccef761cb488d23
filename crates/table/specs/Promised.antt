-- What the functions inside `table` ask and leave. Definitions only.
use Rattle.std.specs.Prelude.{Bool, cond, List, ℕ, ◌*◌, ◌≤◌, Option, Some, None}
use Rattle.gate.specs.declared.Refusal.{Refusal}
use Rattle.gate.specs.declared.Refusal.TheVariants as no
use Rattle.modes.specs.FourModes.{Amounts}
use Rattle.hill.specs.Log.{Record, opened_of}
use Rattle.chunk.specs.Chunk.{IsWellFormed}

-- The first of questions 3, 13 and 10 that gets a "no".
abbrev pub first_no : (readable nested some : Bool) → Option Refusal
first_no readable nested some = cond readable (cond nested (cond some None (Some no.NoRecord)) (Some no.NotNested)) (Some no.Unreadable)

-- The table of a log that was let through fits into so many bytes.
pub record TableFits (log : List ℕ) (room : ℕ) : Type 0 where
  pub records : List (Record Amounts)
  pub is : IsWellFormed log records
  pub fits : 14 * opened_of records ≤ room
