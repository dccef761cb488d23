-- What the functions inside `sheet` ask and leave. Definitions only.
use Rattle.std.specs.Prelude.{◌≡◌, true, cond, ◌&&◌, List, ℕ, ◌+◌, ◌-◌, ◌*◌, ◌≤◌, leb, ltb, ℤ, length, get_or, set, take, drop}
use Rattle.std.proofs.lemmas.List.Edits.{sets}
use Rattle.modes.specs.FourModes.{Amounts}
use Rattle.figure.specs.Mode.{mode_of, mode_in_use}
use Rattle.hill.specs.Log.{Record, opened_of}
use Rattle.chunk.specs.Chunk.{IsWellFormed}
use Rattle.figure.specs.Stored.{none}
use Rattle.record.specs.declared.Fields.{Fields}
use Rattle.slopes.specs.Steps.{put_at, TopOf, figure_at, ClosedAt}
use Rattle.day_sheet.specs.Sheet.{sheet_line, sheet_lines}
use Rattle.day_sheet.specs.Claims.{InColumns}
use Rattle.sheet.specs.declared.page.Page.{Page}
use Rattle.sheet.specs.declared.page.Progress.{Progress}
use Rattle.sheet.specs.declared.page.Open.{Open}

-- So many lines of the sheet, from record `first` on.
abbrev pub lines_at : Page → List (Record Amounts) → List (List ℕ)
lines_at page xs = take page.lines (drop page.first (sheet_lines page.mode xs))

-- A line is put at its place, unless it is that of a record on another page.
abbrev pub line_put : Page → (number depth : ℕ) (figure : ℤ) (out : List ℕ) → List ℕ
line_put page n d z out = cond (leb page.first n && ltb n (page.first + page.lines)) (sets out (27 * (n - page.first)) (sheet_line n d z)) out

-- A record is opened: it stands at its depth, with its number, and holds nothing yet.
pub record Opened (mode : ℕ) (f : Fields) (s : Progress) (os : Open) (s' : Progress) (os' : Open) : Type 0 where
  pub amounts : os'.amounts ≡ put_at os.amounts f.depth f.value f.floor f.ceiling
  pub held : os'.held ≡ set os.held f.depth (none (mode_of mode))
  pub numbers : os'.numbers ≡ set os.numbers f.depth s.opened
  pub one-more : s' ≡ record s { opened = s.opened + 1 }

-- The deepest record can be closed, and its line printed.
pub record Closes (page : Page) (depth : ℕ) (s : Progress) (os : Open) (out : List ℕ) : Type 0 where
  pub top : TopOf (mode_of page.mode) os.amounts os.held depth s.middle
  pub columns : InColumns (get_or os.numbers depth 0) depth (figure_at (mode_of page.mode) os.amounts os.held depth)
  pub deep : depth ≤ 63
  pub room : 27 * page.lines ≤ length out

-- It is closed: its figure joins the level below, and its line is put.
pub record Closed (page : Page) (depth : ℕ) (s : Progress) (os : Open) (out : List ℕ) (s' : Progress) (os' : Open) (out' : List ℕ) : Type 0 where
  pub amounts : os'.amounts ≡ os.amounts
  pub numbers : os'.numbers ≡ os.numbers
  pub joins : ClosedAt (mode_of page.mode) os.amounts os.held depth s.middle os'.held s'.middle
  pub line : out' ≡ line_put page (get_or os.numbers depth 0) depth (figure_at (mode_of page.mode) os.amounts os.held depth) out
  pub opened : s'.opened ≡ s.opened

-- The lines of a log that was let through, in a mode in use: they are there, and fit into so many bytes.
pub record PageFits (log : List ℕ) (page : Page) (room : ℕ) : Type 0 where
  pub in_use : mode_in_use page.mode ≡ true
  pub records : List (Record Amounts)
  pub is : IsWellFormed log records
  pub there : page.first + page.lines ≤ opened_of records
  pub fits : 27 * page.lines ≤ room
