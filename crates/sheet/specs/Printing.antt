-- What the pass over a log keeps that prints the lines of a page. Definitions only.
use Rattle.std.specs.Prelude.{◌≡◌, ◌⊎◌, ℕ, suc, ◌+◌, ◌-◌, ◌*◌, ◌≤◌, ◌<◌, ℤ, length, take, drop}
use mathlib.Core.List.{List, Memᴰ}
use Rattle.modes.specs.FourModes.{Amounts, InRange}
use Rattle.figure.specs.Mode.{mode_of}
use Rattle.figure.specs.Stored.{amounts}
use Rattle.hill.specs.Log.{Record}
use Rattle.hill.specs.Closing.{at, OpensAt}
use Rattle.hill.specs.Summary.{rights}
use Rattle.hill.specs.Building.{hill_of}
use Rattle.record.specs.declared.Fields.{Fields}
use Rattle.chunk.specs.Chunk.{record_of}
use Rattle.slopes.specs.declared.OpenAmounts.{OpenAmounts}
use Rattle.slopes.specs.Rising as one_mode
use Rattle.log_records.specs.Numbers.{number_at}
use Rattle.log_records.specs.Formed.{Formed}
use Rattle.log_records.specs.OpenNumbers.{OpenNumbers}
use Rattle.log_records.specs.CloseFigure.{Carried}
use Rattle.day_sheet.specs.Sheet.{sheet_line}
use Rattle.day_sheet.specs.Claims.{InColumns}
use Rattle.day_sheet.specs.PageLaws.{printed}
use Rattle.sheet.specs.declared.page.Page.{Page}
use Rattle.sheet.specs.declared.page.Progress.{Progress}
use Rattle.sheet.specs.declared.page.Open.{Open}

-- The 27 bytes of line i.
abbrev pub row : (out : List ℕ) (i : ℕ) → List ℕ
row out i = take 27 (drop (27 * i) out)

-- In a mode the open records' amounts a, what they hold, hs, and the middle value stand for the hill of the records xs.
abbrev pub Stands : List (Record Amounts) → (level : ℕ) → OpenAmounts → (mode : ℕ) (hs : List ℤ) (mid : ℤ) → Type 0
Stands xs level a mode hs mid = one_mode.Stands xs level a.values a.floors a.ceilings mode hs mid

module _ (xs : List (Record Amounts)) where
  -- Of the log's records xs, the first k are read; the arrays have those of them that are open.
  pub record OpenRecords (mode k : ℕ) (stack : List ℕ) (s : Progress) (os : Open) : Type 0 where
    pub numbers : OpenNumbers xs k s.opened os.numbers stack
    pub carried : Carried (mode_of mode).algebra (mode_of mode).laws xs k stack (rights (hill_of (mode_of mode).algebra (take k xs)))
    pub arrays : Stands (take k xs) (length stack) os.amounts mode os.held s.middle

  -- The line of each record of the page that is opened before place k stands in the buffer, unless the record is still open. What follows the lines is as before.
  pub record LinesSoFar (page : Page) (k : ℕ) (stack : List ℕ) (before out : List ℕ) : Type 0 where
    pub size : length out ≡ length before
    pub after : drop (27 * page.lines) out ≡ drop (27 * page.lines) before
    pub filled : (p d : ℕ) → OpensAt xs p d → p < k → page.first ≤ number_at xs p → number_at xs p < page.first + page.lines
        → Memᴰ p stack ⊎ (row out (number_at xs p - page.first) ≡ sheet_line (number_at xs p) d (printed page.mode xs p))

  pub record Printing (page : Page) (k : ℕ) (before : List ℕ) (s : Progress) (os : Open) (out : List ℕ) : Type 0 where
    pub formed : Formed xs
    pub columns : (p d : ℕ) → OpensAt xs p d → InColumns (number_at xs p) d (printed page.mode xs p)
    pub room : 27 * page.lines ≤ length before
    pub stack : List ℕ
    pub open-records : OpenRecords page.mode k stack s os
    pub so_far : LinesSoFar page k stack before out

-- What `note` asks and leaves.
pub record Ready (page : Page) (f : Fields) (s : Progress) (os : Open) (out : List ℕ) : Type 0 where
  pub records : List (Record Amounts)
  pub place : ℕ
  pub before : List ℕ
  pub printing : Printing records page place before s os out
  pub inside : place < length records
  pub here : at records place ≡ record_of f
  pub deep : f.depth ≤ 63
  pub in-range : InRange (amounts f.value f.floor f.ceiling)

abbrev pub Noted : Page → (f : Fields) (s : Progress) (os : Open) (out : List ℕ) (s' : Progress) (os' : Open) (out' : List ℕ) → Type 0
Noted page f s os out s' os' out' =
    (xs : List (Record Amounts)) (k : ℕ) (before : List ℕ) → Printing xs page k before s os out → k < length xs → at xs k ≡ record_of f
    → Printing xs page (suc k) before s' os' out'
