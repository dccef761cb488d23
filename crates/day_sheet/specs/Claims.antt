-- What is claimed of the sheet, by places in the log. Definitions only.
use Rattle.std.specs.Prelude.{◌≡◌, true, false, ◌↔◌, List, [], ◌++◌, ℕ, zero, suc, ◌+◌, ◌*◌, ◌≤◌, ◌<◌, ℤ, length, get_or, take, drop}
use Rattle.gate.specs.Outcome.{refused, granted, written}
use Rattle.text.specs.Decimal.{digits_of, decimal_of, read_digits, read_decimal}
use Rattle.text.specs.Columns.{after_blanks}
use Rattle.modes.specs.FourModes.{Amounts}
use Rattle.figure.specs.Mode.{mode_of, mode_in_use}
use Rattle.hill.specs.Verdict.{pass}
use Rattle.hill.specs.Log.{Record, opened_of, log_fault}
use Rattle.hill.specs.Closing.{ClosedBy}
use Rattle.hill.specs.Tree.{Forest, nil, tree, write, value}
use Rattle.hill.specs.OwnLog.{own_log}
use Rattle.hill.specs.Row.{joined}
use Rattle.chunk.specs.Chunk.{figure_in, whole_log}
use Rattle.log_records.specs.Numbers.{IsRecord}
use Rattle.log_records.specs.Claims.{CountedFrom0}
use Rattle.day_sheet.specs.Sheet.{sheet_line, sheet_lines, page_lines, page_text, sheet_outcome}

-- Each number fits its columns.
pub record InColumns (number depth : ℕ) (figure : ℤ) : Type 0 where
  pub number_fits : length (digits_of number) ≤ 6
  pub depth-fits : length (digits_of depth) ≤ 2
  pub figure-fits : length (decimal_of figure) ≤ 16

-- What a line reads back to: the numbers in its first 6 columns, in the 2 after the blank, and in the 16 after the next.
pub record LineRead : Type 0 where
  pub number : ℕ
  pub depth : ℕ
  pub figure : ℤ

abbrev pub read_line : List ℕ → LineRead
read_line s = record { number = read_digits (after_blanks (take 6 s)); depth = read_digits (after_blanks (take 2 (drop 7 s))); figure = read_decimal (after_blanks (take 16 (drop 10 s))) }

module _ (mode : ℕ) (xs : List (Record Amounts)) where
  -- "What the recursion gives for that record's own subtree": of the record opened at p, at depth d, and closed at q. Its subtree, as a log of its own, has no
  -- fault; the figure z is that log's, and that of the one tree whose traversal it is.
  pub record IsOwnFigure (p q d : ℕ) (z : ℤ) : Type 0 where
    pub fine : log_fault (own_log xs p q d) ≡ pass
    pub of-log : z ≡ figure_in mode (own_log xs p q d)
    pub root : Amounts
    pub below : Forest Amounts
    pub traversal : write 0 (tree root below nil) ≡ own_log xs p q d
    pub only : (f : Forest Amounts) → write 0 f ≡ own_log xs p q d → f ≡ tree root below nil
    pub of_tree : z ≡ (mode_of mode).store (value (mode_of mode).algebra (tree root below nil))

  -- A line tells of record n: "27 bytes", which read back to its number, its depth and its figure.
  pub record TellsOf (n : ℕ) (line : List ℕ) : Type 0 where
    pub place : ℕ
    pub close : ℕ
    pub depth : ℕ
    pub figure : ℤ
    pub is-record : IsRecord xs n place depth
    pub closed : ClosedBy xs place close depth
    pub own : IsOwnFigure place close depth figure
    pub text : line ≡ sheet_line n depth figure
    pub fits : InColumns n depth figure
    pub long : length line ≡ 27
    pub back : read_line line ≡ record { number = n; depth = depth; figure = figure }

  -- A page: line i of it tells of record 60 × page + i. There are 60 lines where the log opens so many records more, else those that are left; at least one.
  pub record IsPage (page : ℕ) (w : List ℕ) : Type 0 where
    pub lines : List (List ℕ)
    pub bytes : w ≡ joined lines
    pub long : length w ≡ 27 * length lines
    pub some : 0 < length lines
    pub few : length lines ≤ 60
    pub full : 60 * suc page ≤ opened_of xs → length lines ≡ 60
    pub last : opened_of xs < 60 * suc page → 60 * page + length lines ≡ opened_of xs
    pub each : (i : ℕ) → i < length lines → TellsOf (60 * page + i) (get_or lines i [])

  -- The first n pages, put one after another.
  abbrev pub pages_up_to : (n : ℕ) → List ℕ
  pages_up_to zero = []
  pages_up_to (suc n) = pages_up_to n ++ page_text mode n xs

-- All pages of a log put one after another: its lines, one for each opened record, "in log order". There are `count` pages, each of 60 lines but the last; page n
-- is one exactly if it does not start past the last record, and then it is what the call prints.
pub record AllPages (log : List ℕ) (mode : ℕ) (xs : List (Record Amounts)) (count : ℕ) : Type 0 where
  pub whole : pages_up_to mode xs count ≡ joined (sheet_lines mode xs)
  pub a-record : length (sheet_lines mode xs) ≡ opened_of xs
  pub each : (n : ℕ) → n < opened_of xs → TellsOf mode xs n (get_or (sheet_lines mode xs) n [])
  pub counted : CountedFrom0 xs
  pub full : (n : ℕ) → suc n < count → length (page_lines mode n xs) ≡ 60
  pub starts : (n : ℕ) → (n < count) ↔ (60 * n < opened_of xs)
  pub printed : (n : ℕ) → n < count → (cap : ℕ) → sheet_outcome log mode n cap ≡ written cap (page_text mode n xs)

-- "Turned away": 1 and the log's faults first, by their numbers. Then 18, exactly "when the page starts past the last record" of a log that is let through. All
-- else is the page, unless it does not fit: `written`, of question 12.
pub record TurnsAway (log : List ℕ) (mode page cap : ℕ) : Type 0 where
  pub by_mode : mode_in_use mode ≡ false → sheet_outcome log mode page cap ≡ refused 1
  pub by-fault : mode_in_use mode ≡ true → (n : ℕ) → whole_log log ≡ refused n → sheet_outcome log mode page cap ≡ refused n
  pub past-the-last : (sheet_outcome log mode page cap ≡ refused 18) ↔ ((mode_in_use mode ≡ true) × ((xs : List (Record Amounts)) × (whole_log log ≡ granted xs) × (opened_of xs ≤ 60 * page)))
  pub else-written : mode_in_use mode ≡ true → (xs : List (Record Amounts)) → whole_log log ≡ granted xs → 60 * page < opened_of xs
      → IsPage mode xs page (page_text mode page xs) × (sheet_outcome log mode page cap ≡ written cap (page_text mode page xs))

-- What the call writes: a page of a log that was let through.
pub record WritesPage (log : List ℕ) (mode page cap : ℕ) (w : List ℕ) : Type 0 where
  pub in_use : mode_in_use mode ≡ true
  pub records : List (Record Amounts)
  pub let_through : whole_log log ≡ granted records
  pub starts : 60 * page < opened_of records
  pub bytes-are : w ≡ page_text mode page records
  pub is-page : IsPage mode records page w
  pub fits : length w ≤ cap
