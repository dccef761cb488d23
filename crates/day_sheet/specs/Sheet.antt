-- The sheet with a figure for every record, and what printing a page of it comes to: document 02, L9. Definitions only.
use Rattle.std.specs.Prelude.{List, [], ◌∷◌, ◌++◌, ℕ, suc, ◌*◌, ltb, take, drop, ℤ}
use Rattle.gate.specs.Outcome.{Outcome, question, onward, written}
use Rattle.text.specs.Decimal.{digits_of, decimal_of}
use Rattle.text.specs.Columns.{right_aligned}
use Rattle.modes.specs.FourModes.{Amounts}
use Rattle.figure.specs.Mode.{mode_in_use}
use Rattle.hill.specs.Log.{Record, opening, closing, opened_of}
use Rattle.hill.specs.Row.{joined}
use Rattle.chunk.specs.Chunk.{figure_in, whole_log}

-- A LINE: "the record number in 6 columns, a blank, the depth in 2, a blank, the figure in 16, all right-aligned and filled with blanks, then a newline".
unfoldable pub sheet_line : (number depth : ℕ) (figure : ℤ) → List ℕ
sheet_line n d f = right_aligned 6 (digits_of n) ++ (32 ∷ (right_aligned 2 (digits_of d) ++ (32 ∷ (right_aligned 16 (decimal_of f) ++ (10 ∷ [])))))

-- "A figure for every record": a line for each that is opened, "in log order", where n are opened before. "Each figure is what the recursion gives for that
-- record's own subtree": that of the record which the log from there on begins with (`PageLaws.own-subtree` says it of the subtree as a log of its own).
abbrev pub lines_from : (mode n : ℕ) → List (Record Amounts) → List (List ℕ)
lines_from mode n [] = []
lines_from mode n (opening d r ∷ xs) = sheet_line n d (figure_in mode (opening d r ∷ xs)) ∷ lines_from mode (suc n) xs
lines_from mode n (closing d ∷ xs) = lines_from mode n xs

abbrev pub sheet_lines : (mode : ℕ) → List (Record Amounts) → List (List ℕ)
sheet_lines mode xs = lines_from mode 0 xs

-- A PAGE, "counted from 0: 60 lines in log order, fewer only on the last page".
abbrev pub page_lines : (mode page : ℕ) → List (Record Amounts) → List (List ℕ)
page_lines mode page xs = take 60 (drop (60 * page) (sheet_lines mode xs))

unfoldable pub page_text : (mode page : ℕ) → List (Record Amounts) → List ℕ
page_text mode page xs = joined (page_lines mode page xs)

-- "18, after the log's faults and before 12, when the page starts past the last record".
abbrev pub page_outcome : (mode page cap : ℕ) → List (Record Amounts) → Outcome (List ℕ)
page_outcome mode page cap xs = question 18 (ltb (60 * page) (opened_of xs)) (written cap (page_text mode page xs))

-- PRINTING A PAGE, "for a well-formed log of one chunk, a mode and a page".
unfoldable pub sheet_outcome : (log : List ℕ) (mode page cap : ℕ) → Outcome (List ℕ)
sheet_outcome log mode page cap = question 1 (mode_in_use mode) (onward (whole_log log) (page_outcome mode page cap))
