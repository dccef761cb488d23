-- What the functions on a row ask and leave. Definitions only.
use Rattle.std.specs.Prelude.{◌≡◌, Bool, ◌&&◌, List, map, ℕ, ◌*◌, ◌^◌, ◌≤◌, length, take}
use Rattle.row.specs.Row.{row_pieces}
use Rattle.figure.specs.Mode.{mode_of}
use Rattle.hill.specs.Row.{merge_row}
use Rattle.summary.specs.Layout.{SummaryIn, encode}
use Rattle.summary.specs.Decode.{decode}
use Rattle.outcome.specs.Outcomes.{all_summaries, all_of, first_mode}
use Rattle.outcome.specs.Laws.{AllIn}

-- The row's pieces are summaries in mode m, as many as count says: at least one, and at most 64.
pub record Row (m : ℕ) (row : List ℕ) (count : ℕ) : Type 0 where
  pub all : AllIn m (row_pieces row)
  pub count-is : count ≡ length (row_pieces row)
  pub some : 1 ≤ count
  pub few : count ≤ 64

-- Its summaries merged, "half with half and each half likewise", and the bytes of that.
unfoldable pub row_summary : (m : ℕ) → List ℕ → SummaryIn m
row_summary m row = merge_row (mode_of m).algebra (map (decode m) (row_pieces row))

abbrev pub row_merged : ℕ → List ℕ → List ℕ
row_merged m row = encode m (row_summary m row)

-- There is room for the right halves that wait while the left ones are merged: a summary for each time that a row of so many pieces is halved, but
-- for the last, where the right half is one piece.
pub record Room (count room : ℕ) : Type 0 where
  pub times : ℕ
  pub halved : count ≤ 2 * 2 ^ times
  pub enough : 1788 * times ≤ room

-- The first n bytes of o are w.
pub record Front (w o : List ℕ) (n : ℕ) : Type 0 where
  pub is : take n o ≡ w
  pub count : n ≡ length (take n o)
  pub inside : n ≤ length o

-- Of the row's pieces, those before the bytes `rest` are summaries, and t says whether they are all of mode m, the first one's.
pub record Passed (row rest : List ℕ) (m : ℕ) (t : Bool) : Type 0 where
  pub summaries : all_summaries (row_pieces rest) ≡ all_summaries (row_pieces row)
  pub modes : t && all_of m (row_pieces rest) ≡ all_of (first_mode (row_pieces row)) (row_pieces row)
  pub mode-is : m ≡ first_mode (row_pieces row)
