-- What summarise, merge and finish come to, as functions of bytes. Definitions only.
use Rattle.std.specs.Prelude.{◌&&◌, List, ℕ, leb, eqb, length, ℤ}
use Rattle.gate.specs.Outcome.{Outcome, granted, question, onward, written}
use Rattle.record.specs.Record.{records_of}
use Rattle.modes.specs.FourModes.{Amounts}
use Rattle.figure.specs.Mode.{mode_of, mode_in_use}
use Rattle.hill.specs.Log.{Record, log_fault}
use Rattle.hill.specs.Figure.{figure_of}
use Rattle.hill.specs.Summary.{blank, summary_of}
use Rattle.hill.specs.Merge.{merge_summary}
use Rattle.hill.specs.Finish.{outcome, finish_of}
use Rattle.chunk.specs.Chunk.{chunk_of}
use Rattle.summary.specs.Layout.{encode}
use Rattle.summary.specs.Judge.{mode_at}
use Rattle.summary.specs.Decode.{decode}
use Rattle.summary.specs.Decide.{is_summary}

-- The bytes of a chunk's summary in mode m, of the blank one, and of two summaries merged.
unfoldable pub summary_bytes : ℕ → List (Record Amounts) → List ℕ
summary_bytes m xs = encode m (summary_of (mode_of m).algebra xs)

unfoldable pub blank_bytes : ℕ → List ℕ
blank_bytes m = encode m blank

unfoldable pub merge_bytes : ℕ → List ℕ → List ℕ → List ℕ
merge_bytes m a b = encode m (merge_summary (mode_of m).algebra (decode m a) (decode m b))

-- SUMMARISE "1, 2, 3 and 12". 1: "Is the mode 1 to 4?", since L3 one of those in use. 2: "Is the chunk at most 65,536 bytes?" 3: "Is every record readable?"
unfoldable pub summarise_outcome : (chunk : List ℕ) (mode cap : ℕ) → Outcome (List ℕ)
summarise_outcome chunk mode cap =
    question 1 (mode_in_use mode) (question 2 (leb (length chunk) 65_536) (onward (records_of chunk) (λ fs. written cap (summary_bytes mode (chunk_of fs)))))

-- MERGE "5, 6 and 12". 5: "Is each given piece exactly one summary?" 6: "Are all of one mode?"
unfoldable pub merge_outcome : (left right : List ℕ) (cap : ℕ) → Outcome (List ℕ)
merge_outcome left right cap =
    question 5 (is_summary left && is_summary right) (question 6 (eqb (mode_at left) (mode_at right)) (written cap (merge_bytes (mode_at left) left right)))

-- FINISH "5 and 7 to 11", "answering the figure as a signed 64-bit number".
unfoldable pub finish_outcome : List ℕ → Outcome ℤ
finish_outcome b = question 5 (is_summary b) (onward (finish_of (mode_of (mode_at b)).algebra (decode (mode_at b) b)) (λ v. granted ((mode_of (mode_at b)).store v)))

-- What a log says of itself in mode m: "the recursion's figure", stored, or "the log's lowest-numbered fault".
unfoldable pub log_outcome : ℕ → List (Record Amounts) → Outcome ℤ
log_outcome m log = outcome (log_fault log) ((mode_of m).store (figure_of (mode_of m).algebra log))
