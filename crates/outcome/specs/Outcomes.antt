-- What merging a row, the plan, the runs and the work along the plan come to, as functions of a row's bytes. Definitions only.
use Rattle.std.specs.Prelude.{Bool, true, ◌&&◌, cond, List, [], ◌∷◌, ◌++◌, map, ℕ, leb, eqb, length, ℤ}
use Rattle.gate.specs.Outcome.{Outcome, question, onward, written, granted}
use Rattle.number.specs.Bytes.{bytes_of}
use Rattle.row.specs.Row.{row_pieces}
use Rattle.figure.specs.Mode.{mode_of}
use Rattle.modes.specs.declared.Run.{Run}
use Rattle.hill.specs.Finish.{outcome}
use Rattle.hill.specs.Row.{merge_row}
use Rattle.summary.specs.Layout.{i64_bytes, SummaryIn, encode}
use Rattle.summary.specs.Judge.{mode_at}
use Rattle.summary.specs.Decode.{decode}
use Rattle.summary.specs.Decide.{is_summary}
use Rattle.join_plan.specs.Plan.{Line, plan_of_row}
use Rattle.plan_work.specs.Gate.{row_fault}
use Rattle.plan_work.specs.Runs.{runs_of}
use Rattle.plan_work.specs.Work.{Work, work_of}

-- ---- the questions to a row

-- 4: "Are there 2 to 64 pieces (each call on a row)?"
unfoldable pub two_to64 : List (List ℕ) → Bool
two_to64 pieces = leb 2 (length pieces) && leb (length pieces) 64

-- 5: "Is each given piece exactly one summary?"
abbrev pub all_summaries : List (List ℕ) → Bool
all_summaries [] = true
all_summaries (p ∷ ps) = is_summary p && all_summaries ps

-- 6: "Are all of one mode?" The first says which.
abbrev pub all_of : ℕ → List (List ℕ) → Bool
all_of m [] = true
all_of m (p ∷ ps) = eqb m (mode_at p) && all_of m ps

abbrev pub first_mode : List (List ℕ) → ℕ
first_mode [] = 0
first_mode (p ∷ ps) = mode_at p

-- Questions 5 and 6, and the mode that all are of.
abbrev pub mode_of_all : List (List ℕ) → Outcome ℕ
mode_of_all pieces = question 5 (all_summaries pieces) (question 6 (all_of (first_mode pieces) pieces) (granted (first_mode pieces)))

-- A row of summaries in one mode.
pub record Summaries : Type 0 where
  pub mode : ℕ
  pub row : List (SummaryIn mode)

-- Questions 4, 5 and 6, asked of a row's pieces.
unfoldable pub ask_row : List (List ℕ) → Outcome Summaries
ask_row pieces = question 4 (two_to64 pieces) (onward (mode_of_all pieces) (λ m. granted (record { mode = m; row = map (decode m) pieces })))

-- Questions 7 to 11, "several faults: the lowest".
unfoldable pub ask_log : Summaries → Outcome Summaries
ask_log s = outcome (row_fault s.row) s

-- ---- what is written

-- A row's summaries merged, "half with half and each half likewise".
unfoldable pub merged_bytes : Summaries → List ℕ
merged_bytes s = encode s.mode (merge_row (mode_of s.mode).algebra s.row)

-- "One line a join: length 12, kind 19, i, j, lowest and highest depth of those records (16 bits each)."
unfoldable pub line_bytes : Line → List ℕ
line_bytes l = bytes_of 2 12 ++ (bytes_of 2 19 ++ (bytes_of 2 l.i ++ (bytes_of 2 l.j ++ (bytes_of 2 l.lowest ++ bytes_of 2 l.highest))))

abbrev pub lines_bytes : List Line → List ℕ
lines_bytes [] = []
lines_bytes (l ∷ ls) = line_bytes l ++ lines_bytes ls

unfoldable pub plan_bytes : Summaries → List ℕ
plan_bytes s = lines_bytes (plan_of_row s.row)

-- A run: "length 30, kind 20, mode, three signed 64-bit numbers"; in mode 5 it has "length 38 and four numbers".
abbrev pub has_fourth : (mode : ℕ) → Bool
has_fourth mode = eqb mode 5

unfoldable pub run_length : (mode : ℕ) → ℕ
run_length mode = cond (has_fourth mode) 38 30

-- Its front, as far as the third number, ..
abbrev pub run_front : (mode : ℕ) → Run → List ℕ
run_front mode k = bytes_of 2 (run_length mode) ++ (bytes_of 2 20 ++ (bytes_of 2 mode ++ (i64_bytes k.first ++ (i64_bytes k.second ++ i64_bytes k.third))))

-- .. and the fourth.
unfoldable pub run_bytes : (mode : ℕ) → Run → List ℕ
run_bytes mode k = run_front mode k ++ cond (has_fourth mode) (i64_bytes k.fourth) []

-- In mode m, with the run's numbers as they are stored.
abbrev pub each_run : (m : ℕ) → List (mode_of m).context.K → List ℕ
each_run m [] = []
each_run m (k ∷ ks) = run_bytes m ((mode_of m).store_run k) ++ each_run m ks

-- "The runs (one for each line, in plan order)."
unfoldable pub runs_bytes : Summaries → List ℕ
runs_bytes s = each_run s.mode (runs_of (mode_of s.mode).context s.row)

-- "It gives the figure, the joins used (its lines) and the number of levels folded": the figure as it is stored.
unfoldable pub work_along : Summaries → Work ℤ
work_along s =
    let w = work_of (mode_of s.mode).algebra s.row in
    record { figure = (mode_of s.mode).store w.figure; joins = w.joins; levels = w.levels }

-- ---- the calls

-- MERGING A ROW "4, 5, 6 and 12".
unfoldable pub merge_row_outcome : (row : List ℕ) (cap : ℕ) → Outcome (List ℕ)
merge_row_outcome row cap = onward (ask_row (row_pieces row)) (λ s. written cap (merged_bytes s))

-- THE PLAN "4 to 12".
unfoldable pub plan_outcome : (row : List ℕ) (cap : ℕ) → Outcome (List ℕ)
plan_outcome row cap = onward (ask_row (row_pieces row)) (λ s. onward (ask_log s) (λ t. written cap (plan_bytes t)))

-- THE RUNS "4 to 12".
unfoldable pub runs_outcome : (row : List ℕ) (cap : ℕ) → Outcome (List ℕ)
runs_outcome row cap = onward (ask_row (row_pieces row)) (λ s. onward (ask_log s) (λ t. written cap (runs_bytes t)))

-- THE WORK ALONG THE PLAN "4 to 11".
unfoldable pub work_outcome : (row : List ℕ) → Outcome (Work ℤ)
work_outcome row = onward (ask_row (row_pieces row)) (λ s. onward (ask_log s) (λ t. granted (work_along t)))
