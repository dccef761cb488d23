-- What the functions of `runs` ask and answer. Definitions only.
use Rattle.std.specs.Prelude.{◌≡◌, List, [], ◌∷◌, map, ℕ, suc, ◌-◌, ◌≤◌, ◌<◌, length, Option}
use Rattle.algebra.specs.Run.{Level}
use Rattle.algebra.specs.Sizes.{cost, costs}
use Rattle.figure.specs.Mode.{mode_of}
use Rattle.figure.specs.Stored.{amounts, level_run}
use Rattle.modes.specs.declared.Run.{Run}
use Rattle.summary.specs.Judge.{mode_at}
use Rattle.join_plan.specs.Plan.{Line}
use Rattle.plan_work.specs.Runs.{run_levels, run_of, runs_along}
use Rattle.outcome.specs.Outcomes.{each_run}
use Rattle.judge.specs.declared.Numbers.{Numbers}
use Rattle.row_plan.specs.declared.Line.{Line as HeldLine}
use Rattle.row_plan.specs.Arrays.{line_in}
use Rattle.run_level.specs.declared.Place.{Place}
use Rattle.run_level.specs.declared.RunLevel.{RunLevel}
use Rattle.run_level.specs.Levels.{piece_of, Reads, level_at, level_for}
use Rattle.run_level.specs.Along.{row_in, Along, line_at, levels_of}

-- What the levels of a line can add up to: a row opens at most 100,000 records, of at most 10^9.
unfoldable pub most : ℕ
most = 100_000_000_000_000

-- The run of one level, as it is stored.
abbrev pub level_run_of : (m : ℕ) → RunLevel → Run
level_run_of m l = level_run (mode_of m) (amounts l.value l.floor l.ceiling) l.held l.left

-- What is read of one level in mode m, and that it is not too large.
pub record LevelReads (row : List ℕ) (m : ℕ) (opener closer : Place) (d : ℕ) : Type 0 where
  pub reads : Reads row opener closer d
  pub opener-mode : mode_at (piece_of row opener.piece) ≡ m
  pub closer-mode : mode_at (piece_of row closer.piece) ≡ m
  pub light : cost (mode_of m).sizes (level_for m (level_at (piece_of row opener.piece) (piece_of row closer.piece) d)) ≤ most

-- The levels of a line, from its highest depth to its lowest.
abbrev pub line_levels : (row : List ℕ) (m : ℕ) (opener closer : Place) (low high : ℕ) → List (Level (mode_of m).algebra)
line_levels row m o c low high = levels_of row m o c low (suc high - low)

-- What is read of a line's levels.
pub record LineReads (row : List ℕ) (m : ℕ) (opener closer : Place) (low high : ℕ) : Type 0 where
  pub some : low ≤ high
  pub reads : (d : ℕ) → low ≤ d → d ≤ high → Reads row opener closer d
  pub opener-mode : mode_at (piece_of row opener.piece) ≡ m
  pub closer-mode : mode_at (piece_of row closer.piece) ≡ m
  pub light : costs (mode_of m).sizes (line_levels row m opener closer low high) ≤ most

-- r is the run of these levels, as it is stored.
abbrev pub RunIs : (m : ℕ) → List (Level (mode_of m).algebra) → Run → Type 0
RunIs m ls r = map (mode_of m).store_run (run_of (mode_of m).context ls) ≡ r ∷ []

-- These are the lines of a plan; and this is one of them.
pub record Lines (row : List ℕ) (m : ℕ) (ats : List ℕ) (notes : List (Option Numbers)) (lines : List HeldLine) : Type 0 where
  pub count : ℕ
  pub along : Along row count m ats notes lines

pub record LineOf (row : List ℕ) (m : ℕ) (ats : List ℕ) (notes : List (Option Numbers)) (line : HeldLine) : Type 0 where
  pub lines : List HeldLine
  pub whole : Lines row m ats notes lines
  pub k : ℕ
  pub inside : k < length lines
  pub is : line_in line ≡ line_at lines k

-- r is the run of a line, as it is stored.
abbrev pub LineRun : List ℕ → (m : ℕ) → Line → Run → Type 0
LineRun row m e r = RunIs m (run_levels (mode_of m).algebra (row_in m row) e) r

-- The bytes of the runs of these lines.
abbrev pub lines_runs : List ℕ → (m : ℕ) → List Line → List ℕ
lines_runs row m es = each_run m (runs_along (mode_of m).context (row_in m row) es)
