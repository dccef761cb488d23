-- What the inner functions of `work` ask, and the lists that their arrays stand for. Definitions only.
use Rattle.std.specs.Prelude.{◌≡◌, ◌&&◌, cond, List, [], ◌∷◌, ℕ, zero, suc, ◌+◌, ◌-◌, ◌≤◌, ◌<◌, leb, eqb, ℤ, pos, length, take, get_or, Option}
use Rattle.row.specs.Row.{row_pieces}
use Rattle.algebra.specs.Sizes.{costs}
use Rattle.figure.specs.Mode.{Mode, mode_of}
use Rattle.figure.specs.Stored.{IsStored, size_of}
use Rattle.summary.specs.Judge.{mode_at, middle_at, IsHill}
use Rattle.plan_work.specs.Runs.{run_levels}
use Rattle.plan_work.specs.Work.{Done, given, worked}
use Rattle.plan_work.specs.WorkSizes.{LineLight}
use Rattle.judge.specs.declared.Numbers.{Numbers}
use Rattle.row_plan.specs.declared.Line.{Line as HeldLine}
use Rattle.row_plan.specs.Arrays.{line_in, lines_in}
use Rattle.run_level.specs.declared.Place.{Place}
use Rattle.run_level.specs.declared.RunLevel.{RunLevel}
use Rattle.run_level.specs.Levels.{piece_of, place_in, Placed, Reads}
use Rattle.run_level.specs.StandsFor.{IsLevel, LineLevels}
use Rattle.run_level.specs.Along.{row_in, Ready, line_at, levels_of}
use Rattle.work.specs.Stores.{Stores}

-- What an outcome weighs at most, 10^9 for each of 100,000 opened records; and an x with all that its levels add: 130 times that.
abbrev pub outcome_most : ℕ
outcome_most = 100_000_000_000_000

abbrev pub most : ℕ
most = 13_000_000_000_000_000

-- ---- one line's run

pub record Steps (m : ℕ) (l : RunLevel) (x : ℤ) : Type 0 where
  pub level : IsLevel m l
  pub stored : IsStored (mode_of m) x
  pub room : size_of (mode_of m) x + (size_of (mode_of m) l.held + size_of (mode_of m) l.left) ≤ most

pub record Runs (row : List ℕ) (m : ℕ) (opener closer : Place) (low high : ℕ) (x : ℤ) : Type 0 where
  pub some : low ≤ high
  pub reads : (d : ℕ) → low ≤ d → d ≤ high → Reads row opener closer d
  pub opener-mode : mode_at (piece_of row opener.piece) ≡ m
  pub closer-mode : mode_at (piece_of row closer.piece) ≡ m
  pub stored : IsStored (mode_of m) x
  pub room : size_of (mode_of m) x + costs (mode_of m).sizes (levels_of row m opener closer low (suc high - low)) ≤ most

-- ---- middle values

pub record IsPlaceOfHill (row : List ℕ) (p : Place) : Type 0 where
  pub placed : Placed row p
  pub is : IsHill (piece_of row p.piece)

-- What a piece gives where its peak is noted.
abbrev pub middle_if : (row : List ℕ) (m : ℕ) (p : Place) (level : ℕ) → (mode_of m).algebra.Fig
middle_if row m p level = cond (eqb p.peak level) ((mode_of m).read (middle_at (piece_of row p.piece))) (mode_of m).algebra.ι

abbrev pub with_middle : (row : List ℕ) (m : ℕ) (p : Place) (level : ℕ) (acc : ℤ) → (mode_of m).algebra.Fig
with_middle row m p level acc = (mode_of m).algebra.◌⊗◌ ((mode_of m).read acc) (middle_if row m p level)

pub record AddsMiddle (row : List ℕ) (m : ℕ) (p : Place) (level : ℕ) (acc : ℤ) : Type 0 where
  pub hill : p.peak ≡ level → IsPlaceOfHill row p
  pub middle-stored : p.peak ≡ level → IsStored (mode_of m) (middle_at (piece_of row p.piece))
  pub light : p.peak ≡ level → size_of (mode_of m) (middle_at (piece_of row p.piece)) ≤ outcome_most
  pub stored : IsStored (mode_of m) acc
  pub room : size_of (mode_of m) acc ≤ most

pub record Middles (row : List ℕ) (count m : ℕ) (ats : List ℕ) (notes : List (Option Numbers)) (i j level : ℕ) : Type 0 where
  pub ready : Ready row count m ats notes
  pub order : i < j
  pub within : j ≤ count
  pub level-high : level ≤ 64

-- ---- outcomes

pub record AddsOutcome (m : ℕ) (out acc : ℤ) : Type 0 where
  pub out-stored : IsStored (mode_of m) out
  pub acc-stored : IsStored (mode_of m) acc
  pub room : size_of (mode_of m) out + size_of (mode_of m) acc ≤ most

-- What a line gives, if it lies within i to j and its lowest depth is this level.
abbrev pub with_outcome : (m i j level : ℕ) (line : HeldLine) (out acc : ℤ) → (mode_of m).algebra.Fig
with_outcome m i j level line out acc = (mode_of m).algebra.◌⊗◌ (cond (leb i line.i && leb line.j j && eqb line.low level) ((mode_of m).read out) (mode_of m).algebra.ι) ((mode_of m).read acc)

pub record OutsStored (M : Mode) (outs : List ℤ) (n : ℕ) : Type 0 where
  pub few : n ≤ 128
  pub each : (k : ℕ) → k < n → IsStored M (get_or outs k (pos 0))
  pub light : (k : ℕ) → k < n → size_of M (get_or outs k (pos 0)) ≤ outcome_most

-- The first n lines with their outcomes, the latest first.
abbrev pub done_at : (M : Mode) (lines : List HeldLine) (outs : List ℤ) → ℕ → Done M.algebra.Fig
done_at M lines outs k = record { line = line_at lines k; out = M.read (get_or outs k (pos 0)) }

abbrev pub done_in : (M : Mode) (lines : List HeldLine) (outs : List ℤ) → ℕ → List (Done M.algebra.Fig)
done_in M lines outs zero = []
done_in M lines outs (suc n) = done_at M lines outs n ∷ done_in M lines outs n

-- All of these lines.
abbrev pub done_of : (M : Mode) (lines : List HeldLine) (outs : List ℤ) → List (Done M.algebra.Fig)
done_of M lines outs = done_in M lines outs (length lines)

-- ---- lines

pub record Gives (row : List ℕ) (count m : ℕ) (ats : List ℕ) (notes : List (Option Numbers)) (lines : List HeldLine) (outs : List ℤ) (line : HeldLine) : Type 0 where
  pub ready : Ready row count m ats notes
  pub order : line.i < line.j
  pub within : line.j ≤ count
  pub level-high : line.high < 64
  pub outcomes : OutsStored (mode_of m) outs (length lines)

-- The number r stores the x of a line after these.
abbrev pub Given : (row : List ℕ) (m : ℕ) (lines : List HeldLine) (outs : List ℤ) (line : HeldLine) (r : ℤ) → Type 0
Given row m lines outs line r = Stores (mode_of m) r (given (mode_of m).algebra (row_in m row) (line_in line) (done_of (mode_of m) lines outs))

pub record WorksLine (row : List ℕ) (count m : ℕ) (ats : List ℕ) (notes : List (Option Numbers)) (lines : List HeldLine) (outs : List ℤ) (line : HeldLine) : Type 0 where
  pub ready : Ready row count m ats notes
  pub outcomes : OutsStored (mode_of m) outs (length lines)
  pub levels : LineLevels m (row_pieces row) (line_in line)
  pub run_is : run_levels (mode_of m).algebra (row_in m row) (line_in line) ≡ levels_of row m (place_in ats notes line.i) (place_in ats notes line.j) line.low (suc line.high - line.low)
  pub light : LineLight (mode_of m).algebra (mode_of m).sizes (row_in m row) (line_in line) (done_of (mode_of m) lines outs)

-- The first n lines are worked.
pub record AllWorked (row : List ℕ) (m : ℕ) (lines : List HeldLine) (outs : List ℤ) (n : ℕ) : Type 0 where
  pub outcomes : done_in (mode_of m) lines outs n ≡ worked (mode_of m).algebra (row_in m row) (lines_in (take n lines)) []
  pub each : (k : ℕ) → k < n → IsStored (mode_of m) (get_or outs k (pos 0))
