-- What questions 4 to 11 of a row find, and what is noted then. Definitions only.
use Rattle.std.specs.Prelude.{◌≡◌, List, map, ℕ, ◌≤◌, length, take, Option, Result, Ok, Err}
use Rattle.gate.specs.Outcome.{Outcome, refused, granted, onward}
use Rattle.gate.specs.Answers.{number_of}
use Rattle.gate.specs.declared.Refusal.{Refusal}
use Rattle.row.specs.Row.{row_pieces}
use Rattle.hill.specs.Verdict.{pass}
use Rattle.summary.specs.Decode.{decode}
use Rattle.judge.specs.declared.Numbers.{Numbers}
use Rattle.plan_work.specs.Gate.{row_fault}
use Rattle.outcome.specs.Outcomes.{Summaries, ask_row, ask_log}
use Rattle.outcome.specs.Laws.{AllIn}
use Rattle.row_gate.specs.declared.Row.{Row}
use Rattle.row_gate.specs.Notes.{Noted, AllNoted}

-- "Plan and runs 4 to 12; the work along the plan 4 to 11."
abbrev pub ask_all : List ℕ → Outcome Summaries
ask_all row = onward (ask_row (row_pieces row)) ask_log

-- The summaries of pieces, in mode m.
abbrev pub summaries_in : ℕ → List (List ℕ) → Summaries
summaries_in m ps = record { mode = m; row = map (decode m) ps }

-- A row that is let through, of `count` pieces in mode m, and what is noted of them.
pub record LetThrough (row : List ℕ) (count m : ℕ) (notes : List (Option Numbers)) : Type 0 where
  pub asked : ask_all row ≡ granted (summaries_in m (row_pieces row))
  pub long : length (row_pieces row) ≡ count
  pub some : 2 ≤ count
  pub few : count ≤ 64
  pub all : AllIn m (row_pieces row)
  pub faultless : row_fault (map (decode m) (row_pieces row)) ≡ pass
  pub sized : length notes ≡ 64
  pub bounds : Noted (take count notes)
  pub noted : AllNoted (row_pieces row) notes

abbrev pub Finds : Result Row Refusal → List ℕ → List (Option Numbers) → Type 0
Finds (Ok r) row notes = LetThrough row r.count r.mode notes
Finds (Err e) row notes = ask_all row ≡ refused (number_of e)
