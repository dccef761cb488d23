-- What `judge` answers of bytes, by question 5 and by where the numbers stand. Definitions only.
use Rattle.std.specs.Prelude.{cond, List, ℕ, eqb, ℤ}
use Rattle.gate.specs.Outcome.{Outcome, granted, question}
use Rattle.modes.specs.FourModes.{read_held}
use Rattle.figure.specs.Mode.{stores_nothing}
use Rattle.modes.specs.declared.Held.{Held}
use Rattle.modes.specs.declared.Held.TheVariants.{Figure}
use Rattle.summary.specs.Judge.{kind_at, mode_at, fault_at, spoilt_start_at, start_at, peak_at, end_at, opened_at, middle_at}
use Rattle.summary.specs.Decide.{is_summary}
use Rattle.judge.specs.declared.SpoiltHead.{SpoiltHead}
use Rattle.judge.specs.declared.HillHead.{HillHead}
use Rattle.judge.specs.declared.Head.{Head}
use Rattle.judge.specs.declared.Head.TheVariants.{Blank, Spoilt, Hill}
use Rattle.judge.specs.declared.Piece.{Piece}
use Rattle.gate.specs.declared.Refusal.{Refusal}
use Rattle.gate.specs.declared.Refusal.TheVariants as no

-- The fault of a spoilt summary, which names it by its number: 7, 8 or 9.
unfoldable pub fault_named : ℕ → Refusal
fault_named n = cond (eqb n 7) no.LevelGap (cond (eqb n 8) no.LevelZero no.TooManyOpened)

-- "In mode 2 it is no number, and is stored as -2^63", and so it is in mode 5.
unfoldable pub held_in : ℕ → ℤ → Held
held_in m z = cond (stores_nothing m) (read_held z) (Figure z)

-- The numbers at their places.
abbrev pub spoilt_head_at : List ℕ → SpoiltHead
spoilt_head_at b = record { fault = fault_named (fault_at b); start = spoilt_start_at b; end = end_at b; opened = opened_at b }

abbrev pub hill_head_at : List ℕ → HillHead
hill_head_at b = record { start = start_at b; peak = peak_at b; end = end_at b; opened = opened_at b; middle = held_in (mode_at b) (middle_at b) }

-- "A summary is one of three cases": "Kind 16, blank", "Kind 17, spoilt", "Kind 18, hill".
unfoldable pub head_at : List ℕ → Head
head_at b = cond (eqb (kind_at b) 16) Blank (cond (eqb (kind_at b) 17) (Spoilt (spoilt_head_at b)) (Hill (hill_head_at b)))

abbrev pub piece_at : List ℕ → Piece
piece_at b = record { mode = mode_at b; head = head_at b }

-- QUESTION 5 of bytes, and the summary that they are.
unfoldable pub judged_of : List ℕ → Outcome Piece
judged_of b = question 5 (is_summary b) (granted (piece_at b))
