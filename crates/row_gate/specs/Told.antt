-- What questions 7 to 11 read of a row's pieces, and their lowest fault, piece by piece. Definitions only.
use Rattle.std.specs.Prelude.{◌≡◌, List, [], ◌∷◌, ℕ, ◌+◌, ◌≤◌, Option, Some, None}
use Rattle.hill.specs.Verdict.{Verdict, refuse, low, joint, count, ends}
use Rattle.fault.specs.Fault.{verdict_of}
use Rattle.hill.specs.Summary.{Summary, blank, part, verdict, start, end, opened}
use Rattle.judge.specs.declared.Numbers.{Numbers}
use Rattle.row_gate.specs.declared.faults.Span.{Span}

-- A blank tells nothing; any other its own fault, its start, its end and the records it opens.
pub data Told : Type 0 where
  nothing : Told
  tells : Verdict → (start end opened : ℕ) → Told

abbrev pub told_of : {Fig R : Type 0} → Summary Fig R → Told
told_of blank = nothing
told_of (part a) = tells (verdict a) (start a) (end a) (opened a)

-- The pieces after some that are not all blank: the first of these starts and the last ends at a level, with the lowest fault and the opened records so far.
abbrev pub after_some : (first last : ℕ) → Verdict → ℕ → List Told → Verdict
after_some first last v o [] = low (low v (count o)) (ends first last)
after_some first last v o (nothing ∷ ts) = after_some first last v o ts
after_some first last v o (tells w s e n ∷ ts) = after_some first e (low v (low w (joint last s))) (o + n) ts

-- The lowest fault of a row.
abbrev pub told_fault : List Told → Verdict
told_fault [] = refuse 10
told_fault (nothing ∷ ts) = told_fault ts
told_fault (tells w s e n ∷ ts) = after_some s e w n ts

-- What is noted of a piece tells as much.
abbrev pub told_of_note : Option Numbers → Told
told_of_note None = nothing
told_of_note (Some n) = tells (verdict_of n.fault) n.start n.end n.opened

-- The pieces after those that a span has passed, or after blanks alone.
abbrev pub onward_from : Option Span → List Told → Verdict
onward_from None ts = told_fault ts
onward_from (Some s) ts = after_some s.first s.last (verdict_of s.fault) s.opened ts

-- The records opened by the pieces passed.
abbrev pub opened_by : Option Span → ℕ
opened_by None = 0
opened_by (Some s) = s.opened

-- `pass`: one piece more is passed, which is not blank.
pub record Passed (s : Option Span) (n : Numbers) (r : Span) : Type 0 where
  pub is : (ts : List Told) → onward_from (Some r) ts ≡ onward_from s (told_of_note (Some n) ∷ ts)
  pub opened : r.opened ≤ opened_by s + n.opened
