-- The questions that the gate puts to a row of summaries, 7 to 11: definitions only. Assumes nothing.
use Rattle.std.specs.Prelude.{List, [], ◌∷◌, ℕ, ◌+◌}
use Rattle.hill.specs.Verdict.{Verdict, pass, refuse, low, joint, count, ends}
use Rattle.hill.specs.Summary.{Part, Summary, blank, part, verdict, start, end, opened}

module _ {Fig R : Type 0} where
  -- The row without its blanks.
  abbrev pub parts_of : List (Summary Fig R) → List (Part Fig R)
  parts_of [] = []
  parts_of (blank ∷ row) = parts_of row
  parts_of (part a ∷ row) = a ∷ parts_of row

  -- The lowest fault of the spoilt ones.
  abbrev pub spoilt_fault : List (Part Fig R) → Verdict
  spoilt_fault [] = pass
  spoilt_fault (a ∷ rest) = low (verdict a) (spoilt_fault rest)

  -- Questions 7 and 8, where two neighbours are joined.
  abbrev pub join_fault : Part Fig R → List (Part Fig R) → Verdict
  join_fault a [] = pass
  join_fault a (b ∷ bs) = low (joint (end a) (start b)) (join_fault b bs)

  -- The records that they open.
  abbrev pub total_opened : List (Part Fig R) → ℕ
  total_opened [] = 0
  total_opened (a ∷ rest) = opened a + total_opened rest

  abbrev pub last_end : Part Fig R → List (Part Fig R) → ℕ
  last_end a [] = end a
  last_end a (b ∷ bs) = last_end b bs

  -- The lowest of 7, 8 and 9; then 10 and 11.
  abbrev pub parts_fault : List (Part Fig R) → Verdict
  parts_fault [] = refuse 10
  parts_fault (a ∷ rest) = low (low (spoilt_fault (a ∷ rest)) (low (join_fault a rest) (count (total_opened (a ∷ rest))))) (ends (start a) (last_end a rest))

  abbrev pub row_fault : List (Summary Fig R) → Verdict
  row_fault row = parts_fault (parts_of row)
