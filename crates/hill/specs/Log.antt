-- Records with their depths, the levels they go through, and what is asked of a log. Definitions only.
use Rattle.std.specs.Prelude.{List, [], ◌∷◌, ℕ, suc, ◌+◌, min}
use Rattle.hill.specs.Verdict.{Verdict, pass, refuse, low, joint, count, ends}

-- R is what an open carries beside its depth: value, floor and ceiling.
pub data Record (R : Type 0) : Type 0 where
  opening : ℕ → R → Record R
  closing : ℕ → Record R

module _ {R : Type 0} where
  abbrev pub depth : Record R → ℕ
  depth (opening d r) = d
  depth (closing d) = d

  -- "An open at depth d goes from level d to d+1, a close from d+1 to d."
  abbrev pub start_level : Record R → ℕ
  start_level (opening d r) = d
  start_level (closing d) = suc d

  abbrev pub end_level : Record R → ℕ
  end_level (opening d r) = suc d
  end_level (closing d) = d

  -- Of a chunk x ∷ xs: its end level, ..
  abbrev pub end_of : Record R → List (Record R) → ℕ
  end_of x [] = end_level x
  end_of x (y ∷ ys) = end_of y ys

  -- .. its peak, "the lowest level reached" (a record's lower level is its depth), ..
  abbrev pub peak_of : Record R → List (Record R) → ℕ
  peak_of x [] = depth x
  peak_of x (y ∷ ys) = min (depth x) (peak_of y ys)

  -- .. and its opened records.
  abbrev pub opens : Record R → ℕ
  opens (opening d r) = 1
  opens (closing d) = 0

  abbrev pub opened_of : List (Record R) → ℕ
  opened_of [] = 0
  opened_of (x ∷ xs) = opens x + opened_of xs

  -- Questions 7 and 8 between neighbours, and with 9 the lowest fault of a chunk.
  abbrev pub joints : Record R → List (Record R) → Verdict
  joints x [] = pass
  joints x (y ∷ ys) = low (joint (end_level x) (start_level y)) (joints y ys)

  abbrev pub fault_of : Record R → List (Record R) → Verdict
  fault_of x xs = low (joints x xs) (count (opened_of (x ∷ xs)))

  -- Questions 7 to 11 of a whole log. 10: "Is there any record?"
  abbrev pub log_fault : List (Record R) → Verdict
  log_fault [] = refuse 10
  log_fault (x ∷ xs) = low (fault_of x xs) (ends (start_level x) (end_of x xs))
