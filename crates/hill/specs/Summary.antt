-- The summary of a chunk, in the words of "Summaries". Definitions only.
use Rattle.std.specs.Prelude.{Bool, false, cond, ◌&&◌, ◌||◌, not, List, [], ◌∷◌, ◌++◌, ℕ, zero, suc, ◌+◌, ◌-◌, eqb, length}
use Rattle.algebra.specs.Algebra.{Algebra}
use Rattle.hill.specs.Verdict.{Verdict, pass, refuse, cut}
use Rattle.hill.specs.Log.{Record, opening, closing, start_level, end_of, peak_of, opened_of, fault_of}
use Rattle.hill.specs.Figure.{held}

-- The left values, the head at level peak + 1, the last at the start level; the middle value; the unclosed records, the deepest first,
-- each with its combined held figures so far. Start and end are the peak and a slope's length.
pub data Hill (Fig R : Type 0) : Type 0 where
  hill : List Fig → Fig → List (R × Fig) → Hill Fig R

-- Of a chunk that has a record: spoilt (fault, start, end, opened), or a hill (peak, opened, values).
pub data Part (Fig R : Type 0) : Type 0 where
  spoilt : ℕ → ℕ → ℕ → ℕ → Part Fig R
  whole : ℕ → ℕ → Hill Fig R → Part Fig R

pub data Summary (Fig R : Type 0) : Type 0 where
  blank : Summary Fig R
  part : Part Fig R → Summary Fig R

module _ {Fig R : Type 0} where
  abbrev pub lefts : Hill Fig R → List Fig
  lefts (hill u m d) = u

  abbrev pub middle : Hill Fig R → Fig
  middle (hill u m d) = m

  abbrev pub rights : Hill Fig R → List (R × Fig)
  rights (hill u m d) = d

  -- The lengths of the slopes: start - peak and end - peak.
  abbrev pub rise : Hill Fig R → ℕ
  rise (hill u m d) = length u

  abbrev pub fall : Hill Fig R → ℕ
  fall (hill u m d) = length d

  abbrev pub start : Part Fig R → ℕ
  start (spoilt f s e o) = s
  start (whole p o h) = p + rise h

  abbrev pub end : Part Fig R → ℕ
  end (spoilt f s e o) = e
  end (whole p o h) = p + fall h

  abbrev pub opened : Part Fig R → ℕ
  opened (spoilt f s e o) = o
  opened (whole p o h) = o

  abbrev pub verdict : Part Fig R → Verdict
  verdict (spoilt f s e o) = refuse f
  verdict (whole p o h) = pass

  -- A part by its verdict, start, end, opened, peak and values: a hill where nothing is at fault, else spoilt.
  abbrev pub judged : Verdict → (s e o p : ℕ) → Hill Fig R → Part Fig R
  judged pass s e o p h = whole p o h
  judged (refuse f) s e o p h = spoilt f s e (cut o)

-- A close at depth d is among the records.
abbrev pub closed_in : {R : Type 0} → ℕ → List (Record R) → Bool
closed_in d [] = false
closed_in d (opening c r ∷ xs) = closed_in d xs
closed_in d (closing c ∷ xs) = eqb c d || closed_in d xs

module _ {R : Type 0} (𝒜 : Algebra R) where
  open 𝒜 use {Fig, ι, ◌⊗◌, node}

  infixl 70 ◌⊗◌
  -- A spoilt part has no peak and no values: these stand in for them where no result depends on them.
  abbrev pub peak : Part Fig R → ℕ
  peak (spoilt f s e o) = 0
  peak (whole p o h) = p

  abbrev pub slopes : Part Fig R → Hill Fig R
  slopes (spoilt f s e o) = hill [] ι []
  slopes (whole p o h) = h

  -- "A left or middle value combines the records at its level that are both opened and closed in the chunk and held by none that the chunk opens":
  -- those of depth d that are closed further on, and opened before the first close at depth d - 1.
  abbrev pub done : ℕ → List (Record R) → Fig
  done d [] = ι
  done d (opening c r ∷ xs) = cond (eqb c d && closed_in d xs) (node r (held 𝒜 (suc d) xs) ⊗ done d xs) (done d xs)
  done d (closing c ∷ xs) = cond (eqb (suc c) d) ι (done d xs)

  -- The record of depth c that is opened and not closed, none or one; "the held figures so far are those of held records that the chunk also closes".
  abbrev pub pending : ℕ → List (Record R) → List (R × Fig)
  pending c [] = []
  pending c (opening d r ∷ xs) = cond (eqb d c && not (closed_in c xs)) ((r, done (suc c) xs) ∷ []) (pending c xs)
  pending c (closing d ∷ xs) = pending c xs

  -- The left values at levels p + 1 to p + n, and the unclosed records of depth p + n - 1 down to p.
  abbrev pub lefts_of : (p n : ℕ) → List (Record R) → List Fig
  lefts_of p zero xs = []
  lefts_of p (suc n) xs = done (suc p) xs ∷ lefts_of (suc p) n xs

  abbrev pub rights_of : (p n : ℕ) → List (Record R) → List (R × Fig)
  rights_of p zero xs = []
  rights_of p (suc n) xs = pending (p + n) xs ++ rights_of p n xs

  -- The values of a chunk that goes from level p + m down to p and up to p + n.
  abbrev pub values_of : (p m n : ℕ) → List (Record R) → Hill Fig R
  values_of p m n xs = hill (lefts_of p m xs) (done p xs) (rights_of p n xs)

  abbrev pub part_of : Record R → List (Record R) → Part Fig R
  part_of x xs = judged (fault_of x xs) (start_level x) (end_of x xs) (opened_of (x ∷ xs)) (peak_of x xs)
      (values_of (peak_of x xs) (start_level x - peak_of x xs) (end_of x xs - peak_of x xs) (x ∷ xs))

  abbrev pub summary_of : List (Record R) → Summary Fig R
  summary_of [] = blank
  summary_of (x ∷ xs) = part (part_of x xs)
