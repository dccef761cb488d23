-- What is claimed of the records behind the heaviest line, by places in the log. Definitions only.
use Rattle.std.specs.Prelude.{◌≡◌, ◌↔◌, List, [], ◌∷◌, map, ℕ, ◌*◌, ◌≤◌, ◌<◌, ℤ, pos, ◌+ℤ◌, length, get_or, ◌≤ℤ◌}
use Rattle.gate.specs.Outcome.{refused, granted, written}
use Rattle.number.specs.Bytes.{le_at}
use Rattle.modes.specs.FourModes.{Amounts, heaviest}
use Rattle.modes.specs.declared.Held.TheVariants.{Figure}
use Rattle.hill.specs.Log.{Record, opening, closing, opened_of}
use Rattle.hill.specs.Closing.{at, OpensAt, Holds}
use Rattle.hill.specs.Figure.{figure_at}
use Rattle.chunk.specs.Chunk.{whole_log}
use Rattle.log_records.specs.Numbers.{number_at, IsRecord}
use Rattle.log_records.specs.Line.{number_bytes, heaviest_line_outcome}

abbrev pub value_of : Record Amounts → ℤ
value_of (opening d r) = r.value
value_of (closing d) = pos 0

-- "Counted from 0 in log order": each number below the opened count names one record, no other names any, and they rise along the log.
pub record CountedFrom0 {R : Type 0} (log : List (Record R)) : Type 0 where
  pub some : (n : ℕ) → n < opened_of log → (p : ℕ) × (d : ℕ) × IsRecord log n p d
  pub once : (n p q d e : ℕ) → IsRecord log n p d → IsRecord log n q e → p ≡ q
  pub few : (n p d : ℕ) → IsRecord log n p d → n < opened_of log
  pub in_order : (m n p q d e : ℕ) → IsRecord log m p d → IsRecord log n q e → (m < n) ↔ (p < q)

module _ (xs : List (Record Amounts)) where
  -- The value of the record opened at p, and the sum of several.
  abbrev pub record_value : (p : ℕ) → ℤ
  record_value p = value_of (at xs p)

  abbrev pub sum_of : (ps : List ℕ) → ℤ
  sum_of [] = pos 0
  sum_of (p ∷ ps) = record_value p +ℤ sum_of ps

  -- The mode 2 figure of the record opened at p is b.
  abbrev pub Reaches : (p : ℕ) (b : ℤ) → Type 0
  Reaches p b = figure_at heaviest xs p ≡ Figure b

  -- A step from the record opened at p to the one opened at q, where s is the sum of the values from the root to p. (`TakesWhole` alone looks at s.)
  abbrev pub Step : Type 1
  Step = (s : ℤ) (p q : ℕ) → Type 0

  -- From p "down to one that holds nothing", each step as `Next` has it.
  abbrev pub Down : (Next : Step) (s : ℤ) (p : ℕ) (below : List ℕ) → Type 0
  Down Next s p [] = (q d : ℕ) → Holds xs p q d → ⊥
  Down Next s p (q ∷ below) = Next s p q × Down Next (s +ℤ record_value q) q below

  -- "From the root", which is opened at place 0; and "the values add to the mode 2 figure".
  pub record LineBy (Next : Step) (ps : List ℕ) : Type 0 where
    pub root : OpensAt xs 0 0
    pub below : List ℕ
    pub from-root : ps ≡ 0 ∷ below
    pub down : Down Next (record_value 0) 0 below
    pub adds : Reaches 0 (sum_of ps)

  -- "Each directly holds the next, .. and at each step the earliest record that reaches it is taken": of all that the one at p holds, the one at q
  -- reaches the greatest figure, and none before it does.
  pub record TakesGreatest (s : ℤ) (p q : ℕ) : Type 0 where
    pub depth : ℕ
    pub holds : Holds xs p q depth
    pub most : ℤ
    pub reaches : Reaches q most
    pub greatest : (k : ℕ) (b : ℤ) → Holds xs p k depth → Reaches k b → b ≤ℤ most
    pub earliest : (k : ℕ) → Holds xs p k depth → Reaches k most → q ≤ k

  -- THE RECORDS BEHIND THE HEAVIEST LINE, by places.
  abbrev pub HeaviestLine : (ps : List ℕ) → Type 0
  HeaviestLine = LineBy TakesGreatest

  -- The same sentence read word for word: "it" is the mode 2 figure of the log, and the record at q is the earliest whose figure makes it up with the values
  -- from the root to p.
  pub record TakesWhole (s : ℤ) (p q : ℕ) : Type 0 where
    pub depth : ℕ
    pub holds : Holds xs p q depth
    pub rest : ℤ
    pub reaches : Reaches q rest
    pub whole : Reaches 0 (s +ℤ rest)
    pub earliest : (k : ℕ) (b : ℤ) → Holds xs p k depth → Reaches k b → Reaches 0 (s +ℤ b) → q ≤ k

  -- The sentences determine the list: in both readings ps is the one list, and no other.
  pub record OneLine (ps : List ℕ) : Type 0 where
    pub is : HeaviestLine ps
    pub only : (qs : List ℕ) → HeaviestLine qs → qs ≡ ps
    pub word-for-word : LineBy TakesWhole ps
    pub only_so : (qs : List ℕ) → LineBy TakesWhole qs → qs ≡ ps

-- What the call writes, of the bytes w: the numbers of these records, in this order, 4 bytes each, at most 64 of them. The number at place i of them is that of
-- the record at place i of the line, which has depth i.
pub record LineBytes (xs : List (Record Amounts)) (w : List ℕ) : Type 0 where
  pub places : List ℕ
  pub line : OneLine xs places
  pub few : length places ≤ 64
  pub whole_length : length w ≡ 4 * length places
  pub each : (i : ℕ) → i < length places → IsRecord xs (le_at 4 w (4 * i)) (get_or places i 0) i
  pub bytes : w ≡ number_bytes (map (number_at xs) places)

-- "Faults get their numbers as at finish; a short buffer 12." Where the gate refuses, by its number; else the numbers of the line are written, unless they do
-- not fit: `written`, of question 12. (`claim/HeaviestSum` says the first of finish itself.)
pub record TurnsAway (log : List ℕ) (cap : ℕ) : Type 0 where
  pub by-fault : (n : ℕ) → whole_log log ≡ refused n → heaviest_line_outcome log cap ≡ refused n
  pub else-written : (xs : List (Record Amounts)) → whole_log log ≡ granted xs → (w : List ℕ) × LineBytes xs w × (heaviest_line_outcome log cap ≡ written cap w)
