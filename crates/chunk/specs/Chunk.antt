-- What the bytes of a chunk say: its records, whether they are a whole log, and which chunks differ in batches only. Definitions only.
use Rattle.std.specs.Prelude.{◌≡◌, cond, List, map, ℕ, leb, eqb, ℤ, length}
use Rattle.gate.specs.Outcome.{Outcome, granted, question, onward}
use Rattle.record.specs.Record.{is_open, records_of}
use Rattle.record.specs.declared.Fields.{Fields}
use Rattle.modes.specs.FourModes.{Amounts}
use Rattle.figure.specs.Mode.{mode_of}
use Rattle.hill.specs.Verdict.{pass}
use Rattle.hill.specs.Log.{Record, opening, closing, log_fault}
use Rattle.hill.specs.Figure.{figure_of}
use Rattle.hill.specs.Finish.{outcome}

-- A record that was read, as all calls but reading take it: "kind 1, open", or "kind 2, close". They "drop" its batch (document 02, L2).
abbrev pub record_of : Fields → Record Amounts
record_of f = cond (is_open f.kind) (opening f.depth (record { value = f.value; floor = f.floor; ceiling = f.ceiling })) (closing f.depth)

abbrev pub chunk_of : List Fields → List (Record Amounts)
chunk_of fs = map record_of fs

-- "The recursion's figure on a well-formed log .., in the mode given", as a signed 64-bit number.
unfoldable pub figure_in : ℕ → List (Record Amounts) → ℤ
figure_in m log = (mode_of m).store (figure_of (mode_of m).algebra log)

-- THE GATE ON A WHOLE LOG, "2, 3 and 7 to 11": the log's records, or the number of the first question that gets a "no".
-- 2: "Is the chunk at most 65,536 bytes?" 3: "Is every record readable?" 7 to 11: `log_fault`, the lowest.
unfoldable pub whole_log : List ℕ → Outcome (List (Record Amounts))
whole_log log = question 2 (leb (length log) 65_536) (onward (records_of log) (λ fs. outcome (log_fault (chunk_of fs)) (chunk_of fs)))

-- "A log is well formed .." (7 to 11 get a "yes": `log_fault`, and by places `hill/Questions.NoOfLog`), of any length: its bytes, and its records.
pub record IsWellFormed (log : List ℕ) (xs : List (Record Amounts)) : Type 0 where
  pub fields : List Fields
  pub read : records_of log ≡ granted fields
  pub records-are : chunk_of fields ≡ xs
  pub fine : log_fault xs ≡ pass

-- Two chunks of readable records, and R holds of their records.
pub record ReadAs (R : (left right : List Fields) → Type 0) (a b : List ℕ) : Type 0 where
  pub left : List Fields
  pub right : List Fields
  pub left-read : records_of a ≡ granted left
  pub right-read : records_of b ≡ granted right
  pub holds : R left right

-- ---- document 02, L2: "figures and summaries ignore" the batch

-- Two chunks of readable records that are the same, as far as `view` shows them.
abbrev pub SameAs : {A : Type 0} → (view : Fields → A) → (a b : List ℕ) → Type 0
SameAs view = ReadAs (λ left right. map view left ≡ map view right)

-- What all calls but reading take of them is the same.
abbrev pub SameRecords : (a b : List ℕ) → Type 0
SameRecords = SameAs record_of

-- A record as it would be without a batch: one of length 22 has length 18 then.
abbrev pub without_batch : Fields → Fields
without_batch f = record { kind = f.kind; length = cond (eqb f.length 22) 18 f.length; depth = f.depth; value = f.value; floor = f.floor; ceiling = f.ceiling; batch = 0 }

-- "Two logs .. that differ in batches only", whether a record has another batch, or one of them has none.
abbrev pub SameButBatches : (a b : List ℕ) → Type 0
SameButBatches = SameAs without_batch
