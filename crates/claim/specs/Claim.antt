-- The row of demand 3: a log and its cut, the row that summarise writes, a list of merges on it, and what holds of all that. Definitions only.
use Rattle.std.specs.Prelude.{◌≡◌, ◌↔◌, true, ◌&&◌, cond, ℕ, zero, suc, ◌+◌, ◌*◌, ◌≤◌, ◌<◌, leb, eqb, length, take, drop, get_or, ℤ}
use mathlib.Core.List.{List, [], ◌∷◌, map, Memᴰ}
use Rattle.std.proofs.Math.Seq.{slice}
use Rattle.gate.specs.Outcome.{Outcome, refused, granted, onward, written, buffer_after}
use Rattle.gate.specs.Answers.{length_answered}
use Rattle.row.specs.Row.{end_to_end}
use Rattle.record.specs.Record.{records_of}
use Rattle.record.specs.declared.Fields.{Fields}
use Rattle.modes.specs.FourModes.{Amounts}
use Rattle.figure.specs.Mode.{mode_of, mode_in_use}
use Rattle.hill.specs.Log.{Record}
use Rattle.hill.specs.Questions.{NoOfLog}
use Rattle.hill.specs.Closing.{ClosedBy}
use Rattle.hill.specs.Tree.{Forest, nil, tree, write, value}
use Rattle.hill.specs.Row.{joined, Call, answer, put, replay, answers, Proper, fitting, on_result}
use Rattle.summary.specs.Outcomes.{summary_bytes, summarise_outcome, merge_outcome, finish_outcome, log_outcome}
use Rattle.chunk.specs.Chunk.{chunk_of}
use Rattle.join_plan.specs.Plan.{Line, joins, folded}
use Rattle.join_plan.specs.ByRecords.{InChunk, IsPlan}
use Rattle.outcome.specs.Outcomes.{lines_bytes, merge_row_outcome, plan_outcome, work_outcome}

-- ---- a log and its cut

-- The records that stand in readable bytes, and what the recursion takes of them.
abbrev pub fields_found : Outcome (List Fields) → List Fields
fields_found (refused n) = []
fields_found (granted fs) = fs

unfoldable pub fields_read : List ℕ → List Fields
fields_read bytes = fields_found (records_of bytes)

unfoldable pub records_read : List ℕ → List (Record Amounts)
records_read bytes = chunk_of (fields_read bytes)

-- A place "between records" is the number of the records before it. In bytes it is their lengths, added.
abbrev pub byte_at : List Fields → ℕ → ℕ
byte_at fs zero = 0
byte_at [] (suc k) = 0
byte_at (f ∷ fs) (suc k) = f.length + byte_at fs k

-- Places from a to n, none before the one that it follows. Two may be the same: the chunk between them is blank.
abbrev pub InOrder : (a : ℕ) → List ℕ → (n : ℕ) → Type 0
InOrder a [] n = a ≤ n
InOrder a (p ∷ ps) n = (a ≤ p) × InOrder p ps n

-- What stands from a to the first place, from each place to the next, and from the last one on.
abbrev pub parts : {A : Type 0} → List A → (a : ℕ) → List ℕ → List (List A)
parts xs a [] = drop a xs ∷ []
parts xs a (p ∷ ps) = slice a p xs ∷ parts xs p ps

-- A cut of the log between records, at P - 1 places: the P chunks are the bytes between them.
unfoldable pub cut_at : (log places : List ℕ) → List (List ℕ)
cut_at log places = parts log 0 (map (byte_at (fields_read log)) places)

-- ---- stretches

-- "Its summary is what \"Summaries\" says of a chunk, however long the stretch is."
unfoldable pub stretch_bytes : (mode : ℕ) → List ℕ → List ℕ
stretch_bytes mode stretch = summary_bytes mode (records_read stretch)

-- What the uncut log says: "the recursion's figure", or the log's "lowest-numbered fault".
unfoldable pub log_says : (mode : ℕ) → List ℕ → Outcome ℤ
log_says mode log = onward (records_of log) (λ fs. log_outcome mode (chunk_of fs))

-- ---- the row that summarise writes

-- What a call leaves in the buffer that it was lent, up to its answer.
abbrev pub leaves : Outcome (List ℕ) → (buffer : List ℕ) → Outcome (List ℕ)
leaves (refused n) buffer = refused n
leaves (granted w) buffer = granted (take (length w) (buffer_after (granted w) buffer))

abbrev pub wrote : Outcome (List ℕ) → List ℕ
wrote (refused n) = []
wrote (granted w) = w

-- "The row starts as what summarise writes for the P chunks, .. in log order and one mode", each into a buffer of its own. (None is refused: no summary has 0 bytes.)
abbrev pub first_row : (mode : ℕ) → (chunks buffers : List (List ℕ)) → List (List ℕ)
first_row mode (c ∷ cs) (b ∷ bs) = wrote (leaves (summarise_outcome c mode (length b)) b) ∷ first_row mode cs bs
first_row mode (c ∷ cs) [] = []
first_row mode [] bs = []

-- "Each of at most 65,536 bytes", "into buffers that are long enough".
pub record IsChunk (mode : ℕ) (chunk buffer : List ℕ) : Type 0 where
  pub short : length chunk ≤ 65_536
  pub long-enough : length (stretch_bytes mode chunk) ≤ length buffer

-- There is a buffer for each chunk.
abbrev pub AllChunks : (mode : ℕ) → (chunks buffers : List (List ℕ)) → Type 0
AllChunks mode (c ∷ cs) (b ∷ bs) = IsChunk mode c b × AllChunks mode cs bs
AllChunks mode (c ∷ cs) [] = ⊥
AllChunks mode [] (b ∷ bs) = ⊥
AllChunks mode [] [] = Unit {0}

-- Every log of readable records, every mode, every cut of the log between records into chunks within the limits, some perhaps blank.
pub record IsCut (mode : ℕ) (log places : List ℕ) (buffers : List (List ℕ)) : Type 0 where
  pub mode-in-use : mode_in_use mode ≡ true
  pub readable : (fs : List Fields) × (records_of log ≡ granted fs)
  pub between : InOrder 0 places (length (fields_read log))
  pub each : AllChunks mode (cut_at log places) buffers

-- ---- the list of merges

-- "The list is of merges, each with a buffer of its own, of any length: merge on two neighbours .., or merging a row on two or more neighbours."
pub data Lent : Type 0 where
  to_merge : List ℕ → Lent
  to_merge_row : List ℕ → Lent

abbrev pub buffer_of : Lent → List ℕ
buffer_of (to_merge b) = b
buffer_of (to_merge_row b) = b

-- What a call on a row takes: "Are there 2 to 64 pieces (each call on a row)?" Question 4 refuses any other number.
abbrev pub RowSize : ℕ → Type 0
RowSize many = (2 ≤ many) × (many ≤ 64)

-- How many pieces a merge takes. Merging a row takes at most 64, though the row may have more: "A row of 2 to 64 summaries can also be merged in one call".
abbrev pub Takes : Lent → ℕ → Type 0
Takes (to_merge b) many = many ≡ 2
Takes (to_merge_row b) many = RowSize many

-- "Neighbours of the row as it then stands": `many` pieces from `place` on.
pub record Neighbours (c : Call Lent) (row : List (List ℕ)) : Type 0 where
  pub takes : Takes c.lent c.many
  pub inside : c.place + c.many ≤ length row

-- What the call comes to on these pieces; merging a row has them "lent end to end".
abbrev pub called : List (List ℕ) → Lent → Outcome (List ℕ)
called pieces (to_merge b) = merge_outcome (get_or pieces 0 []) (get_or pieces 1 []) (length b)
called pieces (to_merge_row b) = merge_row_outcome (end_to_end pieces) (length b)

-- "The bytes it wrote take the place of the merged ones."
abbrev pub by_calls : List (List ℕ) → Lent → Outcome (List ℕ)
by_calls pieces l = leaves (called pieces l) (buffer_of l)

-- What the calls of the list answer: a refusal, or a length.
abbrev pub told : List (Call Lent) → List (List ℕ) → List (Outcome ℕ)
told [] row = []
told (c ∷ cs) row = length_answered (answer called c row) ∷ told cs (put by_calls (answer by_calls c row) c row)

-- The same merge on stretches: "a merge whose buffer is shorter than the summary of the joined stretches answers 12 and leaves the row as it was".
abbrev pub on_stretches : (mode : ℕ) → List (List ℕ) → Lent → Outcome (List ℕ)
on_stretches mode = fitting (λ l stretch. leb (length (stretch_bytes mode stretch)) (length (buffer_of l))) joined

-- ---- what a log says, and its joins

-- "A log's lowest-numbered fault is the lowest of questions 7 to 11 below that gets a \"no\" for the uncut log": it is n.
abbrev pub LowestFault : List (Record Amounts) → (n : ℕ) → Type 0
LowestFault log n = NoOfLog log n × ((m : ℕ) → NoOfLog log m → n ≤ m)

-- "A log is well formed if it has a record, begins and ends at level 0, ..": no question of 7 to 11 gets a "no".
abbrev pub WellFormed : List (Record Amounts) → Type 0
WellFormed log = (n : ℕ) → NoOfLog log n → ⊥

-- "The recursion's figure": the log is the traversal of exactly one tree, and what it says is this tree's figure by METR 2006-64, stored.
pub record Recursion (mode : ℕ) (log : List ℕ) : Type 0 where
  pub root : Amounts
  pub below : Forest Amounts
  pub traversal : write 0 (tree root below nil) ≡ records_read log
  pub only : (f : Forest Amounts) → write 0 f ≡ records_read log → f ≡ tree root below nil
  pub figure : log_says mode log ≡ granted ((mode_of mode).store (value (mode_of mode).algebra (tree root below nil)))

-- "A join of chunks i < j: some record opened in i is closed in j": one of depth d, opened at place p of the log, in chunk i, and closed at place q, in chunk j.
abbrev pub AreJoined : List (List (Record Amounts)) → (i j : ℕ) → Type 0
AreJoined chunks i j = (d : ℕ) × (p : ℕ) × (q : ℕ) × InChunk chunks i p × InChunk chunks j q × ClosedBy (joined chunks) p q d

-- The lines of a plan that have i and j.
abbrev pub lines_for : (i j : ℕ) → List Line → List Line
lines_for i j [] = []
lines_for i j (l ∷ ls) = cond (eqb l.i i && eqb l.j j) (l ∷ lines_for i j ls) (lines_for i j ls)

-- ---- the claim

module _ (mode : ℕ) (log places : List ℕ) (buffers : List (List ℕ)) where
  -- The chunks, their records, and the row "before any merge", "its summaries end to end".
  abbrev pub chunks : List (List ℕ)
  chunks = cut_at log places

  abbrev pub chunk_records : List (List (Record Amounts))
  chunk_records = parts (records_read log) 0 places

  abbrev pub start_row : List (List ℕ)
  start_row = first_row mode chunks buffers

  abbrev pub lent_row : List ℕ
  lent_row = end_to_end start_row

  -- Each merge of the list is on neighbours of the row as it then stands.
  abbrev pub AreMerges : List (Call Lent) → Type 0
  AreMerges merges = Proper by_calls Neighbours merges start_row

  -- The plan of a well-formed log, and the work along it.
  pub record Planned : Type 0 where
    -- "just the lines described above", by the chunks' records: there is one such list
    pub lines : List Line
    pub described : IsPlan chunk_records lines
    pub only : (ls : List Line) → IsPlan chunk_records ls → ls ≡ lines
    -- "one line a join": exactly one where some record opened in i is closed in j, and none where none is
    pub one_line : (i j : ℕ) → i < j → AreJoined chunk_records i j ↔ (length (lines_for i j lines) ≡ 1)
    pub no_line : (i j : ℕ) → i < j → (AreJoined chunk_records i j → ⊥) ↔ (length (lines_for i j lines) ≡ 0)
    -- at most 2P - 3
    pub few : length lines + 3 ≤ 2 * length chunks
    -- "the plan's call writes just the lines .., or, where its buffer is too short for them, answers 12"
    pub plan : (cap : ℕ) → plan_outcome lent_row cap ≡ written cap (lines_bytes lines)
    -- "the figure, the joins used (its lines) and the number of levels folded"
    pub work : work_outcome lent_row ≡ on_result (λ f. record { figure = f; joins = joins lines; levels = folded lines }) (log_says mode log)

  -- "A single claim about the log, its cut, the mode and the whole list."
  pub record Claimed (merges : List (Call Lent)) : Type 0 where
    -- the cut: each chunk is readable and has just the records between its places; the chunks joined are the log, of bytes and of records
    pub cut-read : map records_of chunks ≡ map granted (parts (fields_read log) 0 places)
    pub cut-joined : joined chunks ≡ log
    pub cut-records : joined chunk_records ≡ records_read log
    -- what the log says: its "lowest-numbered fault" or, where it is well formed, "the recursion's figure"
    pub fault : (n : ℕ) → (log_says mode log ≡ refused n) ↔ LowestFault (records_read log) n
    pub recursion : WellFormed (records_read log) → Recursion mode log
    -- the stretches after the whole list: each is readable, and joined they are the log
    pub readable : (s : List ℕ) → Memᴰ s (replay (on_stretches mode) merges chunks) → (fs : List Fields) × (records_of s ≡ granted fs)
    pub stretches : joined (replay (on_stretches mode) merges chunks) ≡ log
    -- each merge answers 12, or "that summary's length"
    pub answered : told merges start_row ≡ map (on_result (λ s. length (stretch_bytes mode s))) (answers (on_stretches mode) merges chunks)
    -- each piece is byte for byte the summary of its stretch
    pub pieces : replay by_calls merges start_row ≡ map (stretch_bytes mode) (replay (on_stretches mode) merges chunks)
    -- where one piece is left, finish says what the log says
    pub finished : (p : List ℕ) → replay by_calls merges start_row ≡ p ∷ [] → finish_outcome p ≡ log_says mode log
    -- and so does the work along the plan, "taken from the row before any merge", where P is 2 to 64
    pub worked : RowSize (length chunks) → on_result (λ w. w.figure) (work_outcome lent_row) ≡ log_says mode log
    -- the plan, likewise: of a well-formed log its lines, of any other its fault
    pub planned : RowSize (length chunks) → WellFormed (records_read log) → Planned
    pub plan-refused : RowSize (length chunks) → (n : ℕ) → LowestFault (records_read log) n → (cap : ℕ) → plan_outcome lent_row cap ≡ refused n
    -- of any other number of chunks both answer 4
    pub row-refused : (RowSize (length chunks) → ⊥) → ((cap : ℕ) → plan_outcome lent_row cap ≡ refused 4) × (work_outcome lent_row ≡ refused 4)
