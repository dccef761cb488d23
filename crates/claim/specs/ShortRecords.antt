-- Document 02, L8: what a short record counts; what is claimed of summaries that were sent while short records had another floor; and which figures that floor
-- does not move. Definitions only.
use Rattle.std.specs.Prelude.{◌≡◌, ◌↔◌, true, cond, ◌&&◌, ℕ, zero, suc, ◌+◌, ◌*◌, ◌≤◌, ◌<◌, eqb, length, drop, ℤ, pos, negsuc, ◌≤ℤ◌}
use mathlib.Core.List.{List, [], ◌∷◌, map, Memᴰ}
use Rattle.gate.specs.Outcome.{Outcome, refused, granted, written}
use Rattle.number.specs.Bytes.{AllBytes, le_at, i32_at}
use Rattle.row.specs.Row.{end_to_end}
use Rattle.record.specs.Record.{default_ceiling, within, whole, read_of, and_then, records_of, full_fields, chunk_bytes}
use Rattle.record.specs.declared.Fields.{Fields}
use Rattle.record.specs.declared.Kind.TheVariants as kind
use Rattle.modes.specs.FourModes.{Amounts}
use Rattle.figure.specs.Stored.{amounts}
use Rattle.hill.specs.Log.{Record}
use Rattle.hill.specs.Closing.{Holds}
use Rattle.hill.specs.Row.{joined, Call, replay, answers, on_result}
use Rattle.summary.specs.Outcomes.{summary_bytes, finish_outcome, log_outcome}
use Rattle.chunk.specs.Chunk.{chunk_of}
use Rattle.join_plan.specs.Plan.{Line, joins, folded}
use Rattle.join_plan.specs.ByRecords.{IsPlan}
use Rattle.outcome.specs.Outcomes.{lines_bytes, plan_outcome, work_outcome}
use Rattle.claim.specs.Claim.{fields_found, fields_read, records_read, stretch_bytes, log_says, RowSize, Lent, by_calls, told, on_stretches, LowestFault, WellFormed, Recursion, AreJoined, lines_for}
use Rattle.claim.specs.Drops.{TakenAtValue, eaten_at}

-- ---- "The recursion that all figures are held to reads 0 there"

-- In mode 5, of a record of length 10 and value v, opened at place p of a log and of depth d.
pub record ShortCounts (log : List (Record Amounts)) (p d : ℕ) (v : ℤ) : Type 0 where
  -- by the leaf rule of L3, with floor 0 and ceiling 1,000,000,000
  pub counts : TakenAtValue (eaten_at log) log p d (amounts v (pos 0) (pos 1_000_000_000))
  -- so one that holds another, at q, lies between the two
  pub between : (q : ℕ) → Holds log p q d → (pos 0 ≤ℤ eaten_at log p) × (eaten_at log p ≤ℤ pos 1_000_000_000)

-- No "negative days": of a log that begins with a short record that holds another.
pub record FromZero (log : List ℕ) : Type 0 where
  pub eaten : ℤ
  pub says : log_says 5 log ≡ granted eaten
  pub between : (pos 0 ≤ℤ eaten) × (eaten ≤ℤ pos 1_000_000_000)

-- ---- "Summaries carry the floor in full and those already sent keep their meaning"

-- A chunk, and the floor that short records had when it was summarised: the old one, or since L8 the default floor.
pub record Sent : Type 0 where
  pub chunk : List ℕ
  pub floor : ℤ

-- "Length 10: depth and value only; the floor is then -1,000,000,000 and the ceiling 1,000,000,000"
abbrev pub old_floor : ℤ
old_floor = negsuc 999_999_999

abbrev pub short_then : (l : ℤ) → List ℕ → Fields
short_then l s = record { kind = kind.Open; length = 10; depth = le_at 2 s 4; value = i32_at s 6; floor = l; ceiling = default_ceiling; batch = 0 }

-- READING WHILE SHORT RECORDS HAD FLOOR l. The first record: if it is a short one it has that floor, and any other is read as now.
unfoldable pub read_then : (l : ℤ) → List ℕ → Outcome Fields
read_then l s = cond (eqb (le_at 2 s 2) 1 && eqb (le_at 2 s 0) 10) (whole s (short_then l s)) (read_of s)

-- The records of s, at most n of them, and all of them.
unfoldable pub read_then_in : (l : ℤ) → ℕ → List ℕ → Outcome (List Fields)
read_then_in l zero [] = granted []
read_then_in l zero (b ∷ s) = refused 3
read_then_in l (suc n) [] = granted []
read_then_in l (suc n) (b ∷ s) = and_then (read_then l (b ∷ s)) (λ f. read_then_in l n (drop f.length (b ∷ s)))

-- What was read of the chunk, its records, the summary that was sent for them, and what they said as a whole log.
abbrev pub fields_then : Sent → Outcome (List Fields)
fields_then s = read_then_in s.floor (length s.chunk) s.chunk

unfoldable pub records_then : Sent → List (Record Amounts)
records_then s = chunk_of (fields_found (fields_then s))

abbrev pub sent_bytes : (mode : ℕ) → Sent → List ℕ
sent_bytes mode s = summary_bytes mode (records_then s)

abbrev pub said_then : (mode : ℕ) → Sent → Outcome ℤ
said_then mode s = log_outcome mode (records_then s)

-- Its records were readable, and the floor is one that a record can have.
pub record IsSent (s : Sent) : Type 0 where
  pub bytes : AllBytes s.chunk
  pub readable : (fs : List Fields) × (fields_then s ≡ granted fs)
  pub floor-fits : within s.floor ≡ true

abbrev pub AllSent : List Sent → Type 0
AllSent [] = Unit {0}
AllSent (s ∷ ss) = IsSent s × AllSent ss

-- "Both send length 18 from now on": a short record in full, with floor l; and so the whole chunk, and the log of several, in which each record has the floor
-- with which it was summarised.
abbrev pub at_length18 : (l : ℤ) → Fields → Fields
at_length18 l f = cond (eqb f.length 10) (full_fields f.depth f.value l f.ceiling) f

unfoldable pub in_full : Sent → List ℕ
in_full s = chunk_bytes (map (at_length18 s.floor) (fields_read s.chunk))

abbrev pub full_log : List Sent → List ℕ
full_log sent = joined (map in_full sent)

module _ (mode : ℕ) (sent : List Sent) where
  -- The row of what was sent, some of it before the change and some since.
  abbrev pub sent_row : List (List ℕ)
  sent_row = map (sent_bytes mode) sent

  -- The plan of a well-formed log, taken from that row, and the work along it: as `Planned` has them.
  pub record SentPlan : Type 0 where
    pub lines : List Line
    pub described : IsPlan (map records_then sent) lines
    pub only : (ls : List Line) → IsPlan (map records_then sent) ls → ls ≡ lines
    pub one_line : (i j : ℕ) → i < j → AreJoined (map records_then sent) i j ↔ (length (lines_for i j lines) ≡ 1)
    pub no_line : (i j : ℕ) → i < j → (AreJoined (map records_then sent) i j → ⊥) ↔ (length (lines_for i j lines) ≡ 0)
    pub few : length lines + 3 ≤ 2 * length sent
    pub plan : (cap : ℕ) → plan_outcome (end_to_end sent_row) cap ≡ written cap (lines_bytes lines)
    pub work : work_outcome (end_to_end sent_row) ≡ on_result (λ f. record { figure = f; joins = joins lines; levels = folded lines }) (log_says mode (full_log sent))

  -- What was sent says of the log in full what `Claimed` says of a row that is summarised today. In full a chunk may be longer than 65,536 bytes.
  pub record KeepMeaning (merges : List (Call Lent)) : Type 0 where
    -- in full the chunks have the records that were then read, and the summaries that were sent, byte for byte
    pub records : map records_read (map in_full sent) ≡ map records_then sent
    pub log-records : records_read (full_log sent) ≡ joined (map records_then sent)
    pub summaries : map (stretch_bytes mode) (map in_full sent) ≡ sent_row
    -- what the log says: its lowest-numbered fault or, where it is well formed, the recursion's figure
    pub fault : (n : ℕ) → (log_says mode (full_log sent) ≡ refused n) ↔ LowestFault (records_read (full_log sent)) n
    pub recursion : WellFormed (records_read (full_log sent)) → Recursion mode (full_log sent)
    -- the stretches after the whole list: each is readable, and joined they are the log
    pub readable : (s : List ℕ) → Memᴰ s (replay (on_stretches mode) merges (map in_full sent)) → (fs : List Fields) × (records_of s ≡ granted fs)
    pub stretches : joined (replay (on_stretches mode) merges (map in_full sent)) ≡ full_log sent
    -- each merge answers 12, or the summary's length; each piece is byte for byte the summary of its stretch
    pub answered : told merges sent_row ≡ map (on_result (λ s. length (stretch_bytes mode s))) (answers (on_stretches mode) merges (map in_full sent))
    pub pieces : replay by_calls merges sent_row ≡ map (stretch_bytes mode) (replay (on_stretches mode) merges (map in_full sent))
    -- where one piece is left, finish says what the log says; and so does the work along the plan
    pub finished : (p : List ℕ) → replay by_calls merges sent_row ≡ p ∷ [] → finish_outcome p ≡ log_says mode (full_log sent)
    pub worked : RowSize (length sent) → on_result (λ w. w.figure) (work_outcome (end_to_end sent_row)) ≡ log_says mode (full_log sent)
    -- the plan: of a well-formed log its lines, of any other its fault; of another number of summaries both answer 4
    pub planned : RowSize (length sent) → WellFormed (records_read (full_log sent)) → SentPlan
    pub plan-refused : RowSize (length sent) → (n : ℕ) → LowestFault (records_read (full_log sent)) n → (cap : ℕ) → plan_outcome (end_to_end sent_row) cap ≡ refused n
    pub row-refused : (RowSize (length sent) → ⊥) → ((cap : ℕ) → plan_outcome (end_to_end sent_row) cap ≡ refused 4) × (work_outcome (end_to_end sent_row) ≡ refused 4)

-- ---- which figures do not move, whichever chunk was sent with which floor

-- The log as it would be read today.
abbrev pub log_now : List Sent → List ℕ
log_now sent = joined (map (λ (s : Sent). s.chunk) sent)

-- "Net", "heaviest line" and "stamp" have no floor.
pub record ValuesAlone (sent : List Sent) : Type 0 where
  pub net : log_says 1 (full_log sent) ≡ log_says 1 (log_now sent)
  pub heaviest : log_says 2 (full_log sent) ≡ log_says 2 (log_now sent)
  pub stamp : log_says 4 (full_log sent) ≡ log_says 4 (log_now sent)

-- No value is negative, and no ceiling.
abbrev pub NothingNegative : List Fields → Type 0
NothingNegative [] = Unit {0}
NothingNegative (f ∷ fs) = (pos 0 ≤ℤ f.value) × (pos 0 ≤ℤ f.ceiling) × NothingNegative fs

-- Short records had no floor above 0.
abbrev pub LowFloors : List Sent → Type 0
LowFloors [] = Unit {0}
LowFloors (s ∷ ss) = (s.floor ≤ℤ pos 0) × LowFloors ss
