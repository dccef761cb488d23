-- Document 02, L2: what is claimed of two logs that differ in batches only. Definitions only.
use Rattle.std.specs.Prelude.{◌≡◌, List, [], ◌∷◌, ℕ}
use Rattle.hill.specs.Row.{Call, replay}
use Rattle.summary.specs.Outcomes.{summarise_outcome}
use Rattle.chunk.specs.Chunk.{whole_log}
use Rattle.outcome.specs.Day.{day_outcome}
use Rattle.day_table.specs.Outcomes.{read_table_outcome}
use Rattle.log_records.specs.Line.{heaviest_line_outcome}
use Rattle.day_sheet.specs.Sheet.{sheet_outcome}
use Rattle.common_record.specs.Common.{common_outcome}
use Rattle.claim.specs.Claim.{records_read, stretch_bytes, log_says, IsCut, Lent, by_calls, start_row, AreMerges}

-- "All other calls drop it": what summarise and every call on a whole log come to is the same for both, whatever room they are lent.
pub record SameAnswers (a b : List ℕ) : Type 0 where
  pub summarise : (mode cap : ℕ) → summarise_outcome a mode cap ≡ summarise_outcome b mode cap
  -- a call on a whole log answers from this alone: the log's records, or a refusal
  pub whole : whole_log a ≡ whole_log b
  pub day : day_outcome a ≡ day_outcome b
  pub read_table : (cap : ℕ) → read_table_outcome a cap ≡ read_table_outcome b cap
  pub heaviest-line : (cap : ℕ) → heaviest_line_outcome a cap ≡ heaviest_line_outcome b cap
  pub sheet : (mode page cap : ℕ) → sheet_outcome a mode page cap ≡ sheet_outcome b mode page cap
  pub common : (x y : ℕ) → common_outcome a x y ≡ common_outcome b x y

-- What demand 3 says of one it says of the other, however long they are.
pub record SameClaim (mode : ℕ) (a b : List ℕ) : Type 0 where
  -- its records, of which it says who closes and holds whom, the tree, the faults and the plan
  pub records : records_read a ≡ records_read b
  -- "Have equal summaries", and equal figures or the same fault
  pub summary : stretch_bytes mode a ≡ stretch_bytes mode b
  pub says : log_says mode a ≡ log_says mode b
  -- cut at the same places they start the same row, from which every merge, finish, the plan, its runs and the work along it are taken
  pub row : (places : List ℕ) (buffers buffers' : List (List ℕ)) → IsCut mode a places buffers → IsCut mode b places buffers' → start_row mode a places buffers ≡ start_row mode b places buffers'
  -- cut and merged in any two ways, where one piece of each is left, it is the same piece
  pub piece : (places places' : List ℕ) (buffers buffers' : List (List ℕ)) (merges merges' : List (Call Lent)) → IsCut mode a places buffers → IsCut mode b places' buffers'
      → AreMerges mode a places buffers merges → AreMerges mode b places' buffers' merges' → (p q : List ℕ) → replay by_calls merges (start_row mode a places buffers) ≡ p ∷ []
      → replay by_calls merges' (start_row mode b places' buffers') ≡ q ∷ [] → p ≡ q
