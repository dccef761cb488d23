-- Document 02, L3: what is claimed of mode 5, in plain numbers, by the trees of the recursion and by places in the log; and of a mode out of use. Definitions only.
use Rattle.std.specs.Prelude.{◌≡◌, ◌⊎◌, ℕ, ◌≤◌, length, ℤ, pos, ◌+ℤ◌}
use mathlib.Core.List.{List, [], ◌∷◌, map, Memᴰ}
use Rattle.gate.specs.Outcome.{refused, granted}
use Rattle.number.specs.Integer.{clamp}
use Rattle.row.specs.Row.{row_pieces}
use Rattle.modes.specs.FourModes.{Amounts, eaten}
use Rattle.modes.specs.Run.{addend}
use Rattle.hill.specs.Log.{Record}
use Rattle.hill.specs.Closing.{Holds, Places}
use Rattle.hill.specs.Tree.{Forest, nil, tree, write}
use Rattle.hill.specs.Figure.{figure_at}
use Rattle.hill.specs.Row.{Call, replay, on_result}
use Rattle.summary.specs.Judge.{mode_at}
use Rattle.summary.specs.Outcomes.{summarise_outcome, merge_outcome, finish_outcome}
use Rattle.outcome.specs.Outcomes.{merge_row_outcome, plan_outcome, runs_outcome, work_outcome}
use Rattle.day_sheet.specs.Sheet.{sheet_outcome}
use Rattle.valley_station.specs.Station.{Station, held, fresh_outcome, send_outcome, end_outcome}
use Rattle.claim.specs.Claim.{records_read, Lent, by_calls, RowSize, chunks, start_row, lent_row}

-- The figures of trees side by side, added. "Counts such a record as it is": one that holds nothing is its value;
-- "floor and ceiling bind only a record that holds others".
abbrev pub eaten_trees : Forest Amounts → ℤ
eaten_trees nil = pos 0
eaten_trees (tree r nil f) = r.value +ℤ eaten_trees f
eaten_trees (tree r (tree s k g) f) = clamp (r.value +ℤ eaten_trees (tree s k g)) r.floor r.ceiling +ℤ eaten_trees f

abbrev pub summed : List ℤ → ℤ
summed [] = pos 0
summed (z ∷ zs) = z +ℤ summed zs

-- The same by places. Where the record opened at place p counts f p, this is so of the record r, opened at place p and of depth d.
pub record TakenAtValue (f : ℕ → ℤ) (log : List (Record Amounts)) (p d : ℕ) (r : Amounts) : Type 0 where
  -- it holds nothing
  pub alone : ((q : ℕ) → Holds log p q d → ⊥) → f p ≡ r.value
  -- it holds others, one at q, all of them at qs
  pub bound : (q : ℕ) → Holds log p q d → (qs : List ℕ) → Places (λ k. Holds log p k d) qs → f p ≡ clamp (r.value +ℤ summed (map f qs)) r.floor r.ceiling

-- The recursion's figure of the record opened at place p, as a number.
abbrev pub eaten_at : List (Record Amounts) → (p : ℕ) → ℤ
eaten_at log p = addend (figure_at eaten log p)

-- "Any cutting and any plan must still lead to the recursion, now with this leaf rule": of a well-formed log, its cut and a list of merges.
pub record LeadsToRecursion (log places : List ℕ) (buffers : List (List ℕ)) (merges : List (Call Lent)) : Type 0 where
  -- the log's tree, and what the record that it begins with counts
  pub root : Amounts
  pub below : Forest Amounts
  pub traversal : write 0 (tree root below nil) ≡ records_read log
  pub by_place : eaten_at (records_read log) 0 ≡ eaten_trees (tree root below nil)
  -- finish of the one piece that is left, and the work along the plan
  pub finished : (p : List ℕ) → replay by_calls merges (start_row 5 log places buffers) ≡ p ∷ [] → finish_outcome p ≡ granted (eaten_trees (tree root below nil))
  pub worked : RowSize (length (chunks 5 log places buffers)) → on_result (λ w. w.figure) (work_outcome (lent_row 5 log places buffers)) ≡ granted (eaten_trees (tree root below nil))

-- "Mode 3 gets 1 as an argument and 5 within a summary": of a mode m that is out of use, whatever else there is.
pub record OutOfUse (m : ℕ) : Type 0 where
  pub argument : (chunk : List ℕ) (cap : ℕ) → summarise_outcome chunk m cap ≡ refused 1
  pub printed : (log : List ℕ) (page cap : ℕ) → sheet_outcome log m page cap ≡ refused 1
  pub merged : (a b : List ℕ) (cap : ℕ) → (mode_at a ≡ m) ⊎ (mode_at b ≡ m) → merge_outcome a b cap ≡ refused 5
  pub finished : (b : List ℕ) → mode_at b ≡ m → finish_outcome b ≡ refused 5
  -- a row with a piece p of this mode
  pub row : (b : List ℕ) → RowSize (length (row_pieces b)) → (p : List ℕ) → Memᴰ p (row_pieces b) → mode_at p ≡ m → (cap : ℕ)
      → (merge_row_outcome b cap ≡ refused 5) × (plan_outcome b cap ≡ refused 5) × (runs_outcome b cap ≡ refused 5) × (work_outcome b ≡ refused 5)

-- The same of a valley station's calls: of a mode m that is out of use, whatever the station holds.
pub record OutOfUseAtStations (m : ℕ) : Type 0 where
  pub started : fresh_outcome m ≡ refused 1
  pub sent : (st : Station) (farm : ℕ) (b : List ℕ) → farm ≤ 7 → (mode_at (held st farm) ≡ m) ⊎ (mode_at b ≡ m) → send_outcome st farm b ≡ refused 5
  pub ended : (st : Station) (farm cap : ℕ) → farm ≤ 7 → mode_at (held st farm) ≡ m → end_outcome st farm cap ≡ refused 5
