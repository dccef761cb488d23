-- All small days: the records of each log, their bytes, and what the call comes to. Definitions only.
use Rattle.std.specs.Prelude.{◌&&◌, List, [], ◌∷◌, ◌++◌, map, ℕ, zero, suc, leb, pos}
use Rattle.gate.specs.Outcome.{Outcome, question, written}
use Rattle.record.specs.Record.{short_fields, close_fields, chunk_bytes}
use Rattle.record.specs.declared.Fields.{Fields}
use Rattle.hill.specs.Row.{joined}

-- "Short open records, each value 1."
abbrev pub open_one : (depth : ℕ) → Fields
open_one depth = short_fields depth (pos 1)

-- How a log can go on from a level with `left` records still to open. At level 0 it is over. Above, "an open before a close": first all the ways that
-- open a record, then all that close one.
unfoldable pub ways : (left level : ℕ) → List (List Fields)
ways zero zero = [] ∷ []
ways (suc left) zero = []
ways zero (suc level) = map (λ fs. close_fields level ∷ fs) (ways zero level)
ways (suc left) (suc level) = map (λ fs. open_one (suc level) ∷ fs) (ways left (suc (suc level))) ++ map (λ fs. close_fields level ∷ fs) (ways (suc left) level)

-- The logs that open n records, by their records: the first record opens at depth 0.
unfoldable pub days : ℕ → List (List Fields)
days zero = []
days (suc n) = map (λ fs. open_one 0 ∷ fs) (ways n 1)

-- Their bytes, log by log. `DayLaws.are-small-days` says which logs these are, and `only-small-days` that there is no other such list.
unfoldable pub small_days : ℕ → List (List ℕ)
small_days n = map chunk_bytes (days n)

-- WRITING ALL SMALL DAYS, "one log after another". "Turned away: 14, before all else, when n is outside 1 to 8; a short buffer gets 12 with nothing
-- written."
unfoldable pub small_days_outcome : (n cap : ℕ) → Outcome (List ℕ)
small_days_outcome n cap = question 14 (leb 1 n && leb n 8) (written cap (joined (small_days n)))
