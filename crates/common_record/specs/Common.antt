-- The record that two have in common, and what asking for it comes to: document 02, L10. Definitions only; `CommonLaws.one-in-common` says that it is the one
-- that Claims describes.
use Rattle.std.specs.Prelude.{Bool, false, not, cond, ◌&&◌, List, ℕ, zero, suc, ◌-◌, leb, ltb, length, take, drop}
use Rattle.gate.specs.Outcome.{Outcome, granted, question, onward}
use Rattle.modes.specs.FourModes.{Amounts}
use Rattle.hill.specs.Log.{Record, opening, closing, depth, opened_of}
use Rattle.hill.specs.Closing.{at}
use Rattle.hill.specs.Summary.{closed_in}
use Rattle.chunk.specs.Chunk.{whole_log}
use Rattle.log_records.specs.Numbers.{number_at, place_of}

module _ {R : Type 0} where
  -- An open, and no close at its depth among the records after it.
  abbrev pub stays_open : Record R → (after : List (Record R)) → Bool
  stays_open (opening d r) after = not (closed_in d after)
  stays_open (closing d) after = false

  -- "Is each of them or holds it", as a test: a record is opened at p, not after q, and not closed up to q (`HoldingLaws.is-or-holds`).
  abbrev pub open_up_to : List (Record R) → (p q : ℕ) → Bool
  open_up_to log p q = leb p q && stays_open (at log p) (take (q - p) (drop (suc p) log))

  -- Of the records at two places, the deeper one; the first where neither is.
  abbrev pub deeper_of : List (Record R) → (p q : ℕ) → ℕ
  deeper_of log p q = cond (ltb (depth (at log p)) (depth (at log q))) q p

  -- "The deepest record that is each of them or holds it", of the two opened at p and q, among those up to place n. The root, at place 0, is or holds any.
  unfoldable pub deepest_up_to : List (Record R) → (p q n : ℕ) → ℕ
  deepest_up_to log p q zero = 0
  deepest_up_to log p q (suc n) = cond (open_up_to log (suc n) p && open_up_to log (suc n) q) (deeper_of log (deepest_up_to log p q n) (suc n)) (deepest_up_to log p q n)

  -- THE RECORD THAT RECORDS a AND b HAVE IN COMMON, by its number.
  unfoldable pub common_number : List (Record R) → (a b : ℕ) → ℕ
  common_number log a b = number_at log (deepest_up_to log (place_of log a) (place_of log b) (length log))

-- "19, after the log's faults, when either number is not below the opened count."
abbrev pub numbers_outcome : (a b : ℕ) → List (Record Amounts) → Outcome ℕ
numbers_outcome a b xs = question 19 (ltb a (opened_of xs) && ltb b (opened_of xs)) (granted (common_number xs a b))

-- ASKING FOR IT, "for a well-formed log of one chunk and two record numbers".
unfoldable pub common_outcome : (log : List ℕ) (a b : ℕ) → Outcome ℕ
common_outcome log a b = onward (whole_log log) (numbers_outcome a b)
