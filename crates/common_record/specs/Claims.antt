-- What is claimed of the record that two have in common, by places in the log. Definitions only.
use Rattle.std.specs.Prelude.{◌≡◌, ◌⊎◌, ◌↔◌, List, ℕ, ◌≤◌, ◌<◌}
use Rattle.gate.specs.Outcome.{refused, granted}
use Rattle.modes.specs.FourModes.{Amounts}
use Rattle.hill.specs.Log.{Record, opened_of}
use Rattle.hill.specs.Closing.{OpensAt, ClosedBy, Holds}
use Rattle.chunk.specs.Chunk.{whole_log}
use Rattle.log_records.specs.Numbers.{IsRecord}
use Rattle.common_record.specs.Common.{common_number, common_outcome}

-- "Is each of them or holds it", at any depth: the record opened at p is the one opened at q, or directly holds one that is it or holds it. It is the smallest
-- such relation (`HoldingLaws.smallest-relation`).
pub data IsOrHolds {R : Type 0} (log : List (Record R)) : (p q : ℕ) → Type 0 where
  itself : (p d : ℕ) → OpensAt log p d → IsOrHolds log p p
  through : (p m q d : ℕ) → Holds log p m d → IsOrHolds log m q → IsOrHolds log p q

-- The same on a well-formed log (`HoldingLaws.is-or-holds`), of a record opened at q: the one opened at p is opened not after it and closed after it.
pub record Encloses {R : Type 0} (log : List (Record R)) (p q : ℕ) : Type 0 where
  pub depth : ℕ
  pub close : ℕ
  pub closed : ClosedBy log p close depth
  pub not_after : p ≤ q
  pub after : q < close

-- Record n is "the deepest record that is each of them or holds it", of records a and b; "no deeper record may have the property".
pub record InCommon {R : Type 0} (log : List (Record R)) (a b n : ℕ) : Type 0 where
  pub place-a : ℕ
  pub depth-a : ℕ
  pub record-a : IsRecord log a place-a depth-a
  pub place-b : ℕ
  pub depth-b : ℕ
  pub record-b : IsRecord log b place-b depth-b
  pub place : ℕ
  pub depth : ℕ
  pub is-record : IsRecord log n place depth
  pub with-a : IsOrHolds log place place-a
  pub with-b : IsOrHolds log place place-b
  pub deepest : (k e : ℕ) → OpensAt log k e → IsOrHolds log k place-a → IsOrHolds log k place-b → e ≤ depth

-- Exactly one record is that. And it is "the smallest record that holds both": each that is or holds both of them is this one or holds it.
pub record OneInCommon {R : Type 0} (log : List (Record R)) (a b n : ℕ) : Type 0 where
  pub is : InCommon log a b n
  pub only : (m : ℕ) → InCommon log a b m → m ≡ n
  pub smallest : (k : ℕ) → IsOrHolds log k is.place-a → IsOrHolds log k is.place-b → IsOrHolds log k is.place
  -- it is one of the two exactly where that one is the other or holds it
  pub own-a : (n ≡ a) ↔ IsOrHolds log is.place-a is.place-b
  pub own-b : (n ≡ b) ↔ IsOrHolds log is.place-b is.place-a

-- "Turned away": the log's faults first, by their numbers. Then 19, exactly "when either number is not below the opened count" of a log that is let through. All
-- else is answered with the record in common.
pub record TurnsAway (log : List ℕ) (a b : ℕ) : Type 0 where
  pub by-fault : (n : ℕ) → whole_log log ≡ refused n → common_outcome log a b ≡ refused n
  pub by_number : (common_outcome log a b ≡ refused 19) ↔ ((xs : List (Record Amounts)) × (whole_log log ≡ granted xs) × ((opened_of xs ≤ a) ⊎ (opened_of xs ≤ b)))
  pub else-named : (xs : List (Record Amounts)) → whole_log log ≡ granted xs → a < opened_of xs → b < opened_of xs
      → OneInCommon xs a b (common_number xs a b) × (common_outcome log a b ≡ granted (common_number xs a b))

-- What the call answers: the record that two records have in common, of a log that was let through.
pub record Names (log : List ℕ) (a b n : ℕ) : Type 0 where
  pub records : List (Record Amounts)
  pub let_through : whole_log log ≡ granted records
  pub below-a : a < opened_of records
  pub below-b : b < opened_of records
  pub in-common : OneInCommon records a b n

-- "It must be the same either way round", which refusal is given too; and "a number given twice names itself".
pub record EitherWay (log : List ℕ) : Type 0 where
  pub same : (a b : ℕ) → common_outcome log a b ≡ common_outcome log b a
  pub twice : (xs : List (Record Amounts)) → whole_log log ≡ granted xs → (a : ℕ) → a < opened_of xs → common_outcome log a a ≡ granted a
