-- Who closes whom, who holds whom, and the levels reached, by places in the log. Definitions only.
use Rattle.std.specs.Prelude.{◌≡◌, ◌≢◌, ◌⊎◌, ℕ, suc, ◌<◌, length, get_or}
use mathlib.Core.List.{List, Memᴰ}
use Rattle.hill.specs.Log.{Record, opening, closing, start_level, end_level}
use Rattle.hill.specs.Sorted.{Sorted}

module _ {R : Type 0} where
  -- The record at place k of a log, counted from 0. Past the end it is a close, so that an open stands inside the log.
  abbrev pub at : List (Record R) → ℕ → Record R
  at log k = get_or log k (closing 0)

  -- An open at depth d stands at place p.
  abbrev pub OpensAt : List (Record R) → (p d : ℕ) → Type 0
  OpensAt log p d = (r : R) × (at log p ≡ opening d r)

  -- A level that a record of the chunk starts or ends at.
  abbrev pub Reached : List (Record R) → ℕ → Type 0
  Reached chunk l = (k : ℕ) × (k < length chunk) × ((start_level (at chunk k) ≡ l) ⊎ (end_level (at chunk k) ≡ l))

-- "The first close at depth d after an open at depth d closes it": the one at q closes the one at p.
pub record ClosedBy {R : Type 0} (log : List (Record R)) (p q d : ℕ) : Type 0 where
  pub order : p < q
  pub inside : q < length log
  pub opened : OpensAt log p d
  pub closed : at log q ≡ closing d
  pub first : (k : ℕ) → p < k → k < q → at log k ≢ closing d

-- "The record directly holds those opened at depth d+1 between the two, or, if no such close follows, after the open":
-- the one opened at p, of depth d, holds the one opened at q.
pub record Holds {R : Type 0} (log : List (Record R)) (p q d : ℕ) : Type 0 where
  pub holder : OpensAt log p d
  pub held : OpensAt log q (suc d)
  pub after : p < q
  pub before : (c : ℕ) → ClosedBy log p c d → q < c

-- The record opened at p, of depth d, is closed in the log.
abbrev pub Closed : {R : Type 0} → List (Record R) → (p d : ℕ) → Type 0
Closed log p d = (q : ℕ) × ClosedBy log p q d

-- "The records at its level that are both opened and closed in the chunk and held by none that the chunk opens": the one at q, of depth l.
pub record Loose {R : Type 0} (chunk : List (Record R)) (l q : ℕ) : Type 0 where
  pub opened : OpensAt chunk q l
  pub closed : Closed chunk q l
  pub free : (p d : ℕ) → Holds chunk p q d → ⊥

-- The places with P are exactly ps, in log order.
pub record Places (P : ℕ → Type 0) (ps : List ℕ) : Type 0 where
  pub rising : Sorted ◌<◌ ps
  pub all : (p : ℕ) → P p → Memᴰ p ps
  pub only : (p : ℕ) → Memᴰ p ps → P p
