-- A second pass over a log that was let through: what every such loop keeps. The reader does not refuse, and turn k reads the record at place k. Assumes
-- nothing.
use Rattle.std.specs.Prelude.{◌≡◌, List, ◌∷◌, ℕ, suc, ◌-◌, ◌≤◌, ◌<◌, length, take, drop}
use Rattle.std.proofs.Common.{sym, ap, ◌∙◌, arith, length-drop, drop_of_length-le}
use Rattle.gate.specs.Outcome.{refused, granted}
use Rattle.number.specs.Laws.{part-rest}
use Rattle.record.specs.Record.{read_of, records_of}
use Rattle.record.proofs.Readable as readable
use Rattle.record.specs.declared.Fields.{Fields}
use Rattle.modes.specs.FourModes.{Amounts}
use Rattle.hill.specs.Log.{Record}
use Rattle.hill.specs.Closing.{at}
use Rattle.hill.proofs.Places.{here-inside, here-at, here-rest}
use Rattle.chunk.specs.Chunk.{record_of, chunk_of, IsWellFormed}

-- Of the log's records xs, k are read, and `left` are those in `rest`.
pub record Second (xs : List (Record Amounts)) (rest : List ℕ) (k : ℕ) : Type 0 where
  pub left : List Fields
  pub unread : records_of rest ≡ granted left
  pub from-here : drop k xs ≡ chunk_of left

pub begin : {log : List ℕ} {xs : List (Record Amounts)} → IsWellFormed log xs → Second xs log 0
begin i = record { left = i.fields; unread = i.read; from-here = sym i.records-are }

module _ {xs : List (Record Amounts)} {rest : List ℕ} {k : ℕ} (s : Second xs rest k) where
  -- the reader does not refuse
  pub not-refused : {n : ℕ} → 0 < length rest → read_of rest ≡ refused n → ⊥
  not-refused h e = readable.not-refused rest s.unread h e

  -- one turn
  module _ {f : Fields} (e : read_of rest ≡ granted f) where
    rest-is : drop k xs ≡ record_of f ∷ chunk_of (readable.read_is rest s.unread e).0
    rest-is = s.from-here ∙ ap chunk_of (readable.read_is rest s.unread e).1

    pub inside : k < length xs
    inside = here-inside xs k _ _ rest-is

    pub here : at xs k ≡ record_of f
    here = here-at xs k _ _ rest-is

    pub next : Second xs (take (length rest - f.length) (drop f.length rest)) (suc k)
    next = rw (part-rest f.length rest) record { left = (readable.read_is rest s.unread e).0; unread = (readable.read_is rest s.unread e).2; from-here = here-rest xs k _ _ rest-is }

  -- at the end all are read
  pub ended : length rest ≤ 0 → length xs ≤ k
  ended h = omega (arith, sym (length-drop k xs) ∙ ap length (s.from-here ∙ ap chunk_of (readable.no_more rest s.unread (drop_of_length-le rest {i = 0} h))))
