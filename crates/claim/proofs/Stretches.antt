-- Stretches: chunks joined are readable where the chunks are, and have the chunks' records, joined. Assumes nothing.
use Rattle.std.specs.Prelude.{◌≡◌, ℕ, zero, suc, take, drop}
use Rattle.std.proofs.Common.{sym, subst, ◌∙◌, inl, inr}
use Rattle.std.proofs.Math.Path.{ap}
use mathlib.Core.List.Memᴰ
use mathlib.Core.List.{List, [], ◌∷◌, ◌++◌, map, map-append, Memᴰ}
use Rattle.gate.specs.Outcome.{granted}
use Rattle.record.specs.Record.{records_of}
use Rattle.record.proofs.Laws.{onto, records-nil}
use Rattle.record.proofs.Joined.{records-append}
use Rattle.record.specs.declared.Fields.{Fields}
use Rattle.hill.specs.Row.{joined}
use Rattle.summary.proofs.MergeBytes.{Readables}
use Rattle.chunk.specs.Chunk.{record_of, chunk_of}
use Rattle.summary.proofs.OutcomeLaws.{chunk-readable}
use Rattle.claim.specs.Claim.{fields_found, fields_read, records_read}

-- The bytes are readable.
abbrev pub Reads : List ℕ → Type 0
Reads s = (fs : List Fields) × (records_of s ≡ granted fs)

pub fields-found : (s : List ℕ) (fs : List Fields) → records_of s ≡ granted fs → fields_read s ≡ fs
unfolding fields_read
fields-found s fs e = ap fields_found e

pub found : (s : List ℕ) (fs : List Fields) → records_of s ≡ granted fs → records_read s ≡ chunk_of fs
unfolding records_read
found s fs e = ap chunk_of (fields-found s fs e)

pub reads-readable : (m : ℕ) (s : List ℕ) → Reads s → Readables m (records_read s)
reads-readable m s r = rw (found s r.0 r.1) (chunk-readable m s r.0 r.1)

-- ---- two chunks joined

module _ (a b : List ℕ) (p : Reads a) (q : Reads b) where
  pub append-fields : records_of (a ++ b) ≡ granted (p.0 ++ q.0)
  unfolding onto
  append-fields = records-append a b p.0 p.1 ∙ ap (onto p.0) q.1

  reads-append : Reads (a ++ b)
  reads-append = (p.0 ++ q.0, append-fields)

  pub in-append : records_read (a ++ b) ≡ records_read a ++ records_read b
  in-append =
      found (a ++ b) (p.0 ++ q.0) append-fields ∙ map-append record_of p.0 q.0 ∙
      rw (found a p.0 p.1, found b q.0 q.1)

-- ---- a row of them

abbrev pub AllRead : List (List ℕ) → Type 0
AllRead [] = Unit {0}
AllRead (s ∷ st) = Reads s × AllRead st

pub read-each : (st : List (List ℕ)) → AllRead st → (s : List ℕ) → Memᴰ s st → Reads s
read-each [] a s m = absurd (Memᴰ.not-nil m)
read-each (t ∷ st) a s m =
    elim (Memᴰ.cases_cons m) [
      | inl e ↦ subst Reads (sym e) a.0
      | inr n ↦ read-each st a.1 s n
    ]

pub reads-joined : (st : List (List ℕ)) → AllRead st → Reads (joined st)
reads-joined [] a = ([], records-nil)
reads-joined (s ∷ st) a = reads-append s (joined st) a.0 (reads-joined st a.1)

pub in-joined : (st : List (List ℕ)) → AllRead st → records_read (joined st) ≡ joined (map records_read st)
in-joined [] a = found [] [] records-nil
in-joined (s ∷ st) a = rw (in-append s (joined st) a.0 (reads-joined st a.1), in-joined st a.1)

pub read_take : (n : ℕ) (st : List (List ℕ)) → AllRead st → AllRead (take n st)
read_take zero st a = tt
read_take (suc n) [] a = tt
read_take (suc n) (s ∷ st) a = (a.0, read_take n st a.1)

pub read-drop : (n : ℕ) (st : List (List ℕ)) → AllRead st → AllRead (drop n st)
read-drop zero st a = a
read-drop (suc n) [] a = tt
read-drop (suc n) (s ∷ st) a = read-drop n st a.1

pub read-append : (st ts : List (List ℕ)) → AllRead st → AllRead ts → AllRead (st ++ ts)
read-append [] ts a b = b
read-append (s ∷ st) ts a b = (a.0, read-append st ts a.1 b)
