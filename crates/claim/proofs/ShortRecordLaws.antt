-- Document 02, L8: a short record counts from 0, and a day that begins with one that holds another is not negative. Assumes nothing.
use Rattle.std.specs.Prelude.{◌≡◌, refl, List, [], ◌∷◌, ℕ, zero, suc, get_or, pos}
use Rattle.std.proofs.Common.{sym, ap, subst, ◌∙◌, arith}
use Rattle.std.proofs.Math.ListN.{get_or-map}
use Rattle.gate.specs.Outcome.{granted}
use Rattle.number.specs.IntegerLaws.{clamp-low, clamp-high, nat_le}
use Rattle.record.specs.Record.{read_of, records_of, short_fields, close_fields}
use Rattle.record.proofs.Laws.{short-is}
use Rattle.record.proofs.Readable.{Each, each_read}
use Rattle.record.specs.declared.Fields.{Fields}
use Rattle.modes.specs.FourModes.{Amounts}
use Rattle.figure.specs.Stored.{amounts}
use Rattle.hill.specs.Log.{Record, opening}
use Rattle.hill.specs.Closing.{at, Holds}
use Rattle.hill.proofs.HeldPlaces.{held-listed}
use Rattle.chunk.specs.Chunk.{record_of, chunk_of}
use Rattle.claim.specs.Claim.{records_read, WellFormed, Recursion}
use Rattle.claim.proofs.Stretches.{found}
use Rattle.claim.specs.Drops.{TakenAtValue, eaten_at}
use Rattle.claim.proofs.Demand3.{recursion}
use Rattle.claim.proofs.DropLaws.{taken-at-value, eaten-says, first-place}
use Rattle.claim.specs.ShortRecords.{ShortCounts, FromZero}

-- ---- a short record counts from 0

-- as it is read
abbrev pub Starts : Fields → Type 0
Starts f = f.length ≡ 10 → f ≡ short_fields f.depth f.value

pub starts : (s : List ℕ) (f : Fields) → read_of s ≡ granted f → Starts f
starts s f e = short-is s f e

starts-at : (fs : List Fields) (p : ℕ) → Each Starts fs → Starts (get_or fs p (close_fields 0))
starts-at [] p h l = absurd (omega arith)
starts-at (f ∷ fs) zero h l = h.0 l
starts-at (f ∷ fs) (suc p) h l = starts-at fs p h.1 l

-- SHORT RECORDS START FROM ZERO: of the record at place p of a log, if it has length 10.
pub short-counts : (log : List ℕ) (fs : List Fields) → records_of log ≡ granted fs → (p : ℕ) (f : Fields) → get_or fs p (close_fields 0) ≡ f → f.length ≡ 10 → ShortCounts (chunk_of fs) p f.depth f.value
short-counts log fs e p f i l =
    let s : f ≡ short_fields f.depth f.value = subst Starts i (starts-at fs p (each_read Starts starts fs log e)) l in
    let a : Amounts = amounts f.value (pos 0) (pos 1_000_000_000) in
    let here : at (chunk_of fs) p ≡ opening f.depth a = get_or-map record_of fs p (close_fields 0) ∙ ap record_of (i ∙ s) in
    let t : TakenAtValue (eaten_at (chunk_of fs)) (chunk_of fs) p f.depth a = taken-at-value (chunk_of fs) p f.depth a here in
    record {
      counts = t;
      between = λ q h.
          rw (t.bound q h _ (held-listed (chunk_of fs) p f.depth (a, here)))
          (clamp-low _ (pos 0) (pos 1_000_000_000) (nat_le (omega arith)), clamp-high _ (pos 0) (pos 1_000_000_000));
    }

-- So there is no negative day whose first record is short and holds another.
pub from_zero : (log : List ℕ) (f : Fields) (fs : List Fields) → records_of log ≡ granted (f ∷ fs) → WellFormed (chunk_of (f ∷ fs)) → f.length ≡ 10 → (q : ℕ) → Holds (chunk_of (f ∷ fs)) 0 q f.depth → FromZero log
from_zero log f fs e w l q h =
    let r : records_read log ≡ chunk_of (f ∷ fs) = found log (f ∷ fs) e in
    let t : Recursion 5 log = recursion 5 log (f ∷ fs, e) (rw r w) in
    record {
      eaten = eaten_at (chunk_of (f ∷ fs)) 0;
      says = eaten-says log t ∙ ap granted (sym (first-place log t) ∙ ap (λ (xs : List (Record Amounts)). eaten_at xs 0) r);
      between = (short-counts log (f ∷ fs) e 0 f refl l).between q h;
    }
