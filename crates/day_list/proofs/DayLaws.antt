-- The list of small days by their bytes: just the logs that are wanted, each once, in order; there is no other such list. Assumes nothing.
use Rattle.std.specs.Prelude.{◌≡◌, refl, true, ◌↔◌, ℕ, zero, suc, ◌+◌, ◌*◌, ◌≤◌, take, drop, pos}
use Rattle.std.proofs.Common.{sym, ap, ap₂, ◌∙◌, inl, inr, arith, length-append, le-leb}
use Rattle.std.proofs.Math.Path.{subst}
use mathlib.Core.List.Memᴰ
use mathlib.Core.List.{List, [], ◌∷◌, map, Memᴰ}
use Rattle.std.proofs.Math.ListN.{length}
use Rattle.std.proofs.lemmas.List.{length-map}
use Rattle.gate.specs.Outcome.{granted}
use Rattle.number.specs.Bytes.{AllBytes, le_at}
use Rattle.number.specs.FieldLaws.{bytes-nil, bytes-append}
use Rattle.record.specs.Record.{in_range, within, default_floor, default_ceiling, records_of, short_fields, close_fields, fields_bytes, chunk_bytes}
use Rattle.record.proofs.Laws.{Shape, full, short, batched, closed, shape, not-both}
use Rattle.record.proofs.Readable.{First, first_read}
use Rattle.record.proofs.Encoding.{short-length, short-bytes, close-length, close-bytes, chunk-again, Reread, short_back, close-back, AllReread, chunk_read}
use Rattle.record.specs.declared.Fields.{Fields}
use Rattle.record.specs.declared.Kind.TheVariants as kind
use Rattle.hill.specs.Log.{opened_of, log_fault}
use Rattle.hill.specs.Sorted.{Sorted}
use Rattle.hill.proofs.SortedLaws.{sorted-map, sorted-no-duplicates, sorted-unique}
use Rattle.hill.proofs.Levels.{MeetsAbove, log-pairs}
use Rattle.chunk.specs.Chunk.{record_of, chunk_of, whole_log}
use Rattle.chunk.proofs.Laws.{log_is}
use Rattle.day_list.specs.Days.{open_one, days, small_days}
use Rattle.day_list.specs.Claims.{AllShortOnes, IsSmallDay, Lexicographic, DifferAt, Precedes, AreSmallDays}
use Rattle.day_list.proofs.WayLaws.{Plain, opens, closes, AllPlain, IsDay, root-first, day-sound, day-complete, day-order}

-- ---- the bytes of a small day are read back, ..

-- depths that a record can have
abbrev Shallow : List Fields → Type 0
Shallow [] = Unit {0}
Shallow (f ∷ fs) = (f.depth ≤ 63) × Shallow fs

in-range : (d : ℕ) → d ≤ 63 → in_range d (pos 1) default_floor default_ceiling ≡ true
unfolding in_range within
in-range d h = rw (le-leb d 63 h)

plain_back : (f : Fields) → Plain f → f.depth ≤ 63 → Reread f
plain_back f (opens d) h = short_back d (pos 1) (in-range d h)
plain_back f (closes d) h = close-back d h

all_back : (fs : List Fields) → AllPlain fs → Shallow fs → AllReread fs
all_back [] p s = tt
all_back (f ∷ fs) p s = (plain_back f p.0 s.0, all_back fs p.1 s.1)

plain-bytes : (f : Fields) → Plain f → AllBytes (fields_bytes f)
plain-bytes f (opens d) = short-bytes d (pos 1)
plain-bytes f (closes d) = close-bytes d

chunk-bytes : (fs : List Fields) → AllPlain fs → AllBytes (chunk_bytes fs)
chunk-bytes [] p = bytes-nil
chunk-bytes (f ∷ fs) p = bytes-append (fields_bytes f) (chunk_bytes fs) (plain-bytes f p.0) (chunk-bytes fs p.1)

-- a log of at most 64 opened records is shallow
way-shallow : (fs : List Fields) (l : ℕ) → MeetsAbove l (chunk_of fs) → AllPlain fs → l + opened_of (chunk_of fs) ≤ 64 → Shallow fs
way-shallow [] l s p h = tt
way-shallow (f ∷ fs) l s (opens d, p) h = (omega (arith, s.0), way-shallow fs (suc d) s.2 p (omega (arith, s.0)))
way-shallow (f ∷ fs) l s (closes d, p) h = (omega (arith, s.0), way-shallow fs d s.2 p (omega (arith, s.0)))

day-shallow : (n : ℕ) → n ≤ 64 → (fs : List Fields) → IsDay n fs → Shallow fs
day-shallow n few [] h = tt
day-shallow n few (f ∷ fs) h =
    let r = root-first n f fs h in
    let d : f.depth ≡ 0 = ap (λ (g : Fields). g.depth) r.root in
    (omega arith, way-shallow fs 1 r.levels.above h.plain.1 (omega (arith, r.others)))

day-read : (n : ℕ) → n ≤ 64 → (fs : List Fields) → IsDay n fs → records_of (chunk_bytes fs) ≡ granted fs
day-read n few fs h = chunk_read fs (all_back fs h.plain (day-shallow n few fs h))

-- ---- .. and are a small day's; and a small day's records are plain

plain-ones : (fs : List Fields) → AllPlain fs → AllShortOnes fs
plain-ones [] p = tt
plain-ones (f ∷ fs) (opens d, p) = ((λ _. (refl, refl)), plain-ones fs p)
plain-ones (f ∷ fs) (closes d, p) = ((λ e. absurd (not-both e refl)), plain-ones fs p)

pub day-is : (n : ℕ) → n ≤ 64 → (fs : List Fields) → IsDay n fs → IsSmallDay n (chunk_bytes fs)
day-is n few fs h = record {
  bytes = chunk-bytes fs h.plain;
  records = chunk_of fs;
  formed = record { fields = fs; read = day-read n few fs h; records-are = refl; fine = h.fine };
  opened = h.opened;
  ones = plain-ones fs h.plain;
}

ones-plain : (s : List ℕ) (f : Fields) → Shape s f → (f.kind ≡ kind.Open → (f.length ≡ 10) × (f.value ≡ pos 1)) → Plain f
ones-plain s f (full e0 e2) h = absurd (omega (arith, (h refl).0))
ones-plain s f (short e0 e2) h = subst (λ v. Plain (short_fields (le_at 2 s 4) v)) (sym (h refl).1) (opens (le_at 2 s 4))
ones-plain s f (batched e0 e2) h = absurd (omega (arith, (h refl).0))
ones-plain s f (closed e0 e2) h = closes (le_at 2 s 4)

pub all_plain : (fs : List Fields) (b : List ℕ) → records_of b ≡ granted fs → AllShortOnes fs → AllPlain fs
all_plain [] b e h = tt
all_plain (f ∷ fs) b e h =
    let w : First b f fs = first_read b f fs e in
    (ones-plain b f (shape b f w.here) h.0, all_plain fs (drop f.length b) w.rest h.1)

is-day : (n : ℕ) (b : List ℕ) (h : IsSmallDay n b) → IsDay n h.formed.fields
is-day n b h =
    let i = h.formed in
    record { fine = ap log_fault i.records-are ∙ i.fine; opened = ap opened_of i.records-are ∙ h.opened; plain = all_plain i.fields b i.read h.ones }

-- ---- the order of logs, by a place, and by their bytes

differ-next : (k : ℕ) (f g : Fields) (fs gs : List Fields) → f ≡ g → DifferAt k fs gs → DifferAt (suc k) (f ∷ fs) (g ∷ gs)
differ-next k f g fs gs e d = record { inside = (omega (arith, d.inside.0), omega (arith, d.inside.1)); same = ap₂ (λ (x : Fields) (xs : List Fields). x ∷ xs) e d.same; opens = d.opens; closes = d.closes }

to-place : (fs gs : List Fields) → Lexicographic fs gs → (k : ℕ) × DifferAt k fs gs
to-place [] gs l = absurd l
to-place (f ∷ fs) [] l = absurd l
to-place (f ∷ fs) (g ∷ gs) (inl l) = (0, record { inside = (omega arith, omega arith); same = refl; opens = l.0; closes = l.1 })
to-place (f ∷ fs) (g ∷ gs) (inr l) = let (k, d) = to-place fs gs l.1 in (suc k, differ-next k f g fs gs l.0 d)

from_place : (k : ℕ) (fs gs : List Fields) → DifferAt k fs gs → Lexicographic fs gs
from_place k [] gs d = absurd (omega (arith, d.inside.0))
from_place k (f ∷ fs) [] d = absurd (omega (arith, d.inside.1))
from_place zero (f ∷ fs) (g ∷ gs) d = inl (d.opens, d.closes)
from_place (suc k) (f ∷ fs) (g ∷ gs) d =
    let e : f ≡ g = cc d.same in
    let r : take k fs ≡ take k gs = cc d.same in
    inr (e, from_place k fs gs (record { inside = (omega (arith, d.inside.0), omega (arith, d.inside.1)); same = r; opens = d.opens; closes = d.closes }))

pub by_place : (fs gs : List Fields) → Lexicographic fs gs ↔ ((k : ℕ) × DifferAt k fs gs)
by_place fs gs = (to-place fs gs, λ d. from_place d.0 fs gs d.1)

lexicographic-asymmetric : (fs gs : List Fields) → Lexicographic fs gs → Lexicographic gs fs → ⊥
lexicographic-asymmetric [] gs a b = a
lexicographic-asymmetric (f ∷ fs) [] a b = a
lexicographic-asymmetric (f ∷ fs) (g ∷ gs) (inl a) (inl b) = not-both a.0 b.1
lexicographic-asymmetric (f ∷ fs) (g ∷ gs) (inl a) (inr b) = not-both a.0 (sym (ap (λ (h : Fields). h.kind) b.0) ∙ a.1)
lexicographic-asymmetric (f ∷ fs) (g ∷ gs) (inr a) (inl b) = not-both b.0 (sym (ap (λ (h : Fields). h.kind) a.0) ∙ b.1)
lexicographic-asymmetric (f ∷ fs) (g ∷ gs) (inr a) (inr b) = lexicographic-asymmetric fs gs a.1 b.1

asymmetric : (a b : List ℕ) → Precedes a b → Precedes b a → ⊥
asymmetric a b p q =
    let e : q.right ≡ p.left = cc (q.right-read, p.left-read) in
    let f : q.left ≡ p.right = cc (q.left-read, p.right-read) in
    lexicographic-asymmetric p.left p.right p.holds (subst (Lexicographic p.right) e (subst (λ fs. Lexicographic fs q.right) f q.holds))

-- ---- both

module _ (n : ℕ) (few : n ≤ 64) where
  day-in : (fs : List Fields) → Memᴰ fs (days n) → IsDay n fs
  day-in fs m = day-sound n (omega arith) fs m

  pub small-sound : (log : List ℕ) → Memᴰ log (small_days n) → IsSmallDay n log
  unfolding small_days
  small-sound log m = let (fs, k, e) = Memᴰ.of_map chunk_bytes (days n) m in subst (IsSmallDay n) e (day-is n few fs (day-in fs k))

  small-complete : (log : List ℕ) → IsSmallDay n log → Memᴰ log (small_days n)
  unfolding small_days
  small-complete log h =
      let fs = h.formed.fields in
      subst (λ (b : List ℕ). Memᴰ b (map chunk_bytes (days n))) (chunk-again fs log h.bytes h.formed.read) (Memᴰ.map chunk_bytes (day-complete n fs (is-day n log h)))

  small-order : Sorted Precedes (small_days n)
  unfolding small_days
  small-order = sorted-map Precedes chunk_bytes Lexicographic (days n) (λ fs gs i j b. record { left = fs; right = gs; left-read = day-read n few fs (day-in fs i); right-read = day-read n few gs (day-in gs j); holds = b }) (day-order n)

  -- ALL SMALL DAYS: just the logs that are wanted, each once, in order; ..
  pub are-small-days : AreSmallDays n (small_days n)
  are-small-days = record { each = λ log. (small-sound log, small-complete log); once = sorted-no-duplicates Precedes asymmetric (small_days n) small-order; in_order = small-order }

  -- .. and there is no other such list.
  pub only-small-days : (logs : List (List ℕ)) → AreSmallDays n logs → logs ≡ small_days n
  only-small-days logs h = sorted-unique Precedes asymmetric logs (small_days n) h.in_order small-order (λ log. ((λ m. small-complete log ((h.each log).0 m)), (λ m. (h.each log).1 (small-sound log m))))

  -- 16 bytes for each record that is opened
  plain-long : (fs : List Fields) → AllPlain fs → length (chunk_bytes fs) ≡ 6 * length fs + 4 * opened_of (chunk_of fs)
  plain-long [] p = refl
  plain-long (f ∷ fs) (opens d, p) = omega (arith, length-append (fields_bytes (open_one d)) (chunk_bytes fs), short-length d (pos 1), plain-long fs p)
  plain-long (f ∷ fs) (closes d, p) = omega (arith, length-append (fields_bytes (close_fields d)) (chunk_bytes fs), close-length d, plain-long fs p)

  day-long : (fs : List Fields) → IsDay n fs → length (chunk_bytes fs) ≡ 16 * n
  day-long fs h = omega (arith, plain-long fs h.plain, log-pairs (chunk_of fs) h.fine, length-map fs record_of, h.opened)

  pub small-long : (log : List ℕ) → Memᴰ log (small_days n) → length log ≡ 16 * n
  unfolding small_days
  small-long log m = let (fs, k, e) = Memᴰ.of_map chunk_bytes (days n) m in subst (λ b. length b ≡ 16 * n) e (day-long fs (day-in fs k))

  -- so every call on a whole log takes it
  pub small-taken : (log : List ℕ) (m : Memᴰ log (small_days n)) → whole_log log ≡ granted (small-sound log m).records
  small-taken log m = log_is (record { short = omega (arith, small-long log m); formed = (small-sound log m).formed })
