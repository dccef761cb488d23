-- The bytes of a log of full records and its records: one is read from the other, both ways; and how long they are. Assumes nothing.
use Rattle.std.specs.Prelude.{◌≡◌, refl, Bool, true, false, cond, ◌⊎◌, List, [], ◌∷◌, ◌++◌, map, ℕ, zero, suc, ◌+◌, ◌*◌, ◌≤◌, leb, length, drop}
use Rattle.std.proofs.Common.{sym, ap, ap₂, subst, ◌∙◌, inl, inr, append_assoc, append-nil, arith, length-append, length-drop, leb-true, leb-false}
use Rattle.std.proofs.lemmas.List.{length-map}
use Rattle.gate.specs.Outcome.{granted}
use Rattle.number.specs.Bytes.{AllBytes}
use Rattle.number.specs.FieldLaws.{bytes-nil, bytes-append}
use Rattle.record.specs.Record.{in_range, records_of, open_bytes, close_bytes, full_fields, close_fields, fields_bytes, chunk_bytes}
use Rattle.record.proofs.Laws.{and_left, and_right, sound, Shape, full, short, batched, closed, shape}
use Rattle.record.proofs.RangeLaws.{range-parts}
use Rattle.record.proofs.Readable.{First, first_read}
use Rattle.record.proofs.Encoding.{open-length, close-length, open-bytes, close-bytes, chunk-again, AllReread, open-back, close-back, chunk_read}
use Rattle.record.specs.declared.Fields.{Fields}
use Rattle.modes.specs.FourModes.{Amounts}
use Rattle.hill.specs.Log.{Record, opening, closing, opens, opened_of}
use Rattle.hill.proofs.Levels.{log-pairs}
use Rattle.chunk.specs.Chunk.{record_of, chunk_of, IsWellFormed}
use Rattle.day_table.specs.Table.{TableLine, closes_to, log_from}
use Rattle.day_table.specs.Outcomes.{could_hold, all_could_hold, full_bytes, log_bytes}
use Rattle.day_table.specs.Claims.{Full, AllFull, comes_back_as}
use Rattle.day_table.proofs.TableLaws.{Under}

pub log-bytes : (xs : List (Record Amounts)) → AllBytes (log_bytes xs)
log-bytes [] = bytes-nil
log-bytes (opening d r ∷ xs) = bytes-append (open_bytes d r.value r.floor r.ceiling) (log_bytes xs) (open-bytes d r.value r.floor r.ceiling) (log-bytes xs)
log-bytes (closing d ∷ xs) = bytes-append (close_bytes d) (log_bytes xs) (close-bytes d) (log-bytes xs)

pub log-append : (xs ys : List (Record Amounts)) → log_bytes (xs ++ ys) ≡ log_bytes xs ++ log_bytes ys
log-append [] ys = refl
log-append (x ∷ xs) ys = ap (λ (t : List ℕ). full_bytes x ++ t) (log-append xs ys) ∙ sym (append_assoc (full_bytes x) (log_bytes xs) (log_bytes ys))

-- ---- records in range that are written are read back

abbrev pub RecordsInRange : List (Record Amounts) → Type 0
RecordsInRange [] = Unit {0}
RecordsInRange (opening d r ∷ xs) = (in_range d r.value r.floor r.ceiling ≡ true) × RecordsInRange xs
RecordsInRange (closing d ∷ xs) = (d ≤ 63) × RecordsInRange xs

-- what is read of a full record
abbrev pub fields_of : Record Amounts → Fields
fields_of (opening d r) = full_fields d r.value r.floor r.ceiling
fields_of (closing d) = close_fields d

abbrev pub all_fields : List (Record Amounts) → List Fields
all_fields [] = []
all_fields (x ∷ xs) = fields_of x ∷ all_fields xs

pub chunk-fields : (xs : List (Record Amounts)) → chunk_of (all_fields xs) ≡ xs
chunk-fields [] = refl
chunk-fields (opening d r ∷ xs) = ap (λ (ys : List (Record Amounts)). opening d r ∷ ys) (chunk-fields xs)
chunk-fields (closing d ∷ xs) = ap (λ (ys : List (Record Amounts)). closing d ∷ ys) (chunk-fields xs)

log-chunk : (xs : List (Record Amounts)) → log_bytes xs ≡ chunk_bytes (all_fields xs)
log-chunk [] = refl
log-chunk (opening d r ∷ xs) = ap (λ (t : List ℕ). open_bytes d r.value r.floor r.ceiling ++ t) (log-chunk xs)
log-chunk (closing d ∷ xs) = ap (λ (t : List ℕ). close_bytes d ++ t) (log-chunk xs)

all_back : (xs : List (Record Amounts)) → RecordsInRange xs → AllReread (all_fields xs)
all_back [] f = tt
all_back (opening d r ∷ xs) f = (open-back d r.value r.floor r.ceiling f.0, all_back xs f.1)
all_back (closing d ∷ xs) f = (close-back d f.0, all_back xs f.1)

pub log-read : (xs : List (Record Amounts)) → RecordsInRange xs → records_of (log_bytes xs) ≡ granted (all_fields xs)
log-read xs f = ap records_of (log-chunk xs) ∙ chunk_read (all_fields xs) (all_back xs f)

-- ---- full records that were read are written again

pub fields-full : (xs : List (Record Amounts)) → AllFull (all_fields xs)
fields-full [] = tt
fields-full (opening d r ∷ xs) = (inl refl, fields-full xs)
fields-full (closing d ∷ xs) = (inr refl, fields-full xs)

not_full : {P : Type 0} (n : ℕ) → (n ≡ 18 → ⊥) → (n ≡ 6 → ⊥) → ◌⊎◌ (n ≡ 18) (n ≡ 6) → P
not_full n h k (inl e) = absurd (h e)
not_full n h k (inr e) = absurd (k e)

full-again : (s : List ℕ) (f : Fields) → Shape s f → Full f → full_bytes (record_of f) ≡ fields_bytes f
full-again s f (full e0 e2) u = refl
full-again s f (short e0 e2) u = not_full 10 (λ e. omega arith) (λ e. omega arith) u
full-again s f (batched e0 e2) u = not_full 22 (λ e. omega arith) (λ e. omega arith) u
full-again s f (closed e0 e2) u = refl

all-again : (fs : List Fields) (b : List ℕ) → records_of b ≡ granted fs → AllFull fs → log_bytes (chunk_of fs) ≡ chunk_bytes fs
all-again [] b e u = refl
all-again (f ∷ fs) b e u =
    let w : First b f fs = first_read b f fs e in
    ap₂ (λ (x y : List ℕ). x ++ y) (full-again b f (shape b f w.here) u.0) (all-again fs (drop f.length b) w.rest u.1)

pub log-again : (fs : List Fields) (b : List ℕ) → AllBytes b → records_of b ≡ granted fs → AllFull fs → log_bytes (chunk_of fs) ≡ b
log-again fs b all e u = all-again fs b e u ∙ chunk-again fs b all e

-- ---- what is written of any record that was read: one of length 18, or a close

comes-back-as : (s : List ℕ) (f : Fields) → Shape s f → fields_of (record_of f) ≡ comes_back_as f
comes-back-as s f (full e0 e2) = refl
comes-back-as s f (short e0 e2) = refl
comes-back-as s f (batched e0 e2) = refl
comes-back-as s f (closed e0 e2) = refl

pub all-come-back : (fs : List Fields) (b : List ℕ) → records_of b ≡ granted fs → all_fields (chunk_of fs) ≡ map comes_back_as fs
all-come-back [] b e = refl
all-come-back (f ∷ fs) b e =
    let w : First b f fs = first_read b f fs e in
    ap₂ (λ (x : Fields) (xs : List Fields). x ∷ xs) (comes-back-as b f (shape b f w.here)) (all-come-back fs (drop f.length b) w.rest)

-- ---- the log of a table: its records are in range where the lines are, ..

ranged-closes : (e l : ℕ) (ys : List (Record Amounts)) → l ≤ 64 → RecordsInRange ys → RecordsInRange (closes_to l e ++ ys)
ranged-closes e zero ys h r = r
ranged-closes e (suc l) ys h r = go (leb e l) (ranged-closes e l ys (omega arith) r)
  where
    go : (t : Bool) → RecordsInRange (closes_to l e ++ ys) → RecordsInRange (cond t (closing l ∷ closes_to l e) [] ++ ys)
    go true ih = (omega arith, ih)
    go false ih = r

pub ranged-from : (l : ℕ) (ls : List TableLine) → l ≤ 64 → all_could_hold ls ≡ true → RecordsInRange (log_from l ls)
ranged-from l [] h ok = subst RecordsInRange (append-nil (closes_to l 0)) (ranged-closes 0 l [] h tt)
ranged-from l (x ∷ ls) h ok =
    let here = and_left (could_hold x) (all_could_hold ls) ok in
    let low = (range-parts x.depth x.amounts.value x.amounts.floor x.amounts.ceiling here).depth in
    ranged-closes x.depth l _ h (here, ranged-from (suc x.depth) ls (omega arith) (and_right (could_hold x) (all_could_hold ls) ok))

-- .. and each line takes 24 bytes, its open and its close

length-closes : (e l : ℕ) → e ≤ l → length (log_bytes (closes_to l e)) + 6 * e ≡ 6 * l
length-closes e zero h = omega arith
length-closes e (suc l) h = go (leb e l) refl (length-closes e l)
  where
    go : (t : Bool) → leb e l ≡ t → (e ≤ l → length (log_bytes (closes_to l e)) + 6 * e ≡ 6 * l) → length (log_bytes (cond t (closing l ∷ closes_to l e) [])) + 6 * e ≡ 6 * suc l
    go true t ih = omega (arith, ih (leb-true e l t), length-append (close_bytes l) (log_bytes (closes_to l e)), close-length l)
    go false t ih = omega (arith, leb-false e l t)

pub length_from : (l : ℕ) (ls : List TableLine) → Under l ls → length (log_bytes (log_from l ls)) ≡ 24 * length ls + 6 * l
length_from l [] u = omega (arith, length-closes 0 l (omega arith))
length_from l (x ∷ ls) u =
    let o : Record Amounts = opening x.depth x.amounts in
    let rest : List (Record Amounts) = log_from (suc x.depth) ls in
    let a = log-append (closes_to l x.depth) (o ∷ rest) in
    omega (
      arith,
      ap length a,
      length-append (log_bytes (closes_to l x.depth)) (full_bytes o ++ log_bytes rest),
      length-append (full_bytes o) (log_bytes rest),
      open-length x.depth x.amounts.value x.amounts.floor x.amounts.ceiling,
      length-closes x.depth l u.1,
      length_from (suc x.depth) ls u.2,
    )

-- ---- a log's bytes: 6 for each record, and 4 more for each open

shape-long : (s : List ℕ) (f : Fields) → Shape s f → 6 + 4 * opens (record_of f) ≤ f.length
shape-long s f (full e0 e2) = omega arith
shape-long s f (short e0 e2) = omega arith
shape-long s f (batched e0 e2) = omega arith
shape-long s f (closed e0 e2) = omega arith

pub records-long : (fs : List Fields) (b : List ℕ) → records_of b ≡ granted fs → 6 * length fs + 4 * opened_of (chunk_of fs) ≤ length b
records-long [] b e = omega arith
records-long (f ∷ fs) b e =
    let w : First b f fs = first_read b f fs e in
    omega (arith, records-long fs (drop f.length b) w.rest, shape-long b f (shape b f w.here), (sound b f w.here).inside, length-drop f.length b)

-- so a well-formed log has 16 for each record that it opens, at the least
pub log-long : {log : List ℕ} {xs : List (Record Amounts)} → IsWellFormed log xs → 16 * opened_of xs ≤ length log
log-long {log} {xs} i =
    omega (arith, records-long i.fields log i.read, length-map i.fields record_of, ap length i.records-are, ap opened_of i.records-are, log-pairs xs i.fine)
