-- Laws of a chunk's records, and of a call on a whole log, question by question. Assumes nothing.
use Rattle.std.specs.Prelude.{◌≡◌, refl, Bool, true, false, cond, List, [], ◌∷◌, ◌++◌, map, ℕ, zero, suc, ◌≤◌, ◌<◌, leb, length}
use Rattle.std.proofs.Common.{sym, ap, subst, ◌∙◌, inl, inr, arith, le-leb, leb-true}
use Rattle.std.proofs.lemmas.Bool.{lt-leb}
use Rattle.gate.specs.Outcome.{Outcome, refused, granted, question, onward}
use Rattle.gate.proofs.Laws.{not-result, one_number}
use Rattle.record.specs.Record.{is_open, in_range, records_of}
use Rattle.record.proofs.Laws.{records-3}
use Rattle.record.proofs.RangeLaws.{range-parts}
use Rattle.record.proofs.Ranged.{AllInRange, records-in-range}
use Rattle.record.specs.declared.Fields.{Fields}
use Rattle.record.specs.declared.Kind.TheVariants as kind
use Rattle.modes.specs.FourModes.{Amounts}
use Rattle.figure.specs.Stored.{amounts}
use Rattle.hill.specs.Verdict.{Verdict, pass, refuse}
use Rattle.hill.specs.Log.{Record, opening, closing, depth, log_fault}
use Rattle.hill.specs.Closing.{OpensAt}
use Rattle.hill.proofs.HeldPlaces.{opening-closing}
use Rattle.hill.specs.Questions.{NoOfLog}
use Rattle.hill.proofs.Faults.{lowest-log}
use Rattle.hill.specs.Finish.{outcome}
use Rattle.chunk.specs.Chunk.{record_of, chunk_of, whole_log, IsWellFormed, SameRecords, without_batch, SameButBatches}
use Rattle.chunk.specs.Laws.{IsLog}

-- ---- records that were read

pub is_open_lem : (f : Fields) → f.kind ≡ kind.Open → record_of f ≡ opening f.depth (amounts f.value f.floor f.ceiling)
is_open_lem f e = rw e

pub is-close : (f : Fields) → f.kind ≡ kind.Close → record_of f ≡ closing f.depth
is-close f e = rw e

pub depth_low : (f : Fields) → in_range f.depth f.value f.floor f.ceiling ≡ true → f.depth ≤ 63
depth_low f e = (range-parts f.depth f.value f.floor f.ceiling e).depth

-- no record that was read is deeper than 63
opens-low : (fs : List Fields) → AllInRange fs → (p d : ℕ) → OpensAt (chunk_of fs) p d → d ≤ 63
opens-low [] h p d o = absurd (opening-closing (closing 0) d 0 o.0 o.1 refl)
opens-low (f ∷ fs) h zero d o = go (is_open f.kind) o.1
  where
    go : (t : Bool) → cond t (opening f.depth (record { value = f.value; floor = f.floor; ceiling = f.ceiling })) (closing f.depth) ≡ opening d o.0 → d ≤ 63
    go true e = omega (arith, ap depth e, depth_low f h.0)
    go false e = absurd (opening-closing (closing f.depth) d f.depth o.0 e refl)
opens-low (f ∷ fs) h (suc p) d o = opens-low fs h.1 p d o

pub low-log : {log : List ℕ} {xs : List (Record Amounts)} → IsWellFormed log xs → (p d : ℕ) → OpensAt xs p d → d ≤ 63
low-log {log} i p d o = opens-low i.fields (records-in-range log i.fields i.read) p d (subst (λ ys. OpensAt ys p d) (sym i.records-are) o)

pub chunk-append : (fs gs : List Fields) → chunk_of (fs ++ gs) ≡ chunk_of fs ++ chunk_of gs
chunk-append [] gs = refl
chunk-append (f ∷ fs) gs = ap (λ (xs : List (Record Amounts)). record_of f ∷ xs) (chunk-append fs gs)

-- ---- a call on a whole log that answers f of its records, by questions

pub onward-outcome : {A B : Type 0} (f : A → B) (v : Verdict) (a : A) → onward (outcome v a) (λ x. granted (f x)) ≡ outcome v (f a)
onward-outcome f pass a = refl
onward-outcome f (refuse n) a = refl

abbrev pub answer_from : {B : Type 0} → (List (Record Amounts) → B) → List ℕ → Outcome B
answer_from f log = onward (whole_log log) (λ xs. granted (f xs))

module _ {B : Type 0} (f : List (Record Amounts) → B) (log : List ℕ) where
  -- 2
  pub too_long : 65_536 < length log → answer_from f log ≡ refused 2
  unfolding whole_log
  too_long h = rw (lt-leb (length log) 65_536 h)

  module _ (short : length log ≤ 65_536) where
    -- 3
    pub unreadable : (n : ℕ) → records_of log ≡ refused n → answer_from f log ≡ refused n
    unfolding whole_log
    unreadable n e = rw (le-leb (length log) 65_536 short, e)

    -- 7 to 11, and then the answer
    pub readable : (fs : List Fields) → records_of log ≡ granted fs → answer_from f log ≡ outcome (log_fault (chunk_of fs)) (f (chunk_of fs))
    unfolding whole_log
    readable fs e = rw (le-leb (length log) 65_536 short, e) (onward-outcome f (log_fault (chunk_of fs)) (chunk_of fs))

pub is-log : (log : List ℕ) (xs : List (Record Amounts)) → whole_log log ≡ granted xs → IsLog log xs
unfolding whole_log
is-log log xs e = go (leb (length log) 65_536) refl (records_of log) refl e
  where
    last : length log ≤ 65_536 → (fs : List Fields) → records_of log ≡ granted fs → (v : Verdict) → log_fault (chunk_of fs) ≡ v → outcome v (chunk_of fs) ≡ granted xs → IsLog log xs
    last h fs r pass p e = let same : chunk_of fs ≡ xs = cc in record { short = h; formed = record { fields = fs; read = r; records-are = same; fine = ap log_fault (sym same) ∙ p } }
    last h fs r (refuse n) p e = absurd (not-result n xs e)

    go : (t : Bool) → leb (length log) 65_536 ≡ t → (o : Outcome (List Fields)) → records_of log ≡ o → question 2 t (onward o (λ fs. outcome (log_fault (chunk_of fs)) (chunk_of fs))) ≡ granted xs → IsLog log xs
    go false l o r e = absurd (not-result 2 xs e)
    go true l (refused n) r e = absurd (not-result n xs e)
    go true l (granted fs) r e = last (leb-true (length log) 65_536 l) fs r (log_fault (chunk_of fs)) refl e

pub log_is : {log : List ℕ} {xs : List (Record Amounts)} → IsLog log xs → whole_log log ≡ granted xs
unfolding whole_log
log_is {log} {xs} i = rw (le-leb (length log) 65_536 i.short, i.formed.read, i.formed.records-are, i.formed.fine)

-- it is not let through by one of document 01's numbers, none above 11
pub refused-low : (log : List ℕ) (n : ℕ) → whole_log log ≡ refused n → n ≤ 11
unfolding whole_log
refused-low log n e = go (leb (length log) 65_536) (records_of log) refl e
  where
    fault-low : (xs : List (Record Amounts)) → NoOfLog xs n → n ≤ 11
    fault-low xs (inl (inl q)) = omega (arith, q.0)
    fault-low xs (inl (inr (inl q))) = omega (arith, q.0)
    fault-low xs (inl (inr (inr q))) = omega (arith, q.0)
    fault-low xs (inr (inl q)) = omega (arith, q.0)
    fault-low xs (inr (inr q)) = omega (arith, q.0)

    by-fault : (xs : List (Record Amounts)) (v : Verdict) → log_fault xs ≡ v → outcome v xs ≡ refused n → n ≤ 11
    by-fault xs pass p e = absurd (not-result n xs (sym e))
    by-fault xs (refuse k) p e = fault-low xs ((lowest-log xs).least n (p ∙ ap refuse (one_number e))).0

    go : (t : Bool) (o : Outcome (List Fields)) → records_of log ≡ o → question 2 t (onward o (λ fs. outcome (log_fault (chunk_of fs)) (chunk_of fs))) ≡ refused n → n ≤ 11
    go false o r e = omega (arith, one_number e)
    go true (refused k) r e = omega (arith, records-3 log k r, one_number e)
    go true (granted fs) r e = by-fault (chunk_of fs) (log_fault (chunk_of fs)) refl e

-- bytes have the records of one log
pub one-log : {log : List ℕ} {xs ys : List (Record Amounts)} → IsWellFormed log xs → IsWellFormed log ys → xs ≡ ys
one-log i j = let same : i.fields ≡ j.fields = cc (i.read, j.read) in sym i.records-are ∙ ap chunk_of same ∙ j.records-are

-- ---- what `record_of` leaves: a record without its batch, ..

without-batches : (fs : List Fields) → chunk_of (map without_batch fs) ≡ chunk_of fs
without-batches [] = refl
without-batches (f ∷ fs) = ap (λ (xs : List (Record Amounts)). record_of f ∷ xs) (without-batches fs)

pub batches-aside : {a b : List ℕ} → SameButBatches a b → SameRecords a b
batches-aside d = record {
  left = d.left;
  right = d.right;
  left-read = d.left-read;
  right-read = d.right-read;
  holds = sym (without-batches d.left) ∙ ap chunk_of d.holds ∙ without-batches d.right;
}

-- .. and the gate on a whole log sees nothing else
pub same_log : {a b : List ℕ} → SameRecords a b → length a ≤ 65_536 → length b ≤ 65_536 → whole_log a ≡ whole_log b
unfolding whole_log
same_log {a} {b} r m n = rw (le-leb (length a) 65_536 m, le-leb (length b) 65_536 n, r.left-read, r.right-read, r.holds)
