-- Document 02, L8: what was read while short records had another floor is what is read now, with that floor. Assumes nothing.
use Rattle.std.specs.Prelude.{◌≡◌, Bool, ◌&&◌, leb, length, drop, ℤ}
use Rattle.std.proofs.Math.Path.{refl, ap}
use Rattle.std.proofs.Common.{sym, ap₂, ◌∙◌}
use Rattle.std.proofs.Math.Bool.{true, false, cond}
use mathlib.Core.List.{List, [], ◌∷◌, map}
use Prim.Native.Nat.{ℕ, zero, suc, ◌≤◌}
use Rattle.std.proofs.Math.Dec.{eqb}
use Rattle.std.specs.Int.Signed.{le_z}
use borrow.Author.Tests.{eqb-true, eqb-false}
use Rattle.gate.specs.Outcome.{Outcome, refused, granted, written}
use Rattle.gate.proofs.Laws.{not-result}
use Rattle.number.specs.Bytes.{le_at, i32_at}
use Rattle.record.specs.Record.{within, in_range, least, most, default_floor, default_ceiling, accepted, whole, by_shape, short_open, read_of, before, and_then, records_in, records_of}
use Rattle.record.proofs.Laws.{Shape, full, short, batched, closed, shape, and_left, and_right}
use Rattle.record.proofs.Readable.{Each, each_read}
use Rattle.record.specs.declared.Fields.{Fields}
use Rattle.figure.specs.Mode.{mode_in_use}
use Rattle.hill.specs.Row.{on_result}
use Rattle.summary.specs.Outcomes.{summary_bytes, summarise_outcome}
use Rattle.summary.proofs.OutcomeLaws.{summarise-is}
use Rattle.chunk.specs.Chunk.{chunk_of}
use Rattle.claim.specs.Claim.{fields_found, fields_read}
use Rattle.claim.proofs.Stretches.{Reads, fields-found}
use Rattle.claim.specs.ShortRecords.{Sent, short_then, read_then, read_then_in, fields_then, records_then, sent_bytes, IsSent}

-- ---- what was read then is what is read now, a short record with its floor

-- A record, its floor l if it is short.
abbrev pub with_floor : (l : ℤ) → Fields → Fields
with_floor l f = record { kind = f.kind; length = f.length; depth = f.depth; value = f.value; floor = cond (eqb f.length 10) l f.floor; ceiling = f.ceiling; batch = f.batch }

-- by its layout
not_short : (l : ℤ) (s : List ℕ) (f : Fields) → Shape s f → (le_at 2 s 2 ≡ 1 → le_at 2 s 0 ≡ 10 → ⊥) → with_floor l f ≡ f
not_short l s f (full e0 e2) n = refl
not_short l s f (short e0 e2) n = absurd (n e2 e0)
not_short l s f (batched e0 e2) n = refl
not_short l s f (closed e0 e2) n = refl

reads_short : (s : List ℕ) → le_at 2 s 2 ≡ 1 → le_at 2 s 0 ≡ 10 → read_of s ≡ whole s (short_open s)
unfolding read_of by_shape
reads_short s k e = rw (k, e)

module _ (l : ℤ) (fits : within l ≡ true) where
  -- a floor that a record can have fits every short record, ..
  pub floor-range : (d : ℕ) (v : ℤ) → in_range d v l default_ceiling ≡ in_range d v default_floor default_ceiling
  unfolding in_range within
  floor-range d v = rw (and_right (le_z least l) (le_z l most) fits, and_left (le_z least l) (le_z l most) fits)

  whole-then : (s : List ℕ) → whole s (short_then l s) ≡ on_result (with_floor l) (whole s (short_open s))
  unfolding whole accepted
  whole-then s = rw (floor-range (le_at 2 s 4) (i32_at s 6)) (go (leb 10 (length s)) (in_range (le_at 2 s 4) (i32_at s 6) default_floor default_ceiling))
    where
      go : (a b : Bool) → cond a (cond b (granted (short_then l s)) (refused 3)) (refused 3) ≡ on_result (with_floor l) (cond a (cond b (granted (short_open s)) (refused 3)) (refused 3))
      go true true = refl
      go true false = refl
      go false b = refl

  as-now : (s : List ℕ) → (le_at 2 s 2 ≡ 1 → le_at 2 s 0 ≡ 10 → ⊥) → (o : Outcome Fields) → read_of s ≡ o → o ≡ on_result (with_floor l) o
  as-now s n (refused k) e = refl
  as-now s n (granted f) e = ap granted (sym (not_short l s f (shape s f e) n))

  -- .. so the first record was read exactly if it is read now, ..
  pub read-then : (s : List ℕ) → read_then l s ≡ on_result (with_floor l) (read_of s)
  unfolding read_then
  read-then s = go (eqb (le_at 2 s 2) 1) (eqb (le_at 2 s 0) 10) refl refl
    where
      go : (a b : Bool) → eqb (le_at 2 s 2) 1 ≡ a → eqb (le_at 2 s 0) 10 ≡ b → cond (a && b) (whole s (short_then l s)) (read_of s) ≡ on_result (with_floor l) (read_of s)
      go true true p q = whole-then s ∙ ap (on_result (with_floor l)) (sym (reads_short s (eqb-true _ _ p) (eqb-true _ _ q)))
      go true false p q = as-now s (λ _ e. eqb-false _ _ q e) (read_of s) refl
      go false b p q = as-now s (λ k _. eqb-false _ _ p k) (read_of s) refl

  before-then : (f : Fields) (o : Outcome (List Fields)) → before (with_floor l f) (on_result (map (with_floor l)) o) ≡ on_result (map (with_floor l)) (before f o)
  before-then f (refused n) = refl
  before-then f (granted fs) = refl

  then-in : (n : ℕ) (s : List ℕ) → read_then_in l n s ≡ on_result (map (with_floor l)) (records_in n s)
  unfolding read_then_in records_in
  then-in zero [] = refl
  then-in zero (b ∷ s) = refl
  then-in (suc n) [] = refl
  then-in (suc n) (b ∷ s) = ap (λ (o : Outcome Fields). and_then o (λ f. read_then_in l n (drop f.length (b ∷ s)))) (read-then (b ∷ s)) ∙ go (read_of (b ∷ s)) (λ t. then-in n t)
    where
      go : (o : Outcome Fields) → ((t : List ℕ) → read_then_in l n t ≡ on_result (map (with_floor l)) (records_in n t))
          → and_then (on_result (with_floor l) o) (λ f. read_then_in l n (drop f.length (b ∷ s))) ≡ on_result (map (with_floor l)) (and_then o (λ f. records_in n (drop f.length (b ∷ s))))
      go (refused k) ih = refl
      go (granted f) ih = ap (before (with_floor l f)) (ih (drop f.length (b ∷ s))) ∙ before-then f (records_in n (drop f.length (b ∷ s)))

-- .. and so is a chunk: none that was refused is read now, and none that was read refused.
pub fields-then : (s : Sent) → within s.floor ≡ true → fields_then s ≡ on_result (map (with_floor s.floor)) (records_of s.chunk)
unfolding records_of
fields-then s fits = then-in s.floor fits (length s.chunk) s.chunk

module _ (s : Sent) (i : IsSent s) where
  pub reads_now : Reads s.chunk
  reads_now = go (records_of s.chunk) refl (sym (fields-then s i.floor-fits) ∙ i.readable.1)
    where
      go : (o : Outcome (List Fields)) → records_of s.chunk ≡ o → on_result (map (with_floor s.floor)) o ≡ granted i.readable.0 → Reads s.chunk
      go (refused n) e r = absurd (not-result n i.readable.0 r)
      go (granted fs) e r = (fs, e)

  pub fields-now : records_of s.chunk ≡ granted (fields_read s.chunk)
  fields-now = reads_now.1 ∙ ap granted (sym (fields-found s.chunk reads_now.0 reads_now.1))

  pub then_is : records_then s ≡ chunk_of (map (with_floor s.floor) (fields_read s.chunk))
  unfolding records_then
  then_is = ap (λ (o : Outcome (List Fields)). chunk_of (fields_found o)) (fields-then s i.floor-fits ∙ ap (on_result (map (with_floor s.floor))) fields-now)

-- ---- what is sent today

now-read : (s : List ℕ) (f : Fields) → read_of s ≡ granted f → with_floor default_floor f ≡ f
now-read s f e = go f (shape s f e)
  where
    go : (f : Fields) → Shape s f → with_floor default_floor f ≡ f
    go f (full e0 e2) = refl
    go f (short e0 e2) = refl
    go f (batched e0 e2) = refl
    go f (closed e0 e2) = refl

all-now : (fs : List Fields) → Each (λ f. with_floor default_floor f ≡ f) fs → map (with_floor default_floor) fs ≡ fs
all-now [] h = refl
all-now (f ∷ fs) h = ap₂ (λ (g : Fields) (gs : List Fields). g ∷ gs) h.0 (all-now fs h.1)

module _ (chunk : List ℕ) where
  abbrev pub today : Sent
  today = record { chunk = chunk; floor = default_floor }

  -- SINCE L8 a chunk is read, summarised and sent with the default floor.
  pub read-now : fields_then today ≡ records_of chunk
  unfolding within
  read-now = fields-then today refl ∙ go (records_of chunk) refl
    where
      go : (o : Outcome (List Fields)) → records_of chunk ≡ o → on_result (map (with_floor default_floor)) o ≡ o
      go (refused n) e = refl
      go (granted fs) e = ap granted (all-now fs (each_read (λ f. with_floor default_floor f ≡ f) now-read fs chunk e))

  pub sent-now : (mode cap : ℕ) → mode_in_use mode ≡ true → length chunk ≤ 65_536 → Reads chunk → summarise_outcome chunk mode cap ≡ written cap (sent_bytes mode today)
  unfolding records_then
  sent-now mode cap u few r =
      summarise-is chunk mode cap r.0 u few r.1 ∙ ap (λ (o : Outcome (List Fields)). written cap (summary_bytes mode (chunk_of (fields_found o)))) (sym (read-now ∙ r.1))
