-- Document 02, L8: the figures that do not move: net, heaviest and stamp, whatever floor short records had; and eaten, where it was not above 0 and nothing is
-- negative. Assumes nothing.
use Rattle.std.specs.Prelude.{◌≡◌, refl, ◌⊎◌, Bool, true, false, cond, ℕ, ◌*◌, ◌≤◌, eqb, ℤ, pos, ◌+ℤ◌, ◌≤ℤ◌}
use Rattle.std.proofs.Common.{sym, ap, ap₂, subst, ◌∙◌, inl, inr, arith, eqb-true}
use mathlib.Core.List.{List, [], ◌∷◌, ◌++◌, map, Memᴰ}
use Rattle.number.specs.Integer.{clamp, min_z, max_z, wrap}
use Rattle.number.specs.Modulo.{wrap-small}
use Rattle.number.specs.IntegerLaws.{zed, add-law, max-law, min-law, nat_le}
use Rattle.record.proofs.Readable.{Each, each_read}
use Rattle.record.specs.declared.Fields.{Fields}
use Rattle.modes.specs.FourModes.{Amounts, net, heaviest, eaten, stamp, lift, line_of, eaten_of}
use Rattle.figure.specs.Mode.{mode_of}
use Rattle.figure.specs.Stored.{amounts}
use Rattle.modes.specs.declared.Held.{Held}
use Rattle.modes.specs.declared.Held.TheVariants.{Nothing, Figure}
use Rattle.hill.specs.Verdict.{Verdict}
use Rattle.hill.specs.Log.{Record, opening, closing}
use Rattle.hill.specs.Finish.{outcome}
use Rattle.hill.specs.Row.{joined}
use Rattle.hill.proofs.Alike.{Alike, none, opens, closes, alike-append, alike-fault, Counts, CountSame, alike-figure}
use Rattle.summary.specs.Outcomes.{log_outcome}
use Rattle.chunk.specs.Chunk.{chunk_of}
use Rattle.day_list.specs.Days.{small_days}
use Rattle.day_list.specs.Claims.{IsSmallDay}
use Rattle.day_list.proofs.WayLaws.{AllPlain, opens as plain-open, closes as plain-close}
use Rattle.day_list.proofs.DayLaws.{all_plain, small-sound}
use Rattle.claim.specs.Claim.{fields_read, records_read, log_says}
use Rattle.claim.proofs.Stretches.{Reads, AllRead, fields-found, append-fields, reads-joined, in-joined}
use Rattle.claim.proofs.LogRow.{says}
use Rattle.claim.proofs.ReadThenLaws.{with_floor, reads_now, fields-now, then_is}
use Rattle.claim.proofs.SentLaws.{all_read, all-records}
use Rattle.claim.proofs.ShortRecordLaws.{Starts, starts}
use Rattle.claim.specs.ShortRecords.{Sent, records_then, AllSent, in_full, full_log, log_now, ValuesAlone, NothingNegative, LowFloors}
use Rattle.record.specs.Record.{is_open}

-- ---- which figures do not move

-- the records now, beside those then
module _ (l : ℤ) (Same : Amounts → Amounts → Type 0) where
  abbrev Carries : Fields → Type 0
  Carries f = Same (amounts f.value f.floor f.ceiling) (amounts f.value (with_floor l f).floor f.ceiling)

  alike : (fs : List Fields) → Each Carries fs → Alike Same (chunk_of fs) (chunk_of (map (with_floor l) fs))
  alike [] h = none
  alike (f ∷ fs) h = go (is_open f.kind) (alike fs h.1)
    where
      go : (b : Bool) → Alike Same (chunk_of fs) (chunk_of (map (with_floor l) fs)) → Alike Same (cond b (opening f.depth (amounts f.value f.floor f.ceiling)) (closing f.depth) ∷ chunk_of fs)
          (cond b (opening f.depth (amounts f.value (with_floor l f).floor f.ceiling)) (closing f.depth) ∷ chunk_of (map (with_floor l) fs))
      go true a = opens f.depth _ _ _ _ h.0 a
      go false a = closes f.depth _ _ a

-- what alike records say
says-alike : (mode : ℕ) (P : (mode_of mode).algebra.Fig → Type 0) (Same : Amounts → Amounts → Type 0) → CountSame (mode_of mode).algebra P Same → (xs ys : List (Record Amounts)) → Alike Same xs ys → log_outcome mode xs ≡ log_outcome mode ys
unfolding log_outcome
says-alike mode P Same k xs ys a =
    ap₂ (λ (v : Verdict) (f : (mode_of mode).algebra.Fig). outcome v ((mode_of mode).store f)) (alike-fault Same xs ys a) (alike-figure (mode_of mode).algebra P Same k xs ys a)

abbrev AllCarry : (Amounts → Amounts → Type 0) → List Sent → Type 0
AllCarry Same [] = Unit {0}
AllCarry Same (s ∷ ss) = Each (Carries s.floor Same) (fields_read s.chunk) × AllCarry Same ss

abbrev chunk_now : Sent → List ℕ
chunk_now s = s.chunk

rows_alike : (Same : Amounts → Amounts → Type 0) (ss : List Sent) → AllSent ss → AllCarry Same ss → Alike Same (joined (map records_read (map chunk_now ss))) (joined (map records_then ss))
unfolding records_read
rows_alike Same [] i h = none
rows_alike Same (s ∷ ss) i h =
    alike-append Same _ _ _ _ (subst (Alike Same (chunk_of (fields_read s.chunk))) (sym (then_is s i.0)) (alike s.floor Same (fields_read s.chunk) h.0)) (rows_alike Same ss i.1 h.1)

reads_all : (ss : List Sent) → AllSent ss → AllRead (map chunk_now ss)
reads_all [] i = tt
reads_all (s ∷ ss) i = (reads_now s i.0, reads_all ss i.1)

module _ (ss : List Sent) (i : AllSent ss) where
  -- what the log in full says, and what the log says now
  log-full : (mode : ℕ) → log_says mode (full_log ss) ≡ log_outcome mode (joined (map records_then ss))
  log-full mode = says mode (full_log ss) (reads-joined (map in_full ss) (all_read ss i)) ∙ ap (log_outcome mode) (in-joined (map in_full ss) (all_read ss i) ∙ ap joined (all-records ss i))

  log-now : (mode : ℕ) → log_says mode (log_now ss) ≡ log_outcome mode (joined (map records_read (map chunk_now ss)))
  log-now mode = says mode (log_now ss) (reads-joined (map chunk_now ss) (reads_all ss i)) ∙ ap (log_outcome mode) (in-joined (map chunk_now ss) (reads_all ss i))

  same-says : (mode : ℕ) (P : (mode_of mode).algebra.Fig → Type 0) (Same : Amounts → Amounts → Type 0) → CountSame (mode_of mode).algebra P Same → AllCarry Same ss → log_says mode (full_log ss) ≡ log_says mode (log_now ss)
  same-says mode P Same k h = log-full mode ∙ sym (says-alike mode P Same k _ _ (rows_alike Same ss i h)) ∙ sym (log-now mode)

-- by the value alone

abbrev SameValue : Amounts → Amounts → Type 0
SameValue r s = r.value ≡ s.value

values : (l : ℤ) (fs : List Fields) → Each (Carries l SameValue) fs
values l [] = tt
values l (f ∷ fs) = (refl, values l fs)

all-values : (ss : List Sent) → AllCarry SameValue ss
all-values [] = tt
all-values (s ∷ ss) = (values s.floor (fields_read s.chunk), all-values ss)

net-same : CountSame net (λ _. Unit {0}) SameValue
net-same = record { known-ι = tt; known-⊗ = λ _ _ _ _. tt; counts = λ r s h e _. record { same = ap (λ (v : ℤ). v +ℤ h) e; known = tt } }

heaviest-same : CountSame heaviest (λ _. Unit {0}) SameValue
heaviest-same = record { known-ι = tt; known-⊗ = λ _ _ _ _. tt; counts = λ r s h e _. record { same = ap (λ (v : ℤ). Figure (line_of v h)) e; known = tt } }

stamp-same : CountSame stamp (λ _. Unit {0}) SameValue
stamp-same = record {
  known-ι = tt;
  known-⊗ = λ _ _ _ _. tt;
  counts = λ r s h e _. record { same = ap (λ (v : ℤ). record { num = wrap (v +ℤ pos (31 * h.num)); small = wrap-small (v +ℤ pos (31 * h.num)) }) e; known = tt };
}

-- NET, HEAVIEST AND STAMP DO NOT MOVE, whichever chunks were sent with which floor.
pub values-alone : (ss : List Sent) → AllSent ss → ValuesAlone ss
unfolding mode_of
values-alone ss i = record {
  net = same-says ss i 1 (λ _. Unit {0}) SameValue net-same (all-values ss);
  heaviest = same-says ss i 2 (λ _. Unit {0}) SameValue heaviest-same (all-values ss);
  stamp = same-says ss i 4 (λ _. Unit {0}) SameValue stamp-same (all-values ss);
}

-- where nothing is negative

abbrev NotNegative : Held → Type 0
NotNegative Nothing = Unit {0}
NotNegative (Figure z) = pos 0 ≤ℤ z

record SameOver0 (r s : Amounts) : Type 0 where
  value : r.value ≡ s.value
  ceiling : r.ceiling ≡ s.ceiling
  floor : (r.floor ≡ s.floor) ⊎ ((r.floor ≤ℤ pos 0) × (s.floor ≤ℤ pos 0))
  some : pos 0 ≤ℤ r.value
  high : pos 0 ≤ℤ r.ceiling

-- a floor of 0 or less raises no number that is not negative
clamp-below : (x l k h : ℤ) → pos 0 ≤ℤ x → l ≤ℤ pos 0 → k ≤ℤ pos 0 → clamp x l h ≡ clamp x k h
unfolding clamp
clamp-below x l k h p q r = ap (λ (z : ℤ). min_z z h) (omega (zed, max-law x l, max-law x k))

clamp-over : (x l h : ℤ) → pos 0 ≤ℤ x → pos 0 ≤ℤ h → pos 0 ≤ℤ clamp x l h
unfolding clamp
clamp-over x l h p q = omega (zed, max-law x l, min-law (max_z x l) h)

sum_over : (a b : ℤ) → pos 0 ≤ℤ a → pos 0 ≤ℤ b → pos 0 ≤ℤ (a +ℤ b)
sum_over a b p q = omega (zed, add-law a b)

eaten-over : (r s : Amounts) (h : Held) → SameOver0 r s → NotNegative h → Counts eaten NotNegative SameOver0 r s h
unfolding eaten_of
eaten-over r s Nothing o p = record { same = ap Figure o.value; known = o.some }
eaten-over r s (Figure z) o p =
    let x : pos 0 ≤ℤ (r.value +ℤ z) = sum_over r.value z o.some p in
    record { same = ap Figure (go o.floor x ∙ ap₂ (λ (v c : ℤ). clamp (v +ℤ z) s.floor c) o.value o.ceiling); known = clamp-over (r.value +ℤ z) r.floor r.ceiling x o.high }
  where
    go : (r.floor ≡ s.floor) ⊎ ((r.floor ≤ℤ pos 0) × (s.floor ≤ℤ pos 0)) → pos 0 ≤ℤ (r.value +ℤ z) → clamp (r.value +ℤ z) r.floor r.ceiling ≡ clamp (r.value +ℤ z) s.floor r.ceiling
    go (inl e) x = ap (λ (l : ℤ). clamp (r.value +ℤ z) l r.ceiling) e
    go (inr e) x = clamp-below (r.value +ℤ z) r.floor s.floor r.ceiling x e.0 e.1

add-over : (a b : Held) → NotNegative a → NotNegative b → NotNegative (lift ◌+ℤ◌ a b)
unfolding lift
add-over Nothing b p q = q
add-over (Figure a) Nothing p q = p
add-over (Figure a) (Figure b) p q = sum_over a b p q

eaten-same : CountSame eaten NotNegative SameOver0
eaten-same = record { known-ι = tt; known-⊗ = add-over; counts = eaten-over }

module _ (l : ℤ) (low : l ≤ℤ pos 0) where
  carries_over : (f : Fields) → Starts f → pos 0 ≤ℤ f.value → pos 0 ≤ℤ f.ceiling → Carries l SameOver0 f
  carries_over f h v c = record { value = refl; ceiling = refl; floor = go (eqb f.length 10) refl; some = v; high = c }
    where
      go : (b : Bool) → eqb f.length 10 ≡ b → (f.floor ≡ cond b l f.floor) ⊎ ((f.floor ≤ℤ pos 0) × (cond b l f.floor ≤ℤ pos 0))
      go true e = inr (subst (λ (z : ℤ). z ≤ℤ pos 0) (sym (ap (λ (g : Fields). g.floor) (h (eqb-true f.length 10 e)))) (nat_le (omega arith)), low)
      go false e = inl refl

  all-over : (fs : List Fields) → Each Starts fs → NothingNegative fs → Each (Carries l SameOver0) fs
  all-over [] h n = tt
  all-over (f ∷ fs) h n = (carries_over f h.0 n.0 n.1, all-over fs h.1 n.2)

left-part : (fs gs : List Fields) → NothingNegative (fs ++ gs) → NothingNegative fs
left-part [] gs n = tt
left-part (f ∷ fs) gs n = (n.0, n.1, left-part fs gs n.2)

right-part : (fs gs : List Fields) → NothingNegative (fs ++ gs) → NothingNegative gs
right-part [] gs n = n
right-part (f ∷ fs) gs n = right-part fs gs n.2

rows-over : (ss : List Sent) → AllSent ss → LowFloors ss → NothingNegative (fields_read (log_now ss)) → AllCarry SameOver0 ss
rows-over [] i low n = tt
rows-over (s ∷ ss) i low n =
    let p : Reads s.chunk = reads_now s i.0 in
    let q : Reads (log_now ss) = reads-joined (map chunk_now ss) (reads_all ss i.1) in
    let e : fields_read (log_now (s ∷ ss)) ≡ fields_read s.chunk ++ fields_read (log_now ss) =
    fields-found _ _ (append-fields s.chunk (log_now ss) p q) ∙ sym (ap₂ (λ (fs gs : List Fields). fs ++ gs) (fields-found s.chunk p.0 p.1) (fields-found (log_now ss) q.0 q.1)) in
    let m : NothingNegative (fields_read s.chunk ++ fields_read (log_now ss)) = subst NothingNegative e n in
    (all-over s.floor low.0 (fields_read s.chunk) (each_read Starts starts (fields_read s.chunk) s.chunk (fields-now s i.0)) (left-part (fields_read s.chunk) (fields_read (log_now ss)) m), rows-over ss i.1 low.1 (right-part (fields_read s.chunk) (fields_read (log_now ss)) m))

-- WHERE NOTHING IS NEGATIVE, AND NO FLOOR OF SHORT RECORDS WAS ABOVE 0, EATEN DOES NOT MOVE.
pub nothing-negative : (ss : List Sent) → AllSent ss → LowFloors ss → NothingNegative (fields_read (log_now ss)) → log_says 5 (full_log ss) ≡ log_says 5 (log_now ss)
unfolding mode_of
nothing-negative ss i low n = same-says ss i 5 NotNegative SameOver0 eaten-same (rows-over ss i low n)

-- ---- small days: each value is 1

plain_over : (fs : List Fields) → AllPlain fs → NothingNegative fs
plain_over [] p = tt
plain_over (f ∷ fs) (plain-open d, p) = (nat_le (omega arith), nat_le (omega arith), plain_over fs p)
plain_over (f ∷ fs) (plain-close d, p) = (nat_le (omega arith), nat_le (omega arith), plain_over fs p)

-- THE FIGURES OF SMALL DAYS DO NOT MOVE, wherever the log is cut and whichever chunk was sent before.
pub small-days-same : (n : ℕ) → n ≤ 64 → (ss : List Sent) → AllSent ss → LowFloors ss → Memᴰ (log_now ss) (small_days n) → ValuesAlone ss × (log_says 5 (full_log ss) ≡ log_says 5 (log_now ss))
small-days-same n few ss i low m =
    let d : IsSmallDay n (log_now ss) = small-sound n few (log_now ss) m in
    let o : NothingNegative (fields_read (log_now ss)) = rw (fields-found (log_now ss) d.formed.fields d.formed.read) (plain_over d.formed.fields (all_plain d.formed.fields (log_now ss) d.formed.read d.ones)) in
    (values-alone ss i, nothing-negative ss i low o)
