-- One record more in a pass over a chunk: there is room for it, and what is known of the records so far holds of them with it. Assumes nothing.
use Rattle.std.specs.Prelude.{◌≡◌, refl, Bool, true, false, cond, List, [], ◌∷◌, ◌++◌, ℕ, ◌+◌, ◌-◌, ◌*◌, ◌^◌, ◌≤◌, ◌<◌, T, ℤ, length, take, drop, None}
use Rattle.std.proofs.Common.{sym, ap, subst, ◌∙◌, arith}
use Rattle.std.proofs.lemmas.List.{length-map}
use Rattle.gate.specs.Outcome.{granted}
use Rattle.record.specs.Record.{is_open, read_of}
use Rattle.record.proofs.Laws.{sound}
use Rattle.record.proofs.Handed as handed
use Rattle.record.proofs.Handed.{Handed}
use Rattle.record.specs.declared.Fields.{Fields}
use Rattle.hill.specs.Verdict.{pass}
use Rattle.hill.specs.Log.{Record, opening, closing, start_level, end_of, peak_of, opens, opened_of, joints, fault_of}
use Rattle.hill.specs.Summary.{Hill, whole, rise, fall, start, end, part_of}
use Rattle.hill.specs.Building.{empty, step, hill_of}
use Rattle.hill.proofs.Building.{run-append}
use Rattle.hill.proofs.Growth.{opened-append, opened-few}
use Rattle.hill.proofs.VerdictLaws.{count-few}
use Rattle.hill.proofs.SummaryLaws.{part_of-built, levels}
use Rattle.hill.specs.Valid.{Readable, AllReadable}
use Rattle.hill.proofs.ValidLaws.{readable-append}
use Rattle.modes.specs.FourModes.{Amounts, InRange}
use Rattle.figure.specs.Mode.{Mode}
use Rattle.figure.specs.Stored.{amounts, none}
use Rattle.slopes.specs.declared.Counts.{Counts}
use Rattle.slopes.specs.Arrays.{Arrays, Fig, Arrays64, StandsFor}
use Rattle.slopes.specs.Actions.{Room, entry, cost}
use Rattle.slopes.specs.Laws.{counts, able, restate, rise-is, fall-is, after_more, emptied, unit-bound}
use Rattle.summary.proofs.Values.{tells-range}
use Rattle.chunk.specs.Chunk.{record_of, chunk_of}
use Rattle.chunk.proofs.Laws.{chunk-append}
use Rattle.whole_log.specs.declared.Tally.{Tally}
use Rattle.whole_log.specs.Tallies.{Fresh, Tallied}
use Rattle.whole_log.specs.TallyLaws.{opened-is, met, faultless, joints-pass}
use Rattle.summarise.specs.Scans.{Grows, Grown, Summed}

-- ---- a record that was read

pub record-entry : (f : Fields) → record_of f ≡ entry (is_open f.kind) f.depth (amounts f.value f.floor f.ceiling)
record-entry f = go (is_open f.kind)
  where
    go : (o : Bool) → cond o (opening f.depth (amounts f.value f.floor f.ceiling)) (closing f.depth) ≡ entry o f.depth (amounts f.value f.floor f.ceiling)
    go true = refl
    go false = refl

module _ {v w x v' w' x' : ℤ} (ev : v ≡ v') (ew : w ≡ w') (ex : x ≡ x') where
  pub same-room : {o : Bool} {c : Counts} → Room o (amounts v' w' x') c → Room o (amounts v w x) c
  same-room r = rw (ev, ew, ex) r

  same-entry : (o : Bool) (d : ℕ) → entry o d (amounts v w x) ≡ entry o d (amounts v' w' x')
  same-entry o d = rw (ev, ew, ex)

-- the arrays have taken the record whose numbers the code has read
pub taken : {M : Mode} {A' : Arrays} {c' : Counts} (h : Hill (Fig M) Amounts) {b : ℕ} (f : Fields) {v w x : ℤ} → v ≡ f.value → w ≡ f.floor → x ≡ f.ceiling
    → StandsFor M A' c' (step M.algebra h (entry (is_open f.kind) f.depth (amounts v w x))) b → StandsFor M A' c' (step M.algebra h (record_of f)) b
taken {M} h {b} f ev ew ex s = restate s b (ap (step M.algebra h) (same-entry ev ew ex (is_open f.kind) f.depth ∙ sym (record-entry f))) (omega arith)

module _ (M : Mode) where
  abbrev AllRead : List (Record Amounts) → Type 0
  AllRead = AllReadable M.algebra M.sizes

  entry-readable : (o : Bool) (d : ℕ) (r : Amounts) → (d ≤ 63) × InRange r → Readable M.algebra M.sizes (entry o d r)
  entry-readable true d r h = h
  entry-readable false d r h = h.0

  pub start-low : (x : Record Amounts) → Readable M.algebra M.sizes x → start_level x ≤ 64
  start-low (opening d r) h = omega (arith, h.0)
  start-low (closing d) h = omega arith

  entry-cost : (o : Bool) (d : ℕ) (r : Amounts) → cost M o ≡ M.sizes.unit * opens (entry o d r)
  entry-cost true d r = omega arith
  entry-cost false d r = omega arith

  -- ---- a hill's slopes go from its peak to the start and to the end

  module _ (x : Record Amounts) (xs : List (Record Amounts)) (j : joints x xs ≡ pass) (h : opened_of (x ∷ xs) ≤ 100000) where
    pub no-fault : fault_of x xs ≡ pass
    no-fault = rw j (count-few (opened_of (x ∷ xs)) h)

    pub part-whole : part_of M.algebra x xs ≡ whole (peak_of x xs) (opened_of (x ∷ xs)) (hill_of M.algebra (x ∷ xs))
    part-whole = part_of-built M.algebra M.laws x xs ∙ rw no-fault

    pub start_is : peak_of x xs + rise (hill_of M.algebra (x ∷ xs)) ≡ start_level x
    start_is = sym (ap start part-whole) ∙ (levels M.algebra M.laws x xs).0

    pub end_is : peak_of x xs + fall (hill_of M.algebra (x ∷ xs)) ≡ end_of x xs
    end_is = sym (ap end part-whole) ∙ (levels M.algebra M.laws x xs).1

  -- ---- there is room

  -- for a record that starts at level s
  record Fits (c : Counts) (s : ℕ) : Type 0 where
    pub records : c.n ≤ s
    pub lefts : 0 < s → c.nl < 64 + c.n

  fits-room : {c : Counts} (o : Bool) (d : ℕ) (r : Amounts) → (d ≤ 63) × InRange r → Fits c (start_level (entry o d r)) → Room o r c
  fits-room true d r h f = record { up = λ _. (omega (arith, f.records, h.0), h.1); down = λ e. absurd (subst T e tt) }
  fits-room false d r h f = record { up = λ e. absurd (subst T (sym e) tt); down = λ _. f.lefts (omega arith) }

  module _ {A : Arrays} {c : Counts} {b : ℕ} (y : Record Amounts) (t u : Tally) (e : u.fault ≡ None) where
    hill-fits : (xs : List (Record Amounts)) → opened_of xs ≤ 100000 → AllRead xs → StandsFor M A c (hill_of M.algebra xs) b → Tallied xs t → Tallied (xs ++ (y ∷ [])) u
        → Fits c (start_level y)
    hill-fits [] h a s w v = record { records = omega (arith, fall-is s); lefts = λ _. omega (arith, rise-is s) }
    hill-fits (x ∷ xs) h a s w v =
        let j = joints-pass x xs t w (faultless y u e (x ∷ xs) t w v) in
        let m : end_of x xs ≡ start_level y = met y u e x xs v in
        let l = start-low x a.0 in
        let p = start_is x xs j h in
        let q = end_is x xs j h in
        record { records = omega (arith, fall-is s); lefts = λ high. omega (arith, rise-is s, fall-is s) }

  -- ---- the loop

  pub record Inv (s rest : List ℕ) (A : Arrays) (c : Counts) (t : Tally) : Type 0 where
    pub done : List Fields
    pub handed : Handed s rest done
    pub summed : Summed M A c t (chunk_of done)

  pub begin : (s : List ℕ) (A : Arrays) (z : ℤ) (t : Tally) → Arrays64 A → z ≡ none M → Fresh t → Inv s s A (counts 0 0 z) t
  begin s A z t l e f = record {
    done = [];
    handed = handed.start s;
    summed = record {
      readable = tt;
      few = omega arith;
      tallied = f;
      hill = λ _. restate (emptied M A z l e)
          (M.sizes.unit * 0) refl (omega arith);
    };
  }

  module _ {s rest : List ℕ} {A : Arrays} {c : Counts} {t : Tally} (i : Inv s rest A c t) (short : length s ≤ 65536) where
    pub opened-low : t.opened ≤ 65536
    opened-low = omega (arith, opened-is (chunk_of i.done) t i.summed.tallied, i.summed.few)

    module _ (f : Fields) (r : read_of rest ≡ granted f) where
      abbrev a : Amounts
      a = amounts f.value f.floor f.ceiling

      abbrev y : Record Amounts
      y = entry (is_open f.kind) f.depth a

      pub in-range : (f.depth ≤ 63) × InRange a
      in-range = (tells-range f.depth a).from (sound rest f r).ranged

      module _ (u : Tally) (w : Tallied (chunk_of i.done ++ (record_of f ∷ [])) u) where
        v : Tallied (chunk_of i.done ++ (y ∷ [])) u
        v = subst (λ (x : Record Amounts). Tallied (chunk_of i.done ++ (x ∷ [])) u) (record-entry f) w

        quiet : u.fault ≡ None → t.fault ≡ None
        quiet e = faultless y u e (chunk_of i.done) t i.summed.tallied v

        light : M.sizes.unit * opened_of (chunk_of i.done) < 2 ^ 62
        light = unit-bound M (opened_of (chunk_of i.done)) (omega (arith, i.summed.few))

        pub grows : Grows M u.fault f A c
        grows = record {
          able = λ e. able (i.summed.hill (quiet e)) light;
          room = λ e. fits-room (is_open f.kind) f.depth a in-range
              (hill-fits y t u e (chunk_of i.done) (omega (arith, i.summed.few)) i.summed.readable (i.summed.hill (quiet e)) i.summed.tallied v);
        }

        pub again : {A' : Arrays} {c' : Counts} → Grown M u.fault f A c A' c' → Inv s (take (length rest - f.length) (drop f.length rest)) A' c' u
        again {A'} {c'} g =
            let xs = chunk_of i.done in
            let e : chunk_of (i.done ++ (f ∷ [])) ≡ xs ++ (y ∷ []) = chunk-append i.done (f ∷ []) ∙ ap (λ z. xs ++ (z ∷ [])) (record-entry f) in
            record {
              done = i.done ++ (f ∷ []);
              handed = handed.next i.handed f r;
              summed = rw e record {
                readable = readable-append M.algebra M.sizes xs (y ∷ []) i.summed.readable (entry-readable (is_open f.kind) f.depth a in-range, tt);
                few = rw (← e) (omega (arith, opened-few (chunk_of (i.done ++ (f ∷ []))), length-map (i.done ++ (f ∷ [])) record_of, (handed.next i.handed f r).few));
                tallied = v;
                hill = λ z. restate (after_more (i.summed.hill (quiet z)) (λ h. step M.algebra h (record_of f)) (cost M (is_open f.kind)) (g z))
                    (M.sizes.unit * opened_of (xs ++ (y ∷ [])))
                    (ap (step M.algebra (hill_of M.algebra xs)) (record-entry f) ∙ sym (run-append M.algebra (empty M.algebra) xs (y ∷ [])))
                    (rw (opened-append xs (y ∷ []), entry-cost (is_open f.kind) f.depth a) (omega arith));
              };
            }
