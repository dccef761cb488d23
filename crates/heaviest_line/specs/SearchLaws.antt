-- The pass that looks for the end of the line: an open and a close keep what `Searched` says, and at the end of the log the end is found. Assumes nothing.
use Rattle.std.specs.Prelude.{◌≡◌, refl, Bool, true, false, cond, ◌&&◌, ◌⊎◌, List, [], ◌∷◌, ℕ, zero, suc, ◌+◌, ◌-◌, ◌*◌, ◌≤◌, ◌<◌, ℤ, pos, ◌+ℤ◌, nat_abs, length, get_or, set, replicate, take, drop, ◌<ℤ◌}
use Rattle.std.proofs.Common.{sym, ap, subst, ◌∙◌, true≢false, inl, inr, ⊎_elim, eq-or-lt_of_le, arith, length-set, get_or-set_same, get_or-set_other}
use Rattle.std.proofs.Math.Logic.{dite}
use Rattle.std.proofs.Math.Decide.{dec_lt}
use Rattle.std.specs.Int.Signed.{lt_z, ≤ℤ_refl}
use Rattle.gate.specs.Outcome.{granted}
use Rattle.number.specs.IntegerLaws.{zed, add-law, abs-law, abs-+}
use Rattle.record.specs.Record.{read_of}
use Rattle.record.proofs.Laws.{sound, within-size}
use Rattle.record.proofs.RangeLaws.{range-parts}
use Rattle.record.specs.declared.Fields.{Fields}
use Rattle.record.specs.declared.Kind.TheVariants as kind
use Rattle.modes.specs.FourModes.{Amounts, limit, nothing}
use Rattle.hill.specs.Log.{Record, opening, closing, depth, start_level, end_level, opens}
use Rattle.hill.specs.Closing.{at, OpensAt}
use Rattle.hill.proofs.HeldPlaces.{opening-closing}
use Rattle.chunk.specs.Chunk.{record_of, IsWellFormed}
use Rattle.chunk.proofs.Laws.{is_open_lem, is-close, one-log}
use Rattle.whole_log.specs.Second as second
use Rattle.whole_log.specs.Second.{Second}
use Rattle.log_records.specs.Numbers.{number_at}
use Rattle.log_records.proofs.NumberLaws.{number-next, number-most}
use Rattle.log_records.specs.Line.{line_places}
use Rattle.log_records.specs.Claims.{value_of, record_value, sum_of}
use Rattle.log_records.specs.Formed.{Formed}
use Rattle.log_records.proofs.Formed.{formed}
use Rattle.log_records.specs.StackLaws.{unwind, OpenStack, Leaf, Lighter}
use Rattle.log_records.proofs.StackLaws.{unwind-length, stack-start, open-level, stack-open, Left, stack-close, end-leaf, stack-line, first-heaviest}
use Rattle.heaviest_line.specs.declared.ends.Search.{Search}
use Rattle.heaviest_line.specs.Search.{Sums, LastOpens, NoEnd, SomeEnd, Searched, IsEnd}
use Rattle.heaviest_line.specs.Promised.{CanNote, after_open, after_close}

module _ (xs : List (Record Amounts)) where
  -- ---- the sums of the open records

  sums-top : (sums : List ℤ) (ps : List ℕ) → Sums xs sums ps → get_or sums (length ps) (pos 0) ≡ sum_of xs ps
  sums-top sums [] s = s
  sums-top sums (p ∷ ps) s = s.0

  sums_kept : (sums : List ℤ) (ps : List ℕ) (n : ℕ) (z : ℤ) → length ps < n → Sums xs sums ps → Sums xs (set sums n z) ps
  sums_kept sums [] n z l s = get_or-set_other sums n 0 z (pos 0) (λ e. omega arith) ∙ s
  sums_kept sums (p ∷ ps) n z l s = (get_or-set_other sums n (suc (length ps)) z (pos 0) (λ e. omega arith) ∙ s.0, sums_kept sums ps n z (omega arith) s.1)

  light-kept : (sums : List ℤ) (n : ℕ) (z : ℤ) → n < length sums → nat_abs z ≤ limit * n → ((j : ℕ) → nat_abs (get_or sums j (pos 0)) ≤ limit * j) → (j : ℕ) → nat_abs (get_or (set sums n z) j (pos 0)) ≤ limit * j
  light-kept sums n z l h light j =
      dite (dec_lt j n) (λ a. other (λ e. omega arith))
      (λ a. dite (dec_lt n j) (λ b. other (λ e. omega arith))
      (λ b. let g : n ≡ j = omega arith in subst (λ i. nat_abs (get_or (set sums n z) i (pos 0)) ≤ limit * i) g (subst (λ (y : ℤ). nat_abs y ≤ limit * n) (sym (get_or-set_same sums n z (pos 0) l)) h)))
    where
      other : (j ≡ n → ⊥) → nat_abs (get_or (set sums n z) j (pos 0)) ≤ limit * j
      other ne = subst (λ (y : ℤ). nat_abs y ≤ limit * j) (sym (get_or-set_other sums n j z (pos 0) ne)) (light j)

  -- ---- the end so far, one place on

  module _ (k : ℕ) (same : (r d : ℕ) → Leaf xs r d → suc r < suc k → suc r < k) where
    end_later : {s t : Search} → t.upto ≡ s.upto → t.depth ≡ s.depth → t.sum ≡ s.sum → NoEnd xs k s ⊎ SomeEnd xs k s → NoEnd xs (suc k) t ⊎ SomeEnd xs (suc k) t
    end_later e d a (inl n) = inl (record { none = λ r c l h. n.none r c l (same r c l h); nothing_yet = a ∙ n.nothing_yet })
    end_later e d a (inr n) = inr (record {
      place = n.place;
      stack = n.stack;
      stands = n.stands;
      leaf = n.leaf;
      closed = omega (arith, n.closed);
      counted = e ∙ n.counted;
      deep = d ∙ n.deep;
      adds = a ∙ n.adds;
      lighter = λ r c l h. n.lighter r c l (same r c l h);
    })

  module _ {k : ℕ} {s : Search} {sums : List ℤ} (i : Searched xs k s sums) (inside : k < length xs) where
    -- ---- an open

    module _ {d : ℕ} {r : Amounts} (e : at xs k ≡ opening d r) where
      level : d ≡ length i.stack
      level = open-level xs i.formed i.stands inside (r, e)

      not-leaf : (q c : ℕ) → Leaf xs q c → suc q < suc k → suc q < k
      not-leaf q c l h = ⊎_elim (λ (g : suc q ≡ k). absurd (opening-closing (at xs k) d c r e (ap (at xs) (sym g) ∙ l.closes))) (λ g. g) (eq-or-lt_of_le (omega arith))

      top-sum : (z : ℤ) → z ≡ get_or sums d (pos 0) +ℤ r.value → z ≡ sum_of xs (k ∷ i.stack)
      top-sum z h =
          let t : get_or sums d (pos 0) ≡ sum_of xs i.stack = ap (λ n. get_or sums n (pos 0)) level ∙ sums-top sums i.stack i.added in
          let v : r.value ≡ record_value xs k = ap value_of (sym e) in
          h ∙ ap (λ (y : ℤ). y +ℤ r.value) t ∙ ap (λ (y : ℤ). sum_of xs i.stack +ℤ y) v ∙ turned (sum_of xs i.stack) (record_value xs k)
        where
          turned : (a b : ℤ) → a +ℤ b ≡ b +ℤ a
          turned a b = omega (zed, add-law a b, add-law b a)

      searched-open : d < 64 → nat_abs r.value ≤ limit → Searched xs (suc k) (after_open s) (set sums (d + 1) (get_or sums d (pos 0) +ℤ r.value))
      searched-open deep small =
          let z : ℤ = get_or sums d (pos 0) +ℤ r.value in
          let n : d + 1 ≡ suc (length i.stack) = omega (arith, level) in
          record {
            formed = i.formed;
            stack = k ∷ i.stack;
            stands = stack-open xs i.formed i.stands inside (r, e);
            size = length-set sums (d + 1) z ∙ i.size;
            added = (ap (λ j. get_or (set sums (d + 1) z) j (pos 0)) (sym n) ∙ get_or-set_same sums (d + 1) z (pos 0) (omega (arith, i.size)) ∙ top-sum z refl, sums_kept sums i.stack (d + 1) z (omega (arith, level)) i.added);
            light = light-kept sums (d + 1) z (omega (arith, i.size)) (omega (arith, i.light d, abs-+ (get_or sums d (pos 0)) r.value)) i.light;
            counted = omega (arith, i.counted, number-next xs k inside, ap opens e);
            last = (k, d, refl, (r, e));
            best = end_later k not-leaf refl refl refl i.best;
          }

    -- ---- a close

    module _ {d : ℕ} (e : at xs k ≡ closing d) (deep : d < 64) where
      -- the record that it closes
      gone : Left xs k i.stack d
      gone = stack-close xs i.formed i.stack i.stands inside e

      stack-sums : Sums xs sums (gone.top ∷ gone.rest)
      stack-sums = subst (Sums xs sums) gone.is i.added

      closed-sum : get_or sums (d + 1) (pos 0) ≡ sum_of xs (gone.top ∷ gone.rest)
      closed-sum = let n : d + 1 ≡ suc (length gone.rest) = omega (arith, gone.closes) in ap (λ j. get_or sums j (pos 0)) n ∙ stack-sums.0

      sum-some : lt_z nothing (get_or sums (d + 1) (pos 0)) ≡ true
      sum-some = go (lt_z nothing (get_or sums (d + 1) (pos 0))) refl
        where
          go : (t : Bool) → lt_z nothing (get_or sums (d + 1) (pos 0)) ≡ t → t ≡ true
          go true h = refl
          go false h = absurd (omega (zed, h, deep, i.light (d + 1), abs-law (get_or sums (d + 1) (pos 0))))

      closed_after : (t : Search) → t.opened ≡ s.opened → t.opens ≡ false → NoEnd xs (suc k) t ⊎ SomeEnd xs (suc k) t → Searched xs (suc k) t sums
      closed_after t o f b = record {
        formed = i.formed;
        stack = gone.rest;
        stands = gone.before;
        size = i.size;
        added = stack-sums.1;
        light = i.light;
        counted = omega (arith, o, i.counted, number-next xs k inside, ap opens e);
        last = subst (LastOpens xs (suc k)) (sym f) (λ j c g u. let h : j ≡ k = omega arith in opening-closing (at xs k) c d u.0 (ap (at xs) (sym h) ∙ u.1) e);
        best = b;
      }

      -- where it does not follow an open, no end is met
      not_end : s.opens ≡ false → (q c : ℕ) → Leaf xs q c → suc q < suc k → suc q < k
      not_end f q c l h = ⊎_elim (λ (g : suc q ≡ k). absurd (subst (LastOpens xs k) f i.last q c (sym g) l.opens)) (λ g. g) (eq-or-lt_of_le (omega arith))

      -- where it follows one, that is the record that it closes
      module _ (f : s.opens ≡ true) where
        opened : LastOpens xs k true
        opened = subst (LastOpens xs k) f i.last

        abbrev j : ℕ
        j = opened.0

        opens-here : OpensAt xs j d
        opens-here =
            let m : suc opened.1 ≡ suc d = sym (ap end_level opened.3.1) ∙ i.formed.meets j (omega (arith, opened.2)) ∙ ap (λ n. start_level (at xs n)) (sym opened.2) ∙ ap start_level e in
            subst (OpensAt xs j) (omega arith) opened.3

        here-leaf : Leaf xs j d
        here-leaf = record { opens = opens-here; closes = ap (at xs) (sym opened.2) ∙ e; inside = omega (arith, opened.2) }

        top-is : gone.top ≡ j
        top-is =
            let w : OpenStack xs k (gone.top ∷ gone.rest) = subst (OpenStack xs k) gone.is i.stands.open-records in
            ⊎_elim (λ (g : gone.top ≡ j). g)
            (λ g. absurd (omega (arith, w.0.deeper j g (omega (arith, opened.2)), ap depth opens-here.1, gone.closes)))
            (eq-or-lt_of_le (omega (arith, w.0.before, opened.2)))

        here-stack : OpenStack xs j gone.rest
        here-stack = let w : OpenStack xs k (gone.top ∷ gone.rest) = subst (OpenStack xs k) gone.is i.stands.open-records in subst (λ n. OpenStack xs n gone.rest) top-is w.1

        here-sum : get_or sums (d + 1) (pos 0) ≡ sum_of xs (j ∷ gone.rest)
        here-sum = closed-sum ∙ ap (λ n. sum_of xs (n ∷ gone.rest)) top-is

        here-opens : OpensAt xs j (length gone.rest)
        here-opens = subst (OpensAt xs j) gone.closes opens-here

        -- an end before place k or this one
        which : (q c : ℕ) → Leaf xs q c → suc q < suc k → (suc q < k) ⊎ (q ≡ j)
        which q c l h = ⊎_elim (λ (g : suc q ≡ k). inr (omega (arith, opened.2))) (λ g. inl g) (eq-or-lt_of_le (omega arith))

        -- it is heavier than those before it, ..
        end-here : (t : Search) → t.upto ≡ s.opened → t.depth ≡ d → t.sum ≡ get_or sums (d + 1) (pos 0) → lt_z s.sum (get_or sums (d + 1) (pos 0)) ≡ true → NoEnd xs k s ⊎ SomeEnd xs k s → SomeEnd xs (suc k) t
        end-here t te td ts more b = record {
          place = j;
          stack = gone.rest;
          stands = here-stack;
          leaf = subst (Leaf xs j) gone.closes here-leaf;
          closed = omega (arith, opened.2);
          counted = omega (arith, te, i.counted, ap (number_at xs) opened.2, number-next xs j (omega (arith, opened.2)), ap opens opens-here.1);
          deep = td ∙ gone.closes;
          adds = ts ∙ here-sum;
          lighter = λ q c l h. ⊎_elim (λ g. before b q c l g) (λ (g : q ≡ j). subst (λ n. Lighter xs n j (sum_of xs (j ∷ gone.rest))) (sym g) itself) (which q c l h);
        }
          where
            itself : Lighter xs j j (sum_of xs (j ∷ gone.rest))
            itself = record { stack = gone.rest; stands = here-stack; opens = here-opens; most = ≤ℤ_refl (sum_of xs (j ∷ gone.rest)); before = λ h. absurd (omega arith) }

            before : NoEnd xs k s ⊎ SomeEnd xs k s → (q c : ℕ) → Leaf xs q c → suc q < k → Lighter xs q j (sum_of xs (j ∷ gone.rest))
            before (inl n) q c l g = absurd (n.none q c l g)
            before (inr n) q c l g =
                let x = n.lighter q c l g in
                let less : sum_of xs (q ∷ x.stack) <ℤ sum_of xs (j ∷ gone.rest) = omega (zed, x.most, n.adds, here-sum, more) in
                record { stack = x.stack; stands = x.stands; opens = x.opens; most = omega (zed, less); before = λ _. less }

        -- .. or not
        end_stays : (t : Search) → t.upto ≡ s.upto → t.depth ≡ s.depth → t.sum ≡ s.sum → lt_z s.sum (get_or sums (d + 1) (pos 0)) ≡ false → NoEnd xs k s ⊎ SomeEnd xs k s → SomeEnd xs (suc k) t
        end_stays t te td ts less (inl n) = absurd (true≢false (sym sum-some ∙ ap (λ (z : ℤ). lt_z z (get_or sums (d + 1) (pos 0))) (sym n.nothing_yet) ∙ less))
        end_stays t te td ts less (inr n) = record {
          place = n.place;
          stack = n.stack;
          stands = n.stands;
          leaf = n.leaf;
          closed = omega (arith, n.closed);
          counted = te ∙ n.counted;
          deep = td ∙ n.deep;
          adds = ts ∙ n.adds;
          lighter = λ q c l h. ⊎_elim (λ g. n.lighter q c l g) (λ (g : q ≡ j). subst (λ m. Lighter xs m n.place (sum_of xs (n.place ∷ n.stack))) (sym g) this) (which q c l h);
        }
          where
            this : Lighter xs j n.place (sum_of xs (n.place ∷ n.stack))
            this = record { stack = gone.rest; stands = here-stack; opens = here-opens; most = omega (zed, less, here-sum, n.adds); before = λ h. absurd (omega (arith, n.closed, opened.2)) }

      searched-close : Searched xs (suc k) (after_close s d (get_or sums (d + 1) (pos 0))) sums
      searched-close = go s.opens refl (lt_z s.sum (get_or sums (d + 1) (pos 0))) refl
        where
          taken : Search
          taken = record s { opens = false; upto = s.opened; depth = d; sum = get_or sums (d + 1) (pos 0) }

          kept : Search
          kept = record s { opens = false }

          go : (t : Bool) → s.opens ≡ t → (u : Bool) → lt_z s.sum (get_or sums (d + 1) (pos 0)) ≡ u → Searched xs (suc k) (cond (t && u) taken kept) sums
          go true f true h = closed_after taken refl refl (inr (end-here f taken refl refl refl h i.best))
          go true f false h = closed_after kept refl refl (inr (end_stays f kept refl refl refl h i.best))
          go false f u h = closed_after kept refl refl (end_later k (not_end f) refl refl refl i.best)

  -- ---- the beginning and the end of the log

  searched-start : Formed xs → {sums : List ℤ} → length sums ≡ 65 → ((j : ℕ) → get_or sums j (pos 0) ≡ pos 0) → (s : Search) → s.opened ≡ 0 → s.opens ≡ false → s.sum ≡ nothing → Searched xs 0 s sums
  searched-start f {sums} size zero-at s o l n = record {
    formed = f;
    stack = [];
    stands = stack-start xs f;
    size = size;
    added = zero-at 0;
    light = λ j. subst (λ (z : ℤ). nat_abs z ≤ limit * j) (sym (zero-at j)) (omega arith);
    counted = o;
    last = subst (LastOpens xs 0) (sym l) (λ j d g u. absurd (omega arith));
    best = inl (record { none = λ r d h g. absurd (omega arith); nothing_yet = n });
  }

  searched-end : {k : ℕ} {s : Search} {sums : List ℤ} → Searched xs k s sums → length xs ≤ k → IsEnd xs s.upto s.depth
  searched-end {k} {s} i all = go i.best
    where
      go : NoEnd xs k s ⊎ SomeEnd xs k s → IsEnd xs s.upto s.depth
      go (inl n) = let l = end-leaf xs i.formed in absurd (n.none _ l.0 l.1 (omega (arith, l.1.inside)))
      go (inr n) =
          let first = first-heaviest xs i.formed n.place (length n.stack) n.stack n.leaf n.stands n.leaf.opens (λ r d l. n.lighter r d l (omega (arith, l.inside))) in
          let line : (ps : List ℕ) → OpenStack xs n.place ps → length ps ≡ length n.stack → unwind ps (n.place ∷ []) ≡ line_places xs
          = λ ps w e. stack-line xs i.formed ps n.place (length n.stack) w (subst (OpensAt xs n.place) (sym e) n.leaf.opens) n.leaf first in
          record {
            formed = i.formed;
            place = n.place;
            leaf = subst (Leaf xs n.place) (sym n.deep) n.leaf;
            counted = n.counted;
            is-line = λ ps w e. line ps w (e ∙ n.deep);
            long = ap length (sym (line n.stack n.stands refl)) ∙ unwind-length n.stack (n.place ∷ []) ∙ omega (arith, n.deep);
          }

-- ---- one record, as the code has it: what it adds and compares is given by equations

module _ {s : Search} (f : Fields) {sums : List ℤ} (b : CanNote s f sums) (xs : List (Record Amounts)) (k : ℕ) (i : Searched xs k s sums) (inside : k < length xs) (here : at xs k ≡ record_of f) where
  pub note-open : f.kind ≡ kind.Open → {r : Search} {sums' : List ℤ} {v : ℤ} → v ≡ f.value → (r ≡ after_open s) × (sums' ≡ set sums (f.depth + 1) (get_or sums f.depth (pos 0) +ℤ v)) → Searched xs (suc k) r sums'
  note-open o ev e = rw (e.0, e.1, ev) (searched-open xs i inside (here ∙ is_open_lem f o) b.adds.deep b.adds.value-light)

  pub note-close : f.kind ≡ kind.Close → {r : Search} {z : ℤ} → z ≡ get_or sums (f.depth + 1) (pos 0) → r ≡ after_close s f.depth z → Searched xs (suc k) r sums
  note-close o ez e = rw (e, ez) (searched-close xs i inside (here ∙ is-close f o) b.adds.deep)

-- ---- the pass over a log that was let through

-- Of the log, `rest` is left to be read.
pub record Searching (log rest : List ℕ) (s : Search) (sums : List ℤ) : Type 0 where
  pub records : List (Record Amounts)
  pub is : IsWellFormed log records
  pub place : ℕ
  pub second : Second records rest place
  pub searched : Searched records place s sums

zero-at : (n j : ℕ) → get_or (replicate n (pos 0)) j (pos 0) ≡ pos 0
zero-at zero j = refl
zero-at (suc n) zero = refl
zero-at (suc n) (suc j) = zero-at n j

pub searching-start : {log : List ℕ} → (xs : List (Record Amounts)) × IsWellFormed log xs → (s : Search) → s.opened ≡ 0 → s.opens ≡ false → s.sum ≡ nothing → Searching log log s (replicate 65 (pos 0))
searching-start w s o l n = record { records = w.0; is = w.1; place = 0; second = second.begin w.1; searched = searched-start w.0 (formed w.0 w.1.fine) refl (zero-at 65) s o l n }

module _ {log rest : List ℕ} {s : Search} {sums : List ℤ} (i : Searching log rest s sums) where
  module _ {f : Fields} (e : read_of rest ≡ granted f) where
    pub can-note : CanNote s f sums
    can-note =
        let r = range-parts f.depth f.value f.floor f.ceiling (sound rest f e).ranged in
        record {
          adds = record { deep = omega (arith, r.depth); value-light = within-size f.value r.value; sum-light = omega (arith, r.depth, i.searched.light f.depth) };
          few = omega (arith, i.searched.counted, number-most i.records i.place, i.searched.formed.few);
        }

    pub searching-next : {t : Search} {sums' : List ℤ} → ((xs : List (Record Amounts)) (k : ℕ) → Searched xs k s sums → k < length xs → at xs k ≡ record_of f → Searched xs (suc k) t sums') → Searching log (take (length rest - f.length) (drop f.length rest)) t sums'
    searching-next step = record {
      records = i.records;
      is = i.is;
      place = suc i.place;
      second = second.next i.second e;
      searched = step i.records i.place i.searched (second.inside i.second e) (second.here i.second e);
    }

  pub found : length rest ≤ 0 → (xs : List (Record Amounts)) → IsWellFormed log xs → IsEnd xs s.upto s.depth
  found h xs w = subst (λ ys. IsEnd ys s.upto s.depth) (one-log i.is w) (searched-end i.records i.searched (second.ended i.second h))
