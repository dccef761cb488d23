-- The pass that finds the record in common: what one record more leaves, and what is found when the later of the two is opened. Assumes nothing.
use Rattle.std.specs.Prelude.{◌≡◌, refl, ◌↔◌, cond, List, [], ◌∷◌, ℕ, suc, ◌+◌, ◌-◌, ◌≤◌, ◌<◌, min, eqb, length, get_or, set, take, drop}
use Rattle.std.proofs.Common.{sym, ap, subst, ◌∙◌, ⊎_elim, eq-or-lt_of_le, arith, eq-eqb, ne_eqb}
use Rattle.std.proofs.Math.Logic.{dite}
use Rattle.std.proofs.Math.Decide.{dec_lt}
use Rattle.gate.specs.Outcome.{granted}
use Rattle.record.specs.Record.{read_of}
use Rattle.record.proofs.Laws.{sound}
use Rattle.record.specs.declared.Fields.{Fields}
use Rattle.record.specs.declared.Kind.TheVariants as kind
use Rattle.modes.specs.FourModes.{Amounts}
use Rattle.hill.specs.Log.{Record, opening, closing, start_level, end_level}
use Rattle.hill.specs.Closing.{at, OpensAt}
use Rattle.hill.proofs.HeldPlaces.{opening-closing, opens-inside}
use Rattle.chunk.specs.Chunk.{record_of, IsWellFormed}
use Rattle.chunk.proofs.Laws.{depth_low, low-log, is_open_lem, is-close, one-log}
use Rattle.whole_log.specs.Second as second
use Rattle.whole_log.specs.Second.{Second}
use Rattle.log_records.specs.Numbers.{number_at, IsRecord}
use Rattle.log_records.proofs.NumberLaws.{counted-from-0, number-mono, number-before, number-most}
use Rattle.log_records.specs.Formed.{Formed}
use Rattle.log_records.proofs.Formed.{depth-once, formed}
use Rattle.log_records.specs.StackLaws.{OpenBefore, OpenStack}
use Rattle.log_records.proofs.StackLaws.{open-through, open-level, Left, stack-close}
use Rattle.log_records.specs.OpenNumbers.{Numbered, OpenNumbers}
use Rattle.log_records.proofs.OpenNumbers.{numbers-start, numbers-open, numbers-close}
use Rattle.common_record.specs.Common.{common_number}
use Rattle.common_record.specs.Claims.{IsOrHolds, InCommon}
use Rattle.common_record.proofs.HoldingLaws.{StillOpen, open-earlier, open-once, open-depth, holding-open}
use Rattle.common_record.proofs.HoldingWays.{open-holding}
use Rattle.common_record.proofs.CommonLaws.{common-is}
use Rattle.common.specs.declared.walk.Progress.{Progress}
use Rattle.common.specs.Walk.{Shares, Walked, InOrder}

-- ---- the open records that are shared

-- no more than are open
shares-fewer : (p n m : ℕ) (stack : List ℕ) → length stack ≤ m → Shares p n stack → Shares p (min n m) stack
shares-fewer p n m [] l h = tt
shares-fewer p n m (q ∷ qs) l h = ((λ a. let b : length qs < n = h.0.0 a in omega arith, λ a. h.0.1 (omega arith)), shares-fewer p n m qs (omega arith) h.1)

module _ (xs : List (Record Amounts)) where
  -- all, where the earlier of the two is opened here
  shares-all : (p k n : ℕ) (stack : List ℕ) → OpenStack xs k stack → k ≤ p → length stack ≤ n → Shares p n stack
  shares-all p k n [] w a l = tt
  shares-all p k n (q ∷ qs) w a l = ((λ _. omega arith, λ _. omega (arith, w.0.before)), shares-all p q n qs w.1 (omega (arith, w.0.before)) (omega arith))

  -- the open record of depth i
  record OpenOne (k i : ℕ) (stack : List ℕ) : Type 0 where
    pub place : ℕ
    pub stands : OpenBefore xs k place i
    pub number : (ns : List ℕ) → Numbered xs ns stack → get_or ns i 0 ≡ number_at xs place
    pub shared : (p n : ℕ) → Shares p n stack → (place ≤ p) ↔ (i < n)

  open-one : (stack : List ℕ) (k i : ℕ) → OpenStack xs k stack → i < length stack → OpenOne k i stack
  open-one [] k i w l = absurd (omega arith)
  open-one (q ∷ qs) k i w l = ⊎_elim top (λ m. under m (open-one qs q i w.1 m)) (eq-or-lt_of_le here)
    where
      here : i ≤ length qs
      here = omega arith

      top : i ≡ length qs → OpenOne k i (q ∷ qs)
      top e = record { place = q; stands = subst (OpenBefore xs k q) (sym e) w.0; number = λ ns h. ap (λ j. get_or ns j 0) e ∙ h.0; shared = λ p n h. subst (λ j. (q ≤ p) ↔ (j < n)) (sym e) h.0 }

      under : i < length qs → OpenOne q i qs → OpenOne k i (q ∷ qs)
      under m u = record { place = u.place; stands = open-through xs u.stands w.0 m; number = λ ns h. u.number ns h.1; shared = λ p n h. u.shared p n h.1 }

  -- ---- one record more

  walked_start : {earlier : ℕ} {s : Progress} {ns : List ℕ} → Formed xs → length ns ≡ 64 → s.opened ≡ 0 → Walked xs earlier 0 s ns
  walked_start f e o = record { formed = f; stack = []; numbers = numbers-start xs f e o; shares = λ p d r l. absurd (omega arith) }

  module _ {earlier k : ℕ} {s : Progress} {ns : List ℕ} (i : Walked xs earlier k s ns) (inside : k < length xs) where
    walked-open : {d : ℕ} {r : Amounts} {t : Progress} → at xs k ≡ opening d r → d ≤ 63 → t.opened ≡ s.opened + 1 → t.shared ≡ cond (eqb s.opened earlier) (d + 1) s.shared
        → Walked xs earlier (suc k) t (set ns d s.opened)
    walked-open {d} {r} {t} e low eo es = record {
      formed = i.formed;
      stack = k ∷ i.stack;
      numbers = subst (λ n. OpenNumbers xs (suc k) n (set ns d s.opened) (k ∷ i.stack)) (sym eo) (numbers-open xs i.formed i.numbers inside (r, e) low);
      shares = λ p c q l. ⊎_elim (λ (g : p ≡ k). earlier-here p c q g) (λ g. earlier-before p c q g) (eq-or-lt_of_le (omega arith));
    }
      where
        level : d ≡ length i.stack
        level = open-level xs i.formed i.numbers.stands inside (r, e)

        this : IsRecord xs s.opened k d
        this = record { opens = (r, e); number = sym i.numbers.counted }

        earlier-here : (p c : ℕ) → IsRecord xs earlier p c → p ≡ k → (t.shared ≤ length (k ∷ i.stack)) × Shares p t.shared (k ∷ i.stack)
        earlier-here p c q g =
            let n : t.shared ≡ d + 1 = es ∙ ap (λ b. cond b (d + 1) s.shared) (eq-eqb s.opened earlier (i.numbers.counted ∙ ap (number_at xs) (sym g) ∙ q.number)) in
            (omega (arith, level), ((λ _. omega (arith, level), λ _. omega arith), shares-all p k t.shared i.stack i.numbers.stands.open-records (omega arith) (omega (arith, level))))

        earlier-before : (p c : ℕ) → IsRecord xs earlier p c → p < k → (t.shared ≤ length (k ∷ i.stack)) × Shares p t.shared (k ∷ i.stack)
        earlier-before p c q l =
            let m : earlier < s.opened = ((counted-from-0 xs).in_order earlier s.opened p k c d q this).1 l in
            let n : t.shared ≡ s.shared = es ∙ ap (λ b. cond b (d + 1) s.shared) (ne_eqb s.opened earlier (λ g. omega arith)) in
            let h = i.shares p c q l in
            subst (λ j. (j ≤ suc (length i.stack)) × (((k ≤ p) ↔ (length i.stack < j)) × Shares p j i.stack)) (sym n) (omega (arith, h.0), ((λ a. absurd (omega arith), λ a. absurd (omega (arith, h.0))), h.1))

    walked-close : {d : ℕ} {t : Progress} → at xs k ≡ closing d → t.opened ≡ s.opened → t.shared ≡ min s.shared d → Walked xs earlier (suc k) t ns
    walked-close {d} {t} e eo es = record {
      formed = i.formed;
      stack = gone.rest;
      numbers = subst (λ n. OpenNumbers xs (suc k) n ns gone.rest) (sym eo) (numbers-close xs i.formed i.numbers inside e gone);
      shares = λ p c q l.
          let m : p < k = ⊎_elim (λ (g : p ≡ k). absurd (opening-closing (at xs k) c d q.opens.0 (ap (at xs) (sym g) ∙ q.opens.1) e)) (λ g. g) (eq-or-lt_of_le (omega arith)) in
          let h = (subst (λ ps. (s.shared ≤ length ps) × Shares p s.shared ps) gone.is (i.shares p c q m)).1.1 in
          subst (λ j. (j ≤ length gone.rest) × Shares p j gone.rest) (sym es) (omega (arith, gone.closes), shares-fewer p s.shared d gone.rest (omega (arith, gone.closes)) h);
    }
      where
        gone : Left xs k i.stack d
        gone = stack-close xs i.formed i.stack i.numbers.stands inside e

  -- ---- when the later of the two was opened just now

  pub record WalkEnd (earlier later : ℕ) (s : Progress) (ns : List ℕ) : Type 0 where
    pub some : 0 < s.shared
    pub few : s.shared ≤ length ns
    pub is : InCommon xs earlier later (get_or ns (s.shared - 1) 0)

  module _ (low : (p d : ℕ) → OpensAt xs p d → d ≤ 63) {earlier later k : ℕ} {s : Progress} {ns : List ℕ} (i : Walked xs earlier k s ns) {p c q d : ℕ} (a : IsRecord xs earlier p c) (b : IsRecord xs later q d)
      (order : p ≤ q) (just : suc q ≡ k) where
    inner : q < length xs
    inner = opens-inside xs q d b.opens

    high : length i.stack ≡ suc d
    high =
        ⊎_elim (λ (g : suc q ≡ length xs). absurd (omega (arith, i.formed.closed q g, ap end_level b.opens.1)))
        (λ g. sym (i.numbers.stands.level (omega arith)) ∙ ap (λ j. start_level (at xs j)) (sym just) ∙ sym (i.formed.meets q g) ∙ ap end_level b.opens.1) (eq-or-lt_of_le inner)

    sharing : (s.shared ≤ length i.stack) × Shares p s.shared i.stack
    sharing = i.shares p c a (omega arith)

    -- the open record of depth e: it is open at both, if it is shared
    one : (e : ℕ) → e ≤ d → OpenOne k e i.stack
    one e l = open-one i.stack k e i.numbers.stands.open-records (omega (arith, high))

    at-later : (e : ℕ) (l : e ≤ d) → StillOpen xs (one e l).place e q
    at-later e l = subst (λ j. OpenBefore xs j (one e l).place e) (sym just) (one e l).stands

    root-shared : 0 < s.shared
    root-shared =
        let w = one 0 (omega arith) in
        dite (dec_lt 0 w.place) (λ l. absurd (omega (arith, i.formed.raised w.place l (opens-inside xs w.place 0 w.stands.opens), ap start_level w.stands.opens.1)))
        (λ l. (w.shared p s.shared sharing.1).0 (omega arith))

    abbrev bottom : ℕ
    bottom = s.shared - 1

    shallow : bottom ≤ d
    shallow = omega (arith, sharing.0, high)

    at-earlier : StillOpen xs (one bottom shallow).place bottom p
    at-earlier = open-earlier xs (at-later bottom shallow) (((one bottom shallow).shared p s.shared sharing.1).1 (omega (arith, root-shared))) order

    walked_end : WalkEnd earlier later s ns
    walked_end = record {
      some = root-shared;
      few = omega (arith, sharing.0, high, low q d b.opens, i.numbers.size);
      is = record {
        place-a = p;
        depth-a = c;
        record-a = a;
        place-b = q;
        depth-b = d;
        record-b = b;
        place = (one bottom shallow).place;
        depth = bottom;
        is-record = record { opens = (one bottom shallow).stands.opens; number = sym ((one bottom shallow).number ns i.numbers.numbered) };
        with-a = open-holding xs i.formed.meets a.opens at-earlier;
        with-b = open-holding xs i.formed.meets b.opens (at-later bottom shallow);
        deepest = deepest;
      };
    }
      where
        deepest : (j e : ℕ) → OpensAt xs j e → IsOrHolds xs j p → IsOrHolds xs j q → e ≤ bottom
        deepest j e o u v =
            let x = holding-open xs i.formed.meets u in
            let y = holding-open xs i.formed.meets v in
            let w : StillOpen xs j e q = subst (λ n. StillOpen xs j n q) (depth-once xs j y.0 e y.1.opens o) y.1 in
            let l : e ≤ d = open-depth xs w b.opens in
            let g : (one e l).place ≡ j = open-once xs (at-later e l) w in
            omega (arith, ((one e l).shared p s.shared sharing.1).0 (omega (arith, x.1.before)))

-- ---- one record, as the code has it

module _ (f : Fields) {earlier : ℕ} {s : Progress} {ns : List ℕ} (xs : List (Record Amounts)) (k : ℕ) (i : Walked xs earlier k s ns) (inside : k < length xs) (here : at xs k ≡ record_of f) where
  pub note-open : {n : ℕ} → f.kind ≡ kind.Open → f.depth ≤ 63 → n ≡ cond (eqb s.opened earlier) (f.depth + 1) s.shared → Walked xs earlier (suc k) (record { opened = s.opened + 1; shared = n }) (set ns f.depth s.opened)
  note-open o l e = walked-open xs i inside (here ∙ is_open_lem f o) l refl e

  pub note-close : {n : ℕ} → f.kind ≡ kind.Close → n ≡ min s.shared f.depth → Walked xs earlier (suc k) (record { opened = s.opened; shared = n }) ns
  note-close o e = walked-close xs i inside (here ∙ is-close f o) refl e

-- ---- the pass over a log that was let through, up to the later of the two

-- Of the log, `rest` is left to be read; where the later of the two is opened, it was just now.
pub record Walking (log rest : List ℕ) (earlier later : ℕ) (s : Progress) (ns : List ℕ) : Type 0 where
  pub in_order : InOrder log earlier later
  pub place : ℕ
  pub second : Second in_order.both.records rest place
  pub walked : Walked in_order.both.records earlier place s ns
  pub just : (q d : ℕ) → IsRecord in_order.both.records later q d → q < place → suc q ≡ place

pub walking_start : {log : List ℕ} {earlier later : ℕ} {s : Progress} {ns : List ℕ} → InOrder log earlier later → length ns ≡ 64 → s.opened ≡ 0 → Walking log log earlier later s ns
walking_start w e o = record { in_order = w; place = 0; second = second.begin w.both.is; walked = walked_start w.both.records (formed w.both.records w.both.is.fine) e o; just = λ q d r l. absurd (omega arith) }

module _ {log rest : List ℕ} {earlier later : ℕ} {s : Progress} {ns : List ℕ} (i : Walking log rest earlier later s ns) where
  -- the later of the two
  later-record : (q : ℕ) × (d : ℕ) × IsRecord i.in_order.both.records later q d
  later-record = (counted-from-0 i.in_order.both.records).some later i.in_order.both.below-b

  module _ (h : s.opened ≤ later) where
    to-come : i.place ≤ later-record.0
    to-come = number-before i.in_order.both.records later-record.0 i.place later-record.1 later-record.2.opens (omega (arith, i.walked.numbers.counted, later-record.2.number))

    -- there is a record left
    pub some_left : 0 < length rest
    some_left = dite (dec_lt 0 (length rest)) (λ l. l) (λ l. absurd (omega (arith, second.ended i.second (omega arith), to-come, opens-inside i.in_order.both.records later-record.0 later-record.1 later-record.2.opens)))

    module _ {f : Fields} (e : read_of rest ≡ granted f) where
      pub can-note : (f.depth ≤ 63) × (s.opened ≤ 100_000)
      can-note = (depth_low f (sound rest f e).ranged, omega (arith, i.walked.numbers.counted, number-most i.in_order.both.records i.place, i.walked.formed.few))

      pub walking-next : {t : Progress} {ns' : List ℕ} → ((xs : List (Record Amounts)) (k : ℕ) → Walked xs earlier k s ns → k < length xs → at xs k ≡ record_of f → Walked xs earlier (suc k) t ns')
          → Walking log (take (length rest - f.length) (drop f.length rest)) earlier later t ns'
      walking-next step = record {
        in_order = i.in_order;
        place = suc i.place;
        second = second.next i.second e;
        walked = step i.in_order.both.records i.place i.walked (second.inside i.second e) (second.here i.second e);
        just = λ q d r l.
            let g : q ≡ later-record.0 = (counted-from-0 i.in_order.both.records).once later q later-record.0 d later-record.1 r later-record.2 in
            omega (arith, to-come);
      }

  module _ (h : later < s.opened) where
    pub found : WalkEnd i.in_order.both.records earlier later s ns
    found =
        let xs = i.in_order.both.records in
        let a = (counted-from-0 xs).some earlier (omega (arith, i.in_order.both.below-a)) in
        let b = later-record in
        let past : b.0 < i.place = dite (dec_lt b.0 i.place) (λ l. l) (λ l. absurd (omega (arith, number-mono xs i.place b.0 (omega arith), b.2.number, i.walked.numbers.counted))) in
        let order : a.0 ≤ b.0 = number-before xs b.0 a.0 b.1 b.2.opens (omega (arith, a.2.number, b.2.number, i.in_order.order)) in
        walked_end xs (low-log i.in_order.both.is) i.walked a.2 b.2 order (i.just b.0 b.1 b.2 past)

    -- WHAT IS FOUND is the record in common.
    pub found-common : (xs : List (Record Amounts)) → IsWellFormed log xs → get_or ns (s.shared - 1) 0 ≡ common_number xs earlier later
    found-common xs w = common-is i.in_order.both.records i.in_order.both.is.fine found.is ∙ ap (λ ys. common_number ys earlier later) (one-log i.in_order.both.is w)
