-- Two records of a log without fault have exactly one record in common, the smallest that is or holds both, and it is the one computed. Assumes nothing.
use Rattle.std.specs.Prelude.{◌≡◌, ◌↔◌, Bool, cond, ◌&&◌, List, ltb, length, take}
use Rattle.std.proofs.Math.Path.{refl, ap}
use Rattle.std.proofs.Common.{sym, subst, ◌∙◌, true≢false, eq-or-lt_of_le, ltb-true, ltb-false}
use Rattle.std.proofs.Math.Logic.{⊎_elim}
use Rattle.std.proofs.Math.Bool.{true, false}
use Prim.Native.Nat.{ℕ, zero, suc, ◌≤◌, ◌<◌}
use native.Mathlib.Omega.{arith}
use Rattle.record.proofs.Laws.{and_left, and_right}
use Rattle.hill.specs.Verdict.{pass}
use Rattle.hill.specs.Log.{Record, closing, depth, end_level, opened_of, log_fault}
use Rattle.hill.specs.Closing.{at, OpensAt}
use Rattle.hill.proofs.HeldPlaces.{opening-closing, opens-inside}
use Rattle.log_records.specs.Numbers.{place_of, IsRecord}
use Rattle.log_records.proofs.NumberLaws.{counted-from-0, record-at}
use Rattle.log_records.specs.Formed.{Formed}
use Rattle.log_records.proofs.Formed.{depth-once, formed}
use Rattle.common_record.specs.Common.{open_up_to, deeper_of, deepest_up_to, common_number}
use Rattle.common_record.specs.Claims.{IsOrHolds, itself, InCommon, OneInCommon}
use Rattle.common_record.proofs.HoldingLaws.{StillOpen, open-earlier, open-once, open_order, open-depth, unclosed-open, holding-open}
use Rattle.common_record.proofs.HoldingWays.{open-holding, test-open, open-test}

module _ {R : Type 0} where
  module _ (log : List (Record R)) where
    -- ---- two records have one in common at most, the same either way round

    common-swap : {a b n : ℕ} → InCommon log a b n → InCommon log b a n
    common-swap x = record {
      place-a = x.place-b;
      depth-a = x.depth-b;
      record-a = x.record-b;
      place-b = x.place-a;
      depth-b = x.depth-a;
      record-b = x.record-a;
      place = x.place;
      depth = x.depth;
      is-record = x.is-record;
      with-a = x.with-b;
      with-b = x.with-a;
      deepest = λ k e o u v. x.deepest k e o v u;
    }

    module _ (f : Formed log) where
      common-once : {a b m n : ℕ} → InCommon log a b m → InCommon log a b n → m ≡ n
      common-once {a} {b} {m} {n} x y =
          let same-a : x.place-a ≡ y.place-a = (counted-from-0 log).once a x.place-a y.place-a x.depth-a y.depth-a x.record-a y.record-a in
          let same-b : x.place-b ≡ y.place-b = (counted-from-0 log).once b x.place-b y.place-b x.depth-b y.depth-b x.record-b y.record-b in
          let xa : IsOrHolds log x.place y.place-a = subst (IsOrHolds log x.place) same-a x.with-a in
          let xb : IsOrHolds log x.place y.place-b = subst (IsOrHolds log x.place) same-b x.with-b in
          let ya : IsOrHolds log y.place x.place-a = subst (IsOrHolds log y.place) (sym same-a) y.with-a in
          let yb : IsOrHolds log y.place x.place-b = subst (IsOrHolds log y.place) (sym same-b) y.with-b in
          let deep : x.depth ≡ y.depth = omega (arith, x.deepest y.place y.depth y.is-record.opens ya yb, y.deepest x.place x.depth x.is-record.opens xa xb) in
          let u = holding-open log f.meets xa in
          let w = holding-open log f.meets y.with-a in
          let eu : u.0 ≡ y.depth = depth-once log x.place u.0 x.depth u.1.opens x.is-record.opens ∙ deep in
          let ew : w.0 ≡ y.depth = depth-once log y.place w.0 y.depth w.1.opens y.is-record.opens in
          let s : x.place ≡ y.place = open-once log (subst (λ d. StillOpen log x.place d y.place-a) eu u.1) (subst (λ d. StillOpen log y.place d y.place-a) ew w.1) in
          sym x.is-record.number ∙ ap (λ p. opened_of (take p log)) s ∙ y.is-record.number

      -- one that is the other or holds it is what they have in common
      common-holder : {a b p q d e : ℕ} → IsRecord log a p d → IsRecord log b q e → IsOrHolds log p q → InCommon log a b a
      common-holder {a} {b} {p} {q} {d} {e} ra rb i = record {
        place-a = p;
        depth-a = d;
        record-a = ra;
        place-b = q;
        depth-b = e;
        record-b = rb;
        place = p;
        depth = d;
        is-record = ra;
        with-a = itself p d ra.opens;
        with-b = i;
        deepest = λ k c o u v. let w = holding-open log f.meets u in omega (arith, open-depth log w.1 ra.opens, depth-once log k w.0 c w.1.opens o);
      }

      module _ {a b n : ℕ} (x : InCommon log a b n) where
        -- each that is or holds both is it or holds it
        smallest-one : (k : ℕ) → IsOrHolds log k x.place-a → IsOrHolds log k x.place-b → IsOrHolds log k x.place
        smallest-one k u v =
            let w = holding-open log f.meets u in
            let c = holding-open log f.meets x.with-a in
            let l : w.0 ≤ c.0 = omega (arith, x.deepest k w.0 w.1.opens u v, depth-once log x.place c.0 x.depth c.1.opens x.is-record.opens) in
            open-holding log f.meets x.is-record.opens (open-earlier log w.1 (open_order log w.1 c.1 l) (omega (arith, c.1.before)))

        own-number : (n ≡ a) ↔ IsOrHolds log x.place-a x.place-b
        own-number = (
          (λ e.
              let s : x.place ≡ x.place-a = (counted-from-0 log).once a x.place x.place-a x.depth x.depth-a (subst (λ m. IsRecord log m x.place x.depth) e x.is-record) x.record-a in
              subst (λ p. IsOrHolds log p x.place-b) s x.with-b),
          λ i. common-once x (common-holder x.record-a x.record-b i),
        )

      one_in : {a b n : ℕ} → InCommon log a b n → OneInCommon log a b n
      unfolding common-swap
      one_in x = record { is = x; only = λ m y. common-once y x; smallest = smallest-one x; own-a = own-number x; own-b = own-number (common-swap x) }

      -- ---- the one computed

      -- the root is open at every record
      root-open : {q e : ℕ} → OpensAt log q e → StillOpen log 0 0 q
      root-open {q} {e} o = unclosed-open log f.meets f.root (omega arith) i none
        where
          i : q < length log
          i = opens-inside log q e o

          none : (k : ℕ) → 0 < k → k ≤ q → at log k ≡ closing 0 → ⊥
          none k a b x =
              ⊎_elim (λ (s : k ≡ q). opening-closing (at log q) e 0 o.0 o.1 (ap (at log) (sym s) ∙ x))
              (λ l. omega (arith, f.raised (suc k) (omega arith) (omega (arith, i)), f.meets k (omega (arith, i)), ap end_level x)) (eq-or-lt_of_le b)

      -- of the records up to place n that are open at a and at b, c is the deepest
      record Deepest (a b n c : ℕ) : Type 0 where
        pub deep : ℕ
        pub at_a : StillOpen log c deep a
        pub at_b : StillOpen log c deep b
        pub most : (k e : ℕ) → k ≤ n → StillOpen log k e a → StillOpen log k e b → e ≤ deep

      module _ (a b : ℕ) {da db : ℕ} (oa : OpensAt log a da) (ob : OpensAt log b db) where
        -- one more that is open at both
        further : (n c : ℕ) → Deepest a b n c → (d : ℕ) → StillOpen log (suc n) d a → StillOpen log (suc n) d b → Deepest a b (suc n) (deeper_of log c (suc n))
        further n c w d u v = go (ltb (depth (at log c)) (depth (at log (suc n)))) refl
          where
            old : depth (at log c) ≡ w.deep
            old = ap depth w.at_a.opens.1

            new : depth (at log (suc n)) ≡ d
            new = ap depth u.opens.1

            here : (k e : ℕ) → k ≡ suc n → StillOpen log k e a → e ≡ d
            here k e s x = depth-once log (suc n) e d (subst (λ j. OpensAt log j e) s x.opens) u.opens

            go : (t : Bool) → ltb (depth (at log c)) (depth (at log (suc n))) ≡ t → Deepest a b (suc n) (cond t (suc n) c)
            go true t =
                let l : w.deep < d = omega (arith, ltb-true (depth (at log c)) (depth (at log (suc n))) t, old, new) in
                record { deep = d; at_a = u; at_b = v; most = λ k e h x y. ⊎_elim (λ (s : k ≡ suc n). omega (arith, here k e s x)) (λ s. omega (arith, w.most k e (omega arith) x y)) (eq-or-lt_of_le h) }
            go false t =
                let l : d ≤ w.deep = omega (arith, ltb-false (depth (at log c)) (depth (at log (suc n))) t, old, new) in
                record { deep = w.deep; at_a = w.at_a; at_b = w.at_b; most = λ k e h x y. ⊎_elim (λ (s : k ≡ suc n). omega (arith, here k e s x)) (λ s. w.most k e (omega arith) x y) (eq-or-lt_of_le h) }

        deepest-is : (n : ℕ) → Deepest a b n (deepest_up_to log a b n)
        unfolding deepest_up_to
        deepest-is zero = record {
          deep = 0;
          at_a = root-open oa;
          at_b = root-open ob;
          most = λ k e l u v. let s : k ≡ 0 = omega arith in omega (arith, depth-once log 0 e 0 (subst (λ j. OpensAt log j e) s u.opens) f.root);
        }
        deepest-is (suc n) = go (open_up_to log (suc n) a && open_up_to log (suc n) b) refl (deepest-is n)
          where
            go : (t : Bool) → open_up_to log (suc n) a && open_up_to log (suc n) b ≡ t → Deepest a b n (deepest_up_to log a b n)
                → Deepest a b (suc n) (cond t (deeper_of log (deepest_up_to log a b n) (suc n)) (deepest_up_to log a b n))
            go true t w =
                let u = test-open log f.meets (opens-inside log a da oa) (and_left (open_up_to log (suc n) a) (open_up_to log (suc n) b) t) in
                let v = test-open log f.meets (opens-inside log b db ob) (and_right (open_up_to log (suc n) a) (open_up_to log (suc n) b) t) in
                further n (deepest_up_to log a b n) w u.0 u.1 (subst (λ d. StillOpen log (suc n) d b) (depth-once log (suc n) v.0 u.0 v.1.opens u.1.opens) v.1)
            go false t w = record {
              deep = w.deep;
              at_a = w.at_a;
              at_b = w.at_b;
              most = λ k e h x y.
                  ⊎_elim (λ (s : k ≡ suc n). absurd (true≢false (sym (two (at_next k e a s x) (at_next k e b s y)) ∙ t)))
                  (λ s. w.most k e (omega arith) x y) (eq-or-lt_of_le h);
            }
              where
                at_next : (k e q : ℕ) → k ≡ suc n → StillOpen log k e q → open_up_to log (suc n) q ≡ true
                at_next k e q s x = ap (λ j. open_up_to log j q) (sym s) ∙ open-test log x

                two : {s t : Bool} → s ≡ true → t ≡ true → s && t ≡ true
                two p q = rw (p, q)

      computed : (a b : ℕ) → a < opened_of log → b < opened_of log → InCommon log a b (common_number log a b)
      unfolding common_number
      computed a b la lb =
          let x = record-at log a la in
          let y = record-at log b lb in
          let w = deepest-is (place_of log a) (place_of log b) x.1.opens y.1.opens (length log) in
          record {
            place-a = place_of log a;
            depth-a = x.0;
            record-a = x.1;
            place-b = place_of log b;
            depth-b = y.0;
            record-b = y.1;
            place = deepest_up_to log (place_of log a) (place_of log b) (length log);
            depth = w.deep;
            is-record = record { opens = w.at_a.opens; number = refl };
            with-a = open-holding log f.meets x.1.opens w.at_a;
            with-b = open-holding log f.meets y.1.opens w.at_b;
            deepest = λ k e o u v.
                let p = holding-open log f.meets u in
                let q = holding-open log f.meets v in
                let ep : p.0 ≡ e = depth-once log k p.0 e p.1.opens o in
                let eq : q.0 ≡ e = depth-once log k q.0 e q.1.opens o in
                w.most k e (omega (arith, opens-inside log k e o)) (subst (λ d. StillOpen log k d (place_of log a)) ep p.1) (subst (λ d. StillOpen log k d (place_of log b)) eq q.1);
          }

  -- EXACTLY ONE RECORD is what two records of a log without fault have in common, and it is the one computed.
  pub one-in-common : (log : List (Record R)) → log_fault log ≡ pass → (a b : ℕ) → a < opened_of log → b < opened_of log → OneInCommon log a b (common_number log a b)
  one-in-common log v a b la lb = one_in log (formed log v) (computed log (formed log v) a b la lb)

  -- any record that is it
  pub common-is : (log : List (Record R)) → log_fault log ≡ pass → {a b n : ℕ} → InCommon log a b n → n ≡ common_number log a b
  common-is log v {a} {b} {n} x =
      (one-in-common log v a b ((counted-from-0 log).few a x.place-a x.depth-a x.record-a) ((counted-from-0 log).few b x.place-b x.depth-b x.record-b)).only n x

  -- THE SAME EITHER WAY ROUND.
  pub same-either-way : (log : List (Record R)) → log_fault log ≡ pass → (a b : ℕ) → a < opened_of log → b < opened_of log → common_number log a b ≡ common_number log b a
  same-either-way log v a b la lb = common-is log v (common-swap log (one-in-common log v a b la lb).is)

  -- A NUMBER GIVEN TWICE NAMES ITSELF.
  pub names-itself : (log : List (Record R)) → log_fault log ≡ pass → (a : ℕ) → a < opened_of log → common_number log a a ≡ a
  names-itself log v a l =
      let x = record-at log a l in
      sym (common-is log v (common-holder log (formed log v) x.1 x.1 (itself (place_of log a) x.0 x.1.opens)))
