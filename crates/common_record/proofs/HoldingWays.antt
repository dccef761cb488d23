-- On a well-formed log, to be a record or to hold it is that the record is still open, which a test decides, and that it is opened not after it and closed
-- after it. Assumes nothing.
use Rattle.std.specs.Prelude.{◌≡◌, refl, ◌↔◌, Bool, true, false, not, List, ℕ, suc, ◌+◌, ◌-◌, ◌≤◌, ◌<◌, leb, length, take, drop}
use Rattle.std.proofs.Common.{sym, ap, ◌∙◌, arith, length-take, length-drop, get_or-take, get_or-drop, le-leb, leb-true}
use Rattle.std.proofs.Math.Logic.{dite}
use Rattle.std.proofs.Math.Decide.{dec_lt}
use Rattle.record.proofs.Laws.{and_left, and_right}
use Rattle.hill.specs.Verdict.{pass}
use Rattle.hill.specs.Log.{Record, opening, closing, depth, log_fault}
use Rattle.hill.specs.Closing.{at, OpensAt}
use Rattle.hill.proofs.HeldPlaces.{opens-inside}
use Rattle.hill.specs.Summary.{closed_in}
use Rattle.hill.specs.Crossings.{Meeting}
use Rattle.hill.proofs.Crossings.{closed_in-at, at-closed_in}
use Rattle.log_records.specs.Formed.{Formed}
use Rattle.log_records.proofs.Formed.{formed, closed_some}
use Rattle.common_record.specs.Common.{stays_open, open_up_to}
use Rattle.common_record.specs.Claims.{IsOrHolds, Encloses}
use Rattle.common_record.proofs.HoldingLaws.{StillOpen, open-holding-at, open-depth, unclosed-open, open-unclosed, holding-open}

module _ {R : Type 0} where
  module _ (log : List (Record R)) where
    module _ (meets : Meeting log) where
      pub open-holding : {p d q f : ℕ} → OpensAt log q f → StillOpen log p d q → IsOrHolds log p q
      open-holding {p} {d} {q} {f} o w = open-holding-at log meets (f - d) p q d f (omega (arith, open-depth log w o)) o w

      -- ---- as a test

      pub test-open : {p q : ℕ} → q < length log → open_up_to log p q ≡ true → (d : ℕ) × StillOpen log p d q
      test-open {p} {q} i e = go (at log p) refl (and_right (leb p q) (stays_open (at log p) (take (q - p) (drop (suc p) log))) e)
        where
          from : p ≤ q
          from = leb-true p q (and_left (leb p q) (stays_open (at log p) (take (q - p) (drop (suc p) log))) e)

          go : (x : Record R) → at log p ≡ x → stays_open x (take (q - p) (drop (suc p) log)) ≡ true → (d : ℕ) × StillOpen log p d q
          go (opening d r) g t = (d, unclosed-open log meets (r, g) from i (λ k a b x. absurd (not-both (closed_in d (take (q - p) (drop (suc p) log))) t (closed-between d k a b x))))
            where
              not-both : (b : Bool) → not b ≡ true → b ≡ true → ⊥
              not-both b s t = let z : ◌≡◌ {A = ℕ} 0 1 = cc in omega arith

              closed-between : (d k : ℕ) → p < k → k ≤ q → at log k ≡ closing d → closed_in d (take (q - p) (drop (suc p) log)) ≡ true
              closed-between d k a b x =
                  let j : ℕ = k - suc p in
                  let s : suc p + j ≡ k = omega arith in
                  at-closed_in d (take (q - p) (drop (suc p) log)) j (omega (arith, length-take (q - p) (drop (suc p) log), length-drop (suc p) log))
                  (get_or-take (q - p) (drop (suc p) log) j (closing 0) (omega arith) ∙ get_or-drop (suc p) log j (closing 0) ∙ ap (at log) s ∙ x)
          go (closing d) g t = absurd (let z : ◌≡◌ {A = ℕ} 0 1 = cc in omega arith)

    pub open-test : {p d q : ℕ} → StillOpen log p d q → open_up_to log p q ≡ true
    open-test {p} {d} {q} w = rw (le-leb p q (omega (arith, w.before)), w.opens.1) (go (closed_in d (take (q - p) (drop (suc p) log))) refl)
      where
        go : (t : Bool) → closed_in d (take (q - p) (drop (suc p) log)) ≡ t → not t ≡ true
        go false e = refl
        go true e =
            let c = closed_in-at d (take (q - p) (drop (suc p) log)) e in
            let l : c.0 < q - p = omega (arith, c.1, length-take (q - p) (drop (suc p) log)) in
            absurd (open-unclosed log w (suc p + c.0) (omega arith) (omega arith) (sym (get_or-drop (suc p) log c.0 (closing 0)) ∙ sym (get_or-take (q - p) (drop (suc p) log) c.0 (closing 0) l) ∙ c.2))

    -- ---- OPENED NOT AFTER IT AND CLOSED AFTER IT

    module _ (f : Formed log) where
      open-encloses : {p d q : ℕ} → StillOpen log p d q → Encloses log p q
      open-encloses {p} {d} {q} w =
          let c = closed_some f w.opens in
          record {
            depth = d;
            close = c.0;
            closed = c.1;
            not_after = omega (arith, w.before);
            after = dite (dec_lt q c.0) (λ l. l) (λ l. absurd (open-unclosed log w c.0 c.1.order (omega arith) c.1.closed));
          }

      encloses-open : {p q : ℕ} → (e : Encloses log p q) → StillOpen log p e.depth q
      encloses-open {p} {q} e = unclosed-open log f.meets e.closed.opened e.not_after (omega (arith, e.after, e.closed.inside)) (λ k a b. e.closed.first k a (omega (arith, e.after)))

      same-ways : {p q g : ℕ} → OpensAt log q g → (IsOrHolds log p q ↔ Encloses log p q) × (IsOrHolds log p q ↔ (open_up_to log p q ≡ true))
      same-ways {p} {q} {g} o = (
        (λ i. open-encloses (holding-open log f.meets i).1, λ e. open-holding f.meets o (encloses-open e)),
        (λ i. open-test (holding-open log f.meets i).1, λ t. open-holding f.meets o (test-open f.meets (opens-inside log q g o) t).1),
      )

  -- THE THREE WAYS TO SAY IT are the same of a record opened at q, in a log without fault.
  pub is-or-holds : (log : List (Record R)) → log_fault log ≡ pass → (p q g : ℕ) → OpensAt log q g → (IsOrHolds log p q ↔ Encloses log p q) × (IsOrHolds log p q ↔ (open_up_to log p q ≡ true))
  is-or-holds log v p q g o = same-ways log (formed log v) o
