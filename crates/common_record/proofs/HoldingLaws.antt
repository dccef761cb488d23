-- What it is to be a record or to hold it: the smallest relation by direct holding; on a well-formed log, that the record is still open. Assumes nothing.
use Rattle.std.specs.Prelude.{◌≡◌, ◌≢◌, not, List, ℕ, zero, suc, ◌+◌, ◌-◌, ◌≤◌, ◌<◌, length}
use Rattle.std.proofs.Common.{sym, ap, subst, ◌∙◌, ⊎_elim, eq-or-lt_of_le, arith}
use Rattle.std.proofs.Math.Logic.{dite}
use Rattle.std.proofs.Math.Decide.{dec_lt}
use Rattle.hill.specs.Log.{Record, opening, closing, depth, start_level, end_level}
use Rattle.hill.specs.Closing.{at, OpensAt, Holds}
use Rattle.hill.proofs.HeldPlaces.{opening-closing, opens-inside, first-close}
use Rattle.hill.specs.Crossings.{Meeting}
use Rattle.hill.proofs.Crossings.{falls, rises}
use Rattle.log_records.proofs.Formed.{depth-once}
use Rattle.log_records.specs.StackLaws.{OpenBefore}
use Rattle.log_records.proofs.StackLaws.{open-through, open-holds}
use Rattle.common_record.specs.Claims.{IsOrHolds, itself, through}

module _ {R : Type 0} where
  above : (x : Record R) (d : ℕ) → d < start_level x → x ≢ closing d → d < depth x
  above (opening c r) d h n = h
  above (closing c) d h n = dite (dec_lt d c) (λ l. l) (λ l. absurd (n (ap closing (omega arith))))

  module _ (log : List (Record R)) where
    -- THE SMALLEST RELATION that has each record itself and goes on from what is directly held.
    pub smallest-relation : (P : (p q : ℕ) → Type 0) → ((p d : ℕ) → OpensAt log p d → P p p) → ((p m q d : ℕ) → Holds log p m d → P m q → P p q) → (p q : ℕ) → IsOrHolds log p q → P p q
    smallest-relation P one more p q (itself k d o) = one k d o
    smallest-relation P one more p q (through k m j d h i) = more k m j d h (smallest-relation P one more m j i)

    -- ---- the record opened at p is still open at q

    abbrev pub StillOpen : (p d q : ℕ) → Type 0
    StillOpen p d q = OpenBefore log (suc q) p d

    open_self : {p d : ℕ} → OpensAt log p d → StillOpen p d p
    open_self o = record { opens = o; before = omega arith; deeper = λ j a b. absurd (omega arith) }

    pub open-earlier : {p d q k : ℕ} → StillOpen p d q → p ≤ k → k ≤ q → StillOpen p d k
    open-earlier w a b = record { opens = w.opens; before = omega arith; deeper = λ j u v. w.deeper j u (omega arith) }

    -- before what stands there
    before-it : {p d q : ℕ} → StillOpen p d q → p < q → OpenBefore log q p d
    before-it w l = record { opens = w.opens; before = l; deeper = λ j a b. w.deeper j a (omega arith) }

    pub open-unclosed : {p d q : ℕ} → StillOpen p d q → (k : ℕ) → p < k → k ≤ q → at log k ≢ closing d
    open-unclosed w k a b e = omega (arith, w.deeper k a (omega arith), ap depth e)

    -- a less deep one is not opened after a deeper one
    pub open_order : {p r d e q : ℕ} → StillOpen p d q → StillOpen r e q → d ≤ e → p ≤ r
    open_order {p} {r} {d} {e} {q} u w h = dite (dec_lt r p) (λ m. absurd (omega (arith, w.deeper p m u.before, ap depth u.opens.1))) (λ m. omega arith)

    -- of one depth only one record is open
    pub open-once : {p r d q : ℕ} → StillOpen p d q → StillOpen r d q → p ≡ r
    open-once u w = omega (arith, open_order u w (omega arith), open_order w u (omega arith))

    -- what is open at a record is not deeper
    pub open-depth : {p d q f : ℕ} → StillOpen p d q → OpensAt log q f → d ≤ f
    open-depth {p} {d} {q} {f} w o =
        dite (dec_lt p q) (λ l. omega (arith, w.deeper q l (omega arith), ap depth o.1))
        (λ l. let e : p ≡ q = omega (arith, w.before) in omega (arith, depth-once log q d f (subst (λ k. OpensAt log k d) e w.opens) o))

    module _ (meets : Meeting log) where
      -- no close at its depth: what stands between is deeper
      pub unclosed-open : {p d q : ℕ} → OpensAt log p d → p ≤ q → q < length log → ((k : ℕ) → p < k → k ≤ q → at log k ≢ closing d) → StillOpen p d q
      unclosed-open {p} {d} {q} o l i none = record { opens = o; before = omega arith; deeper = λ j a b. above (at log j) d (high j a (omega arith)) (none j a (omega arith)) }
        where
          high : (j : ℕ) → p < j → j ≤ q → d < start_level (at log j)
          high j a b =
              dite (dec_lt d (start_level (at log j))) (λ h. h)
              (λ h.
              let up : start_level (at log (suc p)) ≡ suc d = sym (meets p (omega arith)) ∙ ap end_level o.1 in
              let w = falls log meets d (suc p) j (omega arith) (omega arith) (omega arith) (omega arith) in
              absurd (none w.0 (omega (arith, w.1)) (omega (arith, w.2)) w.3))

      holds-open : {p q d : ℕ} → Holds log p q d → StillOpen p d q
      holds-open {p} {q} {d} h =
          let i : q < length log = opens-inside log q (suc d) h.held in
          ⊎_elim (λ none. unclosed-open h.holder (omega (arith, h.after)) i (λ k a b. none k a (omega arith))) (λ w. absurd (omega (arith, w.1, h.before w.0 w.2)))
          (first-close log p d h.holder (suc q) (omega arith))

      held-there : {p q d : ℕ} → StillOpen p d q → OpensAt log q (suc d) → p < q → Holds log p q d
      held-there w o l = open-holds log (before-it w l) o

      -- WHAT IS OR HOLDS A RECORD IS OPEN THERE, ..
      pub holding-open : {p q : ℕ} → IsOrHolds log p q → (d : ℕ) × StillOpen p d q
      holding-open (itself p d o) = (d, open_self o)
      holding-open (through p m q d h i) =
          let w = holding-open i in
          let e : w.0 ≡ suc d = depth-once log m w.0 (suc d) w.1.opens h.held in
          (d, open-through log (before-it (holds-open h) h.after) (subst (λ k. StillOpen m k q) e w.1) (omega arith))

      -- .. and what is open at a record is it or holds it
      pub open-holding-at : (n p q d f : ℕ) → f ≡ d + n → OpensAt log q f → StillOpen p d q → IsOrHolds log p q
      open-holding-at zero p q d f e o w =
          let g : f ≡ d = omega arith in
          let s : q ≡ p = open-once (open_self (subst (OpensAt log q) g o)) w in
          subst (λ k. IsOrHolds log k q) s (itself q f o)
      open-holding-at (suc n) p q d f e o w = ⊎_elim held-here (further (λ m. open-holding-at n m q (suc d) f (omega arith) o)) (eq-or-lt_of_le deep)
        where
          deep : suc d ≤ f
          deep = omega arith

          before : p < q
          before = dite (dec_lt p q) (λ l. l) (λ l. let g : p ≡ q = omega (arith, w.before) in absurd (omega (arith, depth-once log q d f (subst (λ k. OpensAt log k d) g w.opens) o)))

          held-here : suc d ≡ f → IsOrHolds log p q
          held-here g = through p q q d (held-there w (subst (OpensAt log q) (sym g) o) before) (itself q f o)

          further : ((m : ℕ) → StillOpen m (suc d) q → IsOrHolds log m q) → suc d < f → IsOrHolds log p q
          further ih g =
              let i : q < length log = opens-inside log q f o in
              let up : start_level (at log (suc p)) ≡ suc d = sym (meets p (omega (arith, before))) ∙ ap end_level w.opens.1 in
              let v = rises log meets (suc d) (suc p) q before i (omega arith) (omega (arith, ap start_level o.1)) in
              let m : ℕ = v.0 in
              let later : StillOpen m (suc d) q = unclosed-open v.3 (omega (arith, v.2)) i (λ k a b x. ⊎_elim (λ (s : k ≡ q). opening-closing (at log q) f (suc d) o.0 o.1 (ap (at log) (sym s) ∙ x)) (λ s. v.4 k a s x) (eq-or-lt_of_le b)) in
              through p m q d (held-there (open-earlier w (omega (arith, v.1)) (omega (arith, v.2))) v.3 (omega (arith, v.1))) (ih m later)
