-- The records open at a place, deepest first: how a pass over the log comes by them, and that those down to the first heaviest end are the line. Assumes nothing.
use Rattle.std.specs.Prelude.{◌≡◌, refl, ◌⊎◌, ℕ, zero, suc, ◌+◌, ◌-◌, ◌≤◌, ◌<◌, ℤ, pos, ◌+ℤ◌, length, ◌≤ℤ◌, ◌<ℤ◌}
use Rattle.std.proofs.Math.Path.{sym, ap, subst}
use Rattle.std.proofs.Common.{◌∙◌, inl, inr, eq-or-lt_of_le, arith}
use Rattle.std.proofs.Math.Logic.{⊎_elim, dite}
use mathlib.Core.List.{List, [], ◌∷◌, ◌++◌, append_assoc}
use Rattle.std.proofs.Math.Decide.{dec_lt}
use Rattle.std.proofs.Math.IntN.{+ℤ_idr}
use Rattle.number.specs.IntegerLaws.{zed, add-law}
use Rattle.modes.specs.FourModes.{Amounts}
use Rattle.modes.proofs.RunUnique.{figure-same}
use Rattle.hill.specs.Log.{Record, opening, closing, depth, start_level, end_level}
use Rattle.hill.specs.Closing.{at, OpensAt, ClosedBy, Holds}
use Rattle.hill.proofs.HeldPlaces.{opening-closing, opens-inside}
use Rattle.log_records.specs.Line.{line_places}
use Rattle.log_records.specs.Claims.{record_value, sum_of}
use Rattle.log_records.specs.Formed.{Formed}
use Rattle.log_records.proofs.GreatestLaws.{has-figure}
use Rattle.log_records.proofs.ChainLaws.{Chain, chain_end, chain-under, same-last, down-chain, first-last}
use Rattle.log_records.proofs.LineLaws.{line-earliest}
use Rattle.log_records.specs.StackLaws.{Leaf, Lighter, OpenBefore, OpenStack, StackBefore, unwind}

pub unwind-length : (ps below : List ℕ) → length (unwind ps below) ≡ length ps + length below
unwind-length [] below = omega arith
unwind-length (p ∷ ps) below = omega (arith, unwind-length ps (p ∷ below))

pub unwind-append : (ps below : List ℕ) → unwind ps below ≡ unwind ps [] ++ below
unwind-append [] below = refl
unwind-append (p ∷ ps) below = unwind-append ps (p ∷ below) ∙ sym (ap (λ (l : List ℕ). l ++ below) (unwind-append ps (p ∷ [])) ∙ append_assoc (unwind ps []) (p ∷ []) below)

module _ {R : Type 0} (xs : List (Record R)) where
  -- What is open at a deeper record that is open is open itself.
  pub open-through : {k q p d e : ℕ} → OpenBefore xs q p d → OpenBefore xs k q e → d < e → OpenBefore xs k p d
  open-through {k} {q} {p} {d} {e} u w l = record { opens = u.opens; before = omega (arith, u.before, w.before); deeper = deep }
    where
      deep : (j : ℕ) → p < j → j < k → d < depth (at xs j)
      deep j a b =
          dite (dec_lt j q) (λ m. u.deeper j a m)
          (λ m. dite (dec_lt q j) (λ n. omega (arith, w.deeper j n b)) (λ n. let g : j ≡ q = omega arith in omega (arith, ap (λ i. depth (at xs i)) g, ap depth w.opens.1)))

  module _ (f : Formed xs) where
    pub stack-start : StackBefore xs 0 []
    stack-start = record { open-records = tt; level = λ _. ap start_level f.root.1 }

    module _ {k : ℕ} {ps : List ℕ} (s : StackBefore xs k ps) (inside : k < length xs) where
      -- an open goes on top, ..
      pub open-level : {d : ℕ} → OpensAt xs k d → d ≡ length ps
      open-level o = sym (ap start_level o.1) ∙ s.level inside

      pub stack-open : {d : ℕ} → OpensAt xs k d → StackBefore xs (suc k) (k ∷ ps)
      stack-open {d} o =
          let e : d ≡ length ps = open-level o in
          record {
            open-records = (record { opens = subst (OpensAt xs k) e o; before = omega arith; deeper = λ j a b. absurd (omega arith) }, s.open-records);
            level = λ l. sym (f.meets k l) ∙ ap end_level o.1 ∙ ap suc e;
          }

  -- .. and a close at depth d takes the top away
  pub record Left (k : ℕ) (ps : List ℕ) (d : ℕ) : Type 0 where
    pub top : ℕ
    pub rest : List ℕ
    pub is : ps ≡ top ∷ rest
    pub closes : d ≡ length rest
    pub before : StackBefore xs (suc k) rest

  under_top : (k p : ℕ) (ps : List ℕ) → OpenStack xs k (p ∷ ps) → at xs k ≡ closing (length ps) → OpenStack xs (suc k) ps
  under_top k p [] w e = tt
  under_top k p (q ∷ qs) w e =
      let u : OpenBefore xs k q (length qs) = open-through w.1.0 w.0 (omega arith) in
      (record { opens = u.opens; before = omega (arith, u.before); deeper = λ j a b. dite (dec_lt j k) (λ l. u.deeper j a l) (λ l. let g : j ≡ k = omega arith in omega (arith, ap (λ i. depth (at xs i)) g, ap depth e)) }, w.1.1)

  ended-low : (x : Record R) → end_level x ≡ 0 → depth x ≡ 0
  ended-low (opening c r) e = absurd (omega (arith, e))
  ended-low (closing c) e = e

  module _ (f : Formed xs) where
    pub stack-close : {k : ℕ} (ps : List ℕ) (s : StackBefore xs k ps) (inside : k < length xs) {d : ℕ} → at xs k ≡ closing d → Left k ps d
    stack-close {k} [] s inside {d} e = absurd (omega (arith, s.level inside, ap start_level e))
    stack-close {k} (p ∷ ps) s inside {d} e =
        let g : d ≡ length ps = omega (arith, s.level inside, ap start_level e) in
        record {
          top = p;
          rest = ps;
          is = refl;
          closes = g;
          before = record { open-records = under_top k p ps s.open-records (e ∙ ap closing g); level = λ l. sym (f.meets k l) ∙ ap end_level e ∙ g };
        }

    -- at the end of the log none is open
    pub stack-end : {k : ℕ} (ps : List ℕ) → StackBefore xs k ps → length xs ≤ k → ps ≡ []
    stack-end [] s all = refl
    stack-end {k} (p ∷ ps) s all =
        let w = s.open-records.0 in
        let l : ℕ = length xs - 1 in
        let i : p < length xs = opens-inside xs p (length ps) w.opens in
        ⊎_elim (λ (g : suc p ≡ length xs). absurd (omega (arith, f.closed p g, ap end_level w.opens.1)))
        (λ g. absurd (omega (arith, w.deeper l (omega arith) (omega arith), ended-low (at xs l) (f.closed l (omega arith))))) (eq-or-lt_of_le i)

  leaf-alone : {p d : ℕ} → Leaf xs p d → (q e : ℕ) → Holds xs p q e → ⊥
  leaf-alone {p} {d} l q e h =
      let g : e ≡ d = ap start_level (sym h.holder.1 ∙ l.opens.1) in
      let c : ClosedBy xs p (suc p) e = record { order = omega arith; inside = l.inside; opened = h.holder; closed = l.closes ∙ ap closing (sym g); first = λ k a b. absurd (omega arith) } in
      omega (arith, h.after, h.before (suc p) c)

  next-opens : (x : Record R) (d : ℕ) → start_level x ≡ suc d → (x ≡ closing d) ⊎ ((r : R) × (x ≡ opening (suc d) r))
  next-opens (opening c r) d e = inr (r, ap (λ k. opening k r) e)
  next-opens (closing c) d e = inl (ap closing (omega arith))

  alone-leaf : (f : Formed xs) {p d : ℕ} → OpensAt xs p d → ((q e : ℕ) → Holds xs p q e → ⊥) → Leaf xs p d
  alone-leaf f {p} {d} o none =
      let i : p < length xs = opens-inside xs p d o in
      let l : suc p < length xs = ⊎_elim (λ (g : suc p ≡ length xs). absurd (omega (arith, f.closed p g, ap end_level o.1))) (λ g. g) (eq-or-lt_of_le i) in
      record {
        opens = o;
        closes = ⊎_elim (λ (e : at xs (suc p) ≡ closing d). e)
            (λ w. absurd (none (suc p) d (record { holder = o; held = w; after = omega arith; before = λ c b. ⊎_elim (λ (g : suc p ≡ c). absurd (opening-closing (at xs c) (suc d) d w.0 (ap (at xs) (sym g) ∙ w.1) b.closed)) (λ g. g) (eq-or-lt_of_le b.order) })))
            (next-opens (at xs (suc p)) d (sym (f.meets p l) ∙ ap end_level o.1));
        inside = l;
      }

  -- ---- a stack is a chain from the root

  pub open-holds : {q p d : ℕ} → OpenBefore xs q p d → OpensAt xs q (suc d) → Holds xs p q d
  open-holds {q} {p} {d} w o = record {
    holder = w.opens;
    held = o;
    after = w.before;
    before = λ c b. dite (dec_lt q c) (λ l. l)
        (λ l. ⊎_elim (λ (g : c ≡ q). absurd (opening-closing (at xs q) (suc d) d o.0 o.1 (ap (at xs) (sym g) ∙ b.closed)))
        (λ m. absurd (omega (arith, w.deeper c b.order m, ap depth b.closed))) (eq-or-lt_of_le (omega arith)));
  }

module _ (xs : List (Record Amounts)) where
  -- From the root on: the records of a stack, and what follows below it.
  record Unwound (ps : List ℕ) (q : ℕ) (below : List ℕ) : Type 0 where
    pub rest : List ℕ
    pub is : unwind ps (q ∷ below) ≡ 0 ∷ rest
    pub chain : Chain xs 0 rest
    pub ends : chain_end 0 rest ≡ chain_end q below
    pub adds : sum_of xs (0 ∷ rest) ≡ sum_of xs (q ∷ ps) +ℤ sum_of xs below

  sum-turned : (w v s t u : ℤ) → u ≡ (w +ℤ s) +ℤ (v +ℤ t) → u ≡ (v +ℤ (w +ℤ s)) +ℤ t
  sum-turned w v s t u e = omega (zed, e, add-law (w +ℤ s) (v +ℤ t), add-law w s, add-law v t, add-law (v +ℤ (w +ℤ s)) t, add-law v (w +ℤ s))

  sum_one : (v t : ℤ) → v +ℤ t ≡ (v +ℤ pos 0) +ℤ t
  sum_one v t = ap (λ (z : ℤ). z +ℤ t) (sym (+ℤ_idr v))

  module _ (f : Formed xs) where
    unwound : (ps : List ℕ) (q : ℕ) (below : List ℕ) → OpenStack xs q ps → OpensAt xs q (length ps) → Chain xs q below → Unwound ps q below
    unwound [] zero below w o c = record { rest = below; is = refl; chain = c; ends = refl; adds = sum_one (record_value xs 0) (sum_of xs below) }
    unwound [] (suc q) below w o c = absurd (omega (arith, f.raised (suc q) (omega arith) (opens-inside xs (suc q) 0 o), ap start_level o.1))
    unwound (p ∷ ps) q below w o c =
        let u = unwound ps p (q ∷ below) w.1 w.0.opens ((length ps, open-holds xs w.0 o), c) in
        record { rest = u.rest; is = u.is; chain = u.chain; ends = u.ends; adds = sum-turned (record_value xs p) (record_value xs q) (sum_of xs ps) (sum_of xs below) (sum_of xs (0 ∷ u.rest)) u.adds }

    -- ---- the first heaviest end

    -- where the line ends
    pub heaviest-end : ℕ
    heaviest-end = chain_end 0 (line-earliest xs f).below

    -- the line, as a chain
    line-chain : Chain xs 0 (line-earliest xs f).below
    line-chain = let l = line-earliest xs f in down-chain xs l.below (record_value xs 0) 0 l.down

    end_of : (qs : List ℕ) (p d : ℕ) → OpensAt xs p d → Chain xs p qs → (e : ℕ) × OpensAt xs (chain_end p qs) e × ((q e : ℕ) → Holds xs (chain_end p qs) q e → ⊥)
    end_of [] p d o c = (d, o, c)
    end_of (q ∷ qs) p d o c = end_of qs q (suc c.0.0) c.0.1.held c.1

    pub end-leaf : (d : ℕ) × Leaf xs heaviest-end d
    unfolding heaviest-end
    end-leaf = let w = end_of (line-earliest xs f).below 0 0 f.root line-chain in (w.0, alone-leaf xs f w.1 w.2)

    -- what is open at the line's end is the line
    pub stack-line : (ps : List ℕ) (q d : ℕ) → OpenStack xs q ps → OpensAt xs q (length ps) → Leaf xs q d → q ≡ heaviest-end → unwind ps (q ∷ []) ≡ line_places xs
    unfolding heaviest-end
    stack-line ps q d w o l e =
        let u = unwound ps q [] w o (leaf-alone xs l) in
        let a = line-earliest xs f in
        u.is ∙ ap (λ (rest : List ℕ). 0 ∷ rest) (same-last xs f.meets u.rest a.below 0 0 f.root u.chain line-chain (u.ends ∙ e)) ∙ sym a.from-root

    settle : (s t b : ℤ) → s ≤ℤ b → t ≡ b → t ≤ℤ s → s ≡ b
    settle s t b h e k = omega (zed, h, e, k)

    less-not : (t s b : ℤ) → t ≡ b → s ≡ b → t <ℤ s → ⊥
    less-not t s b e h k = omega (zed, e, h, k)

    -- THE FIRST HEAVIEST END is that of the line.
    pub first-heaviest : (q d : ℕ) (ps : List ℕ) → Leaf xs q d → OpenStack xs q ps → OpensAt xs q (length ps) → ((r e : ℕ) → Leaf xs r e → Lighter xs r q (sum_of xs (q ∷ ps))) → q ≡ heaviest-end
    unfolding heaviest-end
    first-heaviest q d ps l w o lighter =
        let a = line-earliest xs f in
        let b = has-figure xs 0 0 f.root in
        let u = unwound ps q [] w o (leaf-alone xs l) in
        let x = lighter heaviest-end end-leaf.0 end-leaf.1 in
        let v = unwound x.stack heaviest-end [] x.stands x.opens (leaf-alone xs end-leaf.1) in
        let same : v.rest ≡ a.below = same-last xs f.meets v.rest a.below 0 0 f.root v.chain line-chain v.ends in
        let sum : sum_of xs (0 ∷ a.below) ≡ b.0 = ap (sum_of xs) (sym a.from-root) ∙ figure-same (sym a.adds ∙ b.1) in
        let s : sum_of xs (0 ∷ u.rest) ≡ sum_of xs (q ∷ ps) = u.adds ∙ +ℤ_idr (sum_of xs (q ∷ ps)) in
        let t : sum_of xs (heaviest-end ∷ x.stack) ≡ b.0 = sym (+ℤ_idr (sum_of xs (heaviest-end ∷ x.stack))) ∙ sym v.adds ∙ ap (λ (rest : List ℕ). sum_of xs (0 ∷ rest)) same ∙ sum in
        let under : sum_of xs (q ∷ ps) ≤ℤ b.0 = subst (λ (z : ℤ). z ≤ℤ b.0) s (chain-under xs u.rest 0 0 b.0 f.root u.chain b.1) in
        let whole : sum_of xs (q ∷ ps) ≡ b.0 = settle (sum_of xs (q ∷ ps)) (sum_of xs (heaviest-end ∷ x.stack)) b.0 under t x.most in
        let l : heaviest-end ≤ q = subst (λ (k : ℕ). heaviest-end ≤ k) u.ends (first-last xs f.meets a.below u.rest (record_value xs 0) 0 0 b.0 f.root b.1 a.down u.chain sum (s ∙ whole)) in
        ⊎_elim (λ (g : heaviest-end ≡ q). sym g) (λ g. absurd (less-not (sum_of xs (heaviest-end ∷ x.stack)) (sum_of xs (q ∷ ps)) b.0 t whole (x.before g))) (eq-or-lt_of_le l)
