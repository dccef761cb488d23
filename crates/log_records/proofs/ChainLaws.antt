-- Chains of records, each directly holding the next, down to one that holds nothing: none adds to more than the figure; one ends where no other does; and of
-- those that add to the figure, the one that takes the earliest record at each step ends first. Assumes nothing.
use Rattle.std.specs.Prelude.{◌≡◌, refl, List, [], ◌∷◌, ℕ, suc, ◌≤◌, ◌<◌, ℤ, ◌+ℤ◌, length, ◌≤ℤ◌}
use Rattle.std.proofs.Common.{sym, ap, ap₂, subst, ◌∙◌, ⊎_elim, eq-or-lt_of_le, arith}
use Rattle.std.proofs.Math.Logic.{dite}
use Rattle.std.proofs.Math.Decide.{dec_lt}
use Rattle.std.proofs.Math.IntN.{+ℤ_idr}
use Rattle.std.specs.Int.Signed.{≤ℤ_refl}
use Rattle.number.specs.IntegerLaws.{zed, add-law, ≤_trans, +-mono}
use Rattle.modes.specs.FourModes.{Amounts, heaviest}
use Rattle.modes.proofs.RunUnique.{figure-same}
use Rattle.modes.specs.declared.Held.TheVariants.{Figure}
use Rattle.hill.specs.Log.{Record, start_level, end_level}
use Rattle.hill.specs.Closing.{at, OpensAt, Holds}
use Rattle.hill.specs.Figure.{figure_at}
use Rattle.hill.proofs.HeldPlaces.{opens-inside, first-close}
use Rattle.hill.specs.Crossings.{Meeting}
use Rattle.hill.proofs.Crossings.{falls}
use Rattle.log_records.specs.Claims.{record_value, sum_of, Reaches, Step, Down, TakesGreatest, TakesWhole}
use Rattle.log_records.proofs.Formed.{depth-once}
use Rattle.log_records.proofs.GreatestLaws.{has-figure, alone, under}

-- What a chain of places ends with.
abbrev pub chain_end : (p : ℕ) (below : List ℕ) → ℕ
chain_end p [] = p
chain_end p (q ∷ qs) = chain_end q qs

module _ (xs : List (Record Amounts)) where
  -- From the record opened at p down to one that holds nothing, each directly holding the next.
  abbrev pub Chain : (p : ℕ) (below : List ℕ) → Type 0
  Chain p [] = (q d : ℕ) → Holds xs p q d → ⊥
  Chain p (q ∷ qs) = ((d : ℕ) × Holds xs p q d) × Chain q qs

  pub holds_at : (p q d : ℕ) → OpensAt xs p d → (e : ℕ) × Holds xs p q e → Holds xs p q d
  holds_at p q d o h = subst (λ k. Holds xs p q k) (depth-once xs p h.0 d h.1.holder o) h.1

  -- ---- no chain adds to more than the figure

  pub chain-under : (qs : List ℕ) (p d : ℕ) (b : ℤ) → OpensAt xs p d → Chain p qs → Reaches xs p b → (record_value xs p +ℤ sum_of xs qs) ≤ℤ b
  chain-under [] p d b o c e =
      let h : record_value xs p ≡ b = figure-same (sym (alone xs p d o (λ q. c q d)) ∙ e) in
      subst (λ (z : ℤ). z ≤ℤ b) (sym (+ℤ_idr (record_value xs p) ∙ h)) (≤ℤ_refl b)
  chain-under (q ∷ qs) p d b o c e =
      let h : Holds xs p q d = holds_at p q d o c.0 in
      let u = has-figure xs q (suc d) h.held in
      let i : (record_value xs q +ℤ sum_of xs qs) ≤ℤ u.0 = chain-under qs q (suc d) u.0 h.held c.1 u.1 in
      ≤_trans (+-mono (≤ℤ_refl (record_value xs p)) i) (under xs p d o q u.0 b h u.1 e)

  -- one that adds to the figure goes on to a record that makes it up, and adds to the figure of that
  record Tight (p d : ℕ) (b : ℤ) (q : ℕ) (qs : List ℕ) : Type 0 where
    pub holds : Holds xs p q d
    pub figure : ℤ
    pub reaches : Reaches xs q figure
    pub adds : record_value xs p +ℤ figure ≡ b
    pub rest : record_value xs q +ℤ sum_of xs qs ≡ figure

  between : (v a s b : ℤ) → s ≤ℤ a → (v +ℤ a) ≤ℤ b → v +ℤ s ≡ b → (v +ℤ a ≡ b) × (s ≡ a)
  between v a s b h k e = (omega (zed, add-law v a, add-law v s), omega (zed, add-law v a, add-law v s))

  tight : (q : ℕ) (qs : List ℕ) (p d : ℕ) (b : ℤ) → OpensAt xs p d → Reaches xs p b → Chain p (q ∷ qs) → record_value xs p +ℤ sum_of xs (q ∷ qs) ≡ b → Tight p d b q qs
  tight q qs p d b o e c s =
      let h : Holds xs p q d = holds_at p q d o c.0 in
      let u = has-figure xs q (suc d) h.held in
      let t = between (record_value xs p) u.0 (record_value xs q +ℤ sum_of xs qs) b (chain-under qs q (suc d) u.0 h.held c.1 u.1) (under xs p d o q u.0 b h u.1 e) s in
      record { holds = h; figure = u.0; reaches = u.1; adds = t.0; rest = t.1 }

  -- ---- the earliest at each step

  pub record TakesEarliest (s : ℤ) (p q : ℕ) : Type 0 where
    pub depth : ℕ
    pub holds : Holds xs p q depth
    pub earliest : (k : ℕ) → Holds xs p k depth → figure_at heaviest xs k ≡ figure_at heaviest xs q → q ≤ k

  pub greatest-earliest : (s : ℤ) (p q : ℕ) → TakesGreatest xs s p q → TakesEarliest s p q
  greatest-earliest s p q t = record { depth = t.depth; holds = t.holds; earliest = λ k h e. t.earliest k h (e ∙ t.reaches) }

  pub whole-earliest : (s : ℤ) (p q : ℕ) → TakesWhole xs s p q → TakesEarliest s p q
  whole-earliest s p q t = record { depth = t.depth; holds = t.holds; earliest = λ k h e. t.earliest k t.rest h (e ∙ t.reaches) t.whole }

  pub down-as : (S T : Step xs) → ((s : ℤ) (p q : ℕ) → S s p q → T s p q) → (qs : List ℕ) (s : ℤ) (p : ℕ) → Down xs S s p qs → Down xs T s p qs
  down-as S T f [] s p w = w
  down-as S T f (q ∷ qs) s p w = (f s p q w.0, down-as S T f qs (s +ℤ record_value xs q) q w.1)

  pub down-chain : (qs : List ℕ) (s : ℤ) (p : ℕ) → Down xs TakesEarliest s p qs → Chain p qs
  down-chain [] s p w = w
  down-chain (q ∷ qs) s p w = ((w.0.depth, w.0.holds), down-chain qs (s +ℤ record_value xs q) q w.1)

  -- ---- where a chain ends

  from_on : (qs : List ℕ) (p : ℕ) → Chain p qs → p ≤ chain_end p qs
  from_on [] p c = omega arith
  from_on (q ∷ qs) p c = omega (arith, c.0.1.after, from_on qs q c.1)

  module _ (meets : Meeting xs) where
    -- before a place where the log is back at the depth that it began at
    inside : (qs : List ℕ) (p d x : ℕ) → OpensAt xs p d → p < x → x < length xs → start_level (at xs x) ≤ d → Chain p qs → chain_end p qs < x
    inside [] p d x o a b l c = a
    inside (q ∷ qs) p d x o a b l c =
        let h : Holds xs p q d = holds_at p q d o c.0 in
        let up : start_level (at xs (suc p)) ≡ suc d = sym (meets p (omega arith)) ∙ ap end_level o.1 in
        let w = falls xs meets d (suc p) x (omega arith) b (omega arith) l in
        let before : q < x =
        ⊎_elim (λ none. absurd (none w.0 (omega (arith, w.1)) w.2 w.3)) (λ z. omega (arith, z.1, h.before z.0 z.2))
        (first-close xs p d o x (omega arith)) in
        inside qs q (suc d) x h.held before b (omega arith) c.1

    -- of two records that one holds, the earlier one's chains end before the later one's
    apart : (qs ks : List ℕ) (p d q k : ℕ) → Holds xs p q d → Holds xs p k d → q < k → Chain q qs → Chain k ks → chain_end q qs < chain_end k ks
    apart qs ks p d q k h j l a b =
        omega (arith, inside qs q (suc d) k h.held l (opens-inside xs k (suc d) j.held) (omega (arith, ap start_level j.held.1)) a, from_on ks k b)

    -- ONE CHAIN ends at a record.
    pub same-last : (ps qs : List ℕ) (p d : ℕ) → OpensAt xs p d → Chain p ps → Chain p qs → chain_end p ps ≡ chain_end p qs → ps ≡ qs
    same-last [] [] p d o a b e = refl
    same-last [] (q ∷ qs) p d o a b e = absurd (a q b.0.0 b.0.1)
    same-last (q ∷ ps) [] p d o a b e = absurd (b q a.0.0 a.0.1)
    same-last (q ∷ ps) (k ∷ qs) p d o a b e =
        let h : Holds xs p q d = holds_at p q d o a.0 in
        let j : Holds xs p k d = holds_at p k d o b.0 in
        let g : k ≡ q =
        dite (dec_lt q k) (λ l. absurd (omega (arith, apart ps qs p d q k h j l a.1 b.1)))
        (λ m. dite (dec_lt k q) (λ l. absurd (omega (arith, apart qs ps p d k q j h l b.1 a.1))) (λ n. omega arith)) in
        ap₂ (λ (i : ℕ) (is : List ℕ). i ∷ is) (sym g)
        (same-last ps qs q (suc d) h.held a.1 (subst (λ i. Chain i qs) g b.1) (e ∙ ap (λ i. chain_end i qs) g))

    -- IT ENDS FIRST.
    pub first-last : (ps qs : List ℕ) (s : ℤ) (p d : ℕ) (b : ℤ) → OpensAt xs p d → Reaches xs p b → Down xs TakesEarliest s p ps → Chain p qs
        → record_value xs p +ℤ sum_of xs ps ≡ b → record_value xs p +ℤ sum_of xs qs ≡ b → chain_end p ps ≤ chain_end p qs
    first-last [] [] s p d b o e x y u v = omega arith
    first-last [] (k ∷ qs) s p d b o e x y u v = absurd (x k y.0.0 y.0.1)
    first-last (q ∷ ps) [] s p d b o e x y u v = absurd (y q x.0.depth x.0.holds)
    first-last (q ∷ ps) (k ∷ qs) s p d b o e x y u v =
        let z = down-chain (q ∷ ps) s p x in
        let m = tight q ps p d b o e z u in
        let n = tight k qs p d b o e y v in
        let same : n.figure ≡ m.figure = omega (zed, m.adds, n.adds, add-law (record_value xs p) m.figure, add-law (record_value xs p) n.figure) in
        let j : Holds xs p k x.0.depth = holds_at p k x.0.depth x.0.holds.holder y.0 in
        let l : q ≤ k = x.0.earliest k j (n.reaches ∙ ap Figure same ∙ sym m.reaches) in
        ⊎_elim
        (λ (g : q ≡ k).
        let i = first-last ps qs (s +ℤ record_value xs q) q (suc d) m.figure m.holds.held m.reaches x.1 (subst (λ i. Chain i qs) (sym g) y.1) m.rest (ap (λ i. record_value xs i +ℤ sum_of xs qs) g ∙ n.rest ∙ same) in
        subst (λ i. chain_end q ps ≤ chain_end i qs) g i)
        (λ g. omega (arith, apart ps qs p d q k m.holds n.holds g z.1 y.1))
        (eq-or-lt_of_le l)
