-- There is exactly one line behind the heaviest figure, in both readings, and it is the one computed. Assumes nothing.
use Rattle.std.specs.Prelude.{◌≡◌, refl, Bool, true, false, cond, ◌&&◌, ℤ, pos, ◌+ℤ◌, length}
use Rattle.std.proofs.Common.{sym, ◌∙◌, true≢false, arith}
use Rattle.std.proofs.Math.Path.{ap}
use Rattle.std.proofs.Math.Logic.{⊎_elim}
use mathlib.Core.List.Memᴰ
use mathlib.Core.List.{List, [], ◌∷◌, Memᴰ}
use Prim.Native.Nat.{ℕ, zero, suc, ◌+◌, ◌≤◌, ◌<◌}
use Rattle.std.proofs.Math.IntN.{+ℤ_idr, +ℤ_idl}
use Rattle.std.specs.Int.Signed.{le_z}
use Rattle.number.specs.IntegerLaws.{zed, add-law, le-true, le-false}
use Rattle.modes.specs.FourModes.{Amounts, heaviest}
use Rattle.modes.proofs.RunUnique.{figure-same}
use Rattle.modes.specs.declared.Held.{Held}
use Rattle.modes.specs.declared.Held.TheVariants.{Nothing, Figure}
use Rattle.hill.specs.Verdict.{pass}
use Rattle.hill.specs.Log.{Record, log_fault}
use Rattle.hill.specs.Closing.{OpensAt, Holds}
use Rattle.hill.specs.Sorted.{Sorted}
use Rattle.hill.specs.Figure.{figure_at}
use Rattle.hill.proofs.HeldPlaces.{opens-inside, held-listed}
use Rattle.log_records.specs.Line.{held_by, greatest_held, same_figure, first_with, next_of, places_from, line_places}
use Rattle.log_records.specs.Claims.{record_value, sum_of, Reaches, Step, Down, LineBy, TakesGreatest, HeaviestLine, TakesWhole, OneLine}
use Rattle.log_records.specs.Formed.{Formed}
use Rattle.log_records.proofs.Formed.{formed}
use Rattle.log_records.proofs.GreatestLaws.{has-figure, alone, under, Stepped, stepped}
use Rattle.log_records.proofs.ChainLaws.{chain_end, holds_at, same-last, TakesEarliest, greatest-earliest, whole-earliest, down-as, down-chain, first-last}

-- ---- the first with a figure is the earliest

same-yes : (x : Held) → same_figure x x ≡ true
same-yes Nothing = refl
same-yes (Figure a) = go (le_z a a) refl
  where
    go : (t : Bool) → le_z a a ≡ t → t && t ≡ true
    go true e = refl
    go false e = absurd (omega (zed, le-false a a e))

same-is : (x y : Held) → same_figure x y ≡ true → x ≡ y
same-is Nothing Nothing e = refl
same-is Nothing (Figure b) e = absurd (true≢false (sym e))
same-is (Figure a) Nothing e = absurd (true≢false (sym e))
same-is (Figure a) (Figure b) e = go (le_z a b) refl (le_z b a) refl e
  where
    go : (s : Bool) → le_z a b ≡ s → (t : Bool) → le_z b a ≡ t → s && t ≡ true → Figure a ≡ Figure b
    go true p true q e = let h : a ≡ b = omega (zed, le-true a b p, le-true b a q) in ap Figure h
    go true p false q e = absurd (true≢false (sym e))
    go false p t q e = absurd (true≢false (sym e))

first-is : (f : ℕ → Held) (h : Held) (q : ℕ) (qs : List ℕ) → Sorted ◌<◌ qs → Memᴰ q qs → f q ≡ h → ((k : ℕ) → Memᴰ k qs → f k ≡ h → q ≤ k) → first_with f h qs ≡ q ∷ []
first-is f h q [] r m e least = absurd (Memᴰ.not-nil m)
first-is f h q (k ∷ ks) r m e least = go (same_figure (f k) h) refl (first-is f h q ks r.1)
  where
    go : (t : Bool) → same_figure (f k) h ≡ t → (Memᴰ q ks → f q ≡ h → ((j : ℕ) → Memᴰ j ks → f j ≡ h → q ≤ j) → first_with f h ks ≡ q ∷ []) → cond t (k ∷ []) (first_with f h ks) ≡ q ∷ []
    go true t ih =
        let a : q ≤ k = least k (Memᴰ.head refl) (same-is (f k) h t) in
        let b : k ≤ q = ⊎_elim (λ (g : q ≡ k). omega arith) (λ n. omega (arith, r.0 q n)) (Memᴰ.cases_cons m) in
        let g : k ≡ q = omega arith in
        ap (λ (j : ℕ). j ∷ []) g
    go false t ih =
        ⊎_elim
        (λ (g : q ≡ k). absurd (true≢false (sym (sym t ∙ ap (λ (x : Held). same_figure x h) (ap f (sym g) ∙ e) ∙ same-yes h))))
        (λ n. ih n e (λ j i u. least j (Memᴰ.tail i) u)) (Memᴰ.cases_cons m)

module _ (xs : List (Record Amounts)) where
  none-next : (p d : ℕ) → OpensAt xs p d → ((q : ℕ) → Holds xs p q d → ⊥) → next_of xs p d ≡ []
  none-next p d o none = go _ (held_by xs p d) (greatest_held xs p d) (λ q m. none q ((held-listed xs p d o).only q m))
    where
      go : (figure : ℕ → Held) (qs : List ℕ) (h : Held) → ((q : ℕ) → Memᴰ q qs → ⊥) → first_with figure h qs ≡ []
      go figure [] h n = refl
      go figure (q ∷ qs) h n = absurd (n q (Memᴰ.head refl))

  one-next : (p d : ℕ) → OpensAt xs p d → (t : Stepped xs p d) → next_of xs p d ≡ t.first.place ∷ []
  one-next p d o t =
      ap (λ h. first_with (figure_at heaviest xs) h (held_by xs p d)) t.held
      ∙ first-is (figure_at heaviest xs) (Figure t.rest) t.first.place (held_by xs p d) (held-listed xs p d o).rising t.first.member t.first.figure t.first.earliest

  -- ---- what is computed is a line

  computed : (n p d : ℕ) (s : ℤ) → OpensAt xs p d → length xs ≤ p + n → Down xs (TakesGreatest xs) s p (places_from xs n p d) × Reaches xs p (record_value xs p +ℤ sum_of xs (places_from xs n p d))
  unfolding places_from
  computed zero p d s o l = absurd (omega (arith, opens-inside xs p d o))
  computed (suc n) p d s o l =
      ⊎_elim
      (λ none. rw (none-next p d o none) ((λ q e h. none q (holds_at xs p q d o (e, h))), alone xs p d o none ∙ ap Figure (sym (+ℤ_idr (record_value xs p)))))
      (λ t.
      let w = computed n t.first.place (suc d) (s +ℤ record_value xs t.first.place) t.holds.held (omega (arith, t.holds.after)) in
      rw (one-next p d o t) ((t.takes s, w.0), t.adds ∙ ap (λ (z : ℤ). Figure (record_value xs p +ℤ z)) (figure-same (sym t.first.figure ∙ w.1))))
      (stepped xs p d o)

  -- ---- the greatest held figure is what makes up the whole

  makes-up : (p d : ℕ) (b : ℤ) (q : ℕ) (s : ℤ) → OpensAt xs p d → Reaches xs p b → (t : TakesGreatest xs s p q) → b ≡ record_value xs p +ℤ t.most
  makes-up p d b q s o e t =
      let h : Holds xs p q d = holds_at xs p q d o (t.depth, t.holds) in
      ⊎_elim (λ none. absurd (none q h))
      (λ w.
      let j : Holds xs p w.first.place t.depth = holds_at xs p w.first.place t.depth t.holds.holder (d, w.holds) in
      let v : b ≡ record_value xs p +ℤ w.rest = figure-same (sym e ∙ w.adds) in
      omega (zed, v, under xs p d o q t.most b h t.reaches e, t.greatest w.first.place w.rest j w.first.figure, add-law (record_value xs p) t.most, add-law (record_value xs p) w.rest))
      (stepped xs p d o)

  sum-next : (t v m : ℤ) → t +ℤ (v +ℤ m) ≡ (t +ℤ v) +ℤ m
  sum-next t v m = omega (zed, add-law t (v +ℤ m), add-law v m, add-law (t +ℤ v) m, add-law t v)

  same_rest : (s a b : ℤ) → s +ℤ a ≡ s +ℤ b → a ≡ b
  same_rest s a b e = omega (zed, e, add-law s a, add-law s b)

  greatest-whole : (qs : List ℕ) (p d : ℕ) (s t b : ℤ) → OpensAt xs p d → Reaches xs p b → Reaches xs 0 (t +ℤ b) → s ≡ t +ℤ record_value xs p → Down xs (TakesGreatest xs) s p qs → Down xs (TakesWhole xs) s p qs
  greatest-whole [] p d s t b o e f g w = w
  greatest-whole (q ∷ qs) p d s t b o e f g w =
      let x : TakesGreatest xs s p q = w.0 in
      let u : t +ℤ b ≡ s +ℤ x.most = ap (λ (z : ℤ). t +ℤ z) (makes-up p d b q s o e x) ∙ sum-next t (record_value xs p) x.most ∙ ap (λ (z : ℤ). z +ℤ x.most) (sym g) in
      let all : Reaches xs 0 (s +ℤ x.most) = f ∙ ap Figure u in (
        record {
          depth = x.depth;
          holds = x.holds;
          rest = x.most;
          reaches = x.reaches;
          whole = all;
          earliest = λ k a h r v. x.earliest k h (r ∙ ap Figure (same_rest s a x.most (figure-same (sym v ∙ all))));
        },
        greatest-whole qs q (suc x.depth) (s +ℤ record_value xs q) s x.most x.holds.held x.reaches all refl w.1,
      )

  -- ---- and there is no other

  module _ (f : Formed xs) where
    line-once : (S : Step xs) → ((s : ℤ) (p q : ℕ) → S s p q → TakesEarliest xs s p q) → (ps qs : List ℕ) → LineBy xs (TakesEarliest xs) ps → LineBy xs S qs → qs ≡ ps
    line-once S weak ps qs a c =
        let e = TakesEarliest xs in
        let u = has-figure xs 0 0 f.root in
        let y : Down xs e (record_value xs 0) 0 c.below = down-as xs S e weak c.below (record_value xs 0) 0 c.down in
        let s : sum_of xs (0 ∷ a.below) ≡ u.0 = ap (sum_of xs) (sym a.from-root) ∙ figure-same (sym a.adds ∙ u.1) in
        let t : sum_of xs (0 ∷ c.below) ≡ u.0 = ap (sum_of xs) (sym c.from-root) ∙ figure-same (sym c.adds ∙ u.1) in
        let i = down-chain xs a.below (record_value xs 0) 0 a.down in
        let j = down-chain xs c.below (record_value xs 0) 0 y in
        let l : chain_end 0 a.below ≤ chain_end 0 c.below = first-last xs f.meets a.below c.below (record_value xs 0) 0 0 u.0 f.root u.1 a.down j s t in
        let m : chain_end 0 c.below ≤ chain_end 0 a.below = first-last xs f.meets c.below a.below (record_value xs 0) 0 0 u.0 f.root u.1 y i t s in
        c.from-root ∙ ap (λ (l : List ℕ). 0 ∷ l) (same-last xs f.meets c.below a.below 0 0 f.root j i (omega arith)) ∙ sym a.from-root

    computed-line : HeaviestLine xs (line_places xs)
    unfolding line_places
    computed-line =
        let w = computed (length xs) 0 0 (record_value xs 0) f.root (omega arith) in
        record { root = f.root; below = places_from xs (length xs) 0 0; from-root = refl; down = w.0; adds = w.1 }

    word-for-word : LineBy xs (TakesWhole xs) (line_places xs)
    word-for-word =
        let a = computed-line in
        let u = has-figure xs 0 0 f.root in
        record {
          root = f.root;
          below = a.below;
          from-root = a.from-root;
          down = greatest-whole a.below 0 0 (record_value xs 0) (pos 0) u.0 f.root u.1 (u.1 ∙ ap Figure (sym (+ℤ_idl u.0))) (sym (+ℤ_idl (record_value xs 0))) a.down;
          adds = a.adds;
        }

    pub line-earliest : LineBy xs (TakesEarliest xs) (line_places xs)
    line-earliest =
        let a = computed-line in
        record { root = f.root; below = a.below; from-root = a.from-root; down = down-as xs (TakesGreatest xs) (TakesEarliest xs) (greatest-earliest xs) a.below (record_value xs 0) 0 a.down; adds = a.adds }

-- EXACTLY ONE LIST OF RECORDS is the line behind the heaviest figure of a log without fault, in both readings, and it is the one computed.
pub one_line : (xs : List (Record Amounts)) → log_fault xs ≡ pass → OneLine xs (line_places xs)
one_line xs v =
    let f = formed xs v in
    record {
      is = computed-line xs f;
      only = λ qs c. line-once xs f (TakesGreatest xs) (greatest-earliest xs) (line_places xs) qs (line-earliest xs f) c;
      word-for-word = word-for-word xs f;
      only_so = λ qs c. line-once xs f (TakesWhole xs) (whole-earliest xs) (line_places xs) qs (line-earliest xs f) c;
    }
