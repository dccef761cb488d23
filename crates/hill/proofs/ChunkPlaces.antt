-- The values of a chunk by places: a left or middle value combines exactly the records at its level that are opened and closed in the chunk and held by
-- none that it opens; an unclosed record's figures so far are those of the records that it holds and the chunk closes. Assumes nothing.
use Rattle.std.specs.Prelude.{◌≡◌, refl, Bool, true, false, cond, ◌&&◌, not, List, [], ◌∷◌, map, ℕ, zero, suc, ◌-◌, ◌≤◌, ◌<◌, eqb, length, drop}
use Rattle.std.proofs.Common.{ap, sym, ◌∙◌, ⊎_elim, eq-or-lt_of_le, arith, length-drop, eqb-true, eq-eqb, ne_eqb}
use Rattle.std.proofs.Math.Logic.{dite}
use Rattle.std.proofs.Math.Decide.{dec_lt, dec_le}
use Rattle.algebra.specs.Algebra.{Algebra}
use Rattle.hill.specs.Verdict.{pass}
use Rattle.hill.specs.Log.{Record, opening, closing, depth, start_level, end_level, end_of, peak_of, joints}
use Rattle.hill.specs.Closing.{at, OpensAt, Closed, Holds, Loose, Places}
use Rattle.hill.specs.Figure.{held, figure_at, combined}
use Rattle.hill.specs.Summary.{closed_in, done, pending}
use Rattle.hill.specs.Crossings.{Meeting}
use Rattle.hill.proofs.Crossings.{crosses-up, joints-meeting, falls, rises, closed-closed_in, closed_in-closed}
use Rattle.hill.proofs.Growth.{end-at}
use Rattle.hill.proofs.Peak.{lower-level, peak-at}
use Rattle.hill.specs.Places.{select}
use Rattle.hill.proofs.Places.{places_same, places-iff, Selected, select-places, here-at, here-rest}
use Rattle.hill.specs.HeldPlaces.{opens_at, ends_at}
use Rattle.hill.proofs.HeldPlaces.{opening-closing, opens-inside, first-close, opens_at-true, ends_at-false, holds-selected, selected-holds}

and-true : (a b : Bool) → a && b ≡ true → (a ≡ true) × (b ≡ true)
and-true true b e = (refl, e)
and-true false b e = absurd (let z : ◌≡◌ {A = ℕ} 0 1 = cc in omega arith)

module _ {R : Type 0} where
  ends_at-true : (l d : ℕ) (x : Record R) → l ≡ suc d → x ≡ closing d → ends_at l x ≡ false → ⊥
  ends_at-true l d x i e f =
      let g : eqb (suc d) (suc d) ≡ false = rw (i, e) at f in
      let t : eqb (suc d) (suc d) ≡ true = eq-eqb (suc d) (suc d) refl in
      let z : ◌≡◌ {A = ℕ} 0 1 = cc in
      omega arith

  ends_at-zero : (x : Record R) → ends_at 0 x ≡ false
  ends_at-zero (opening c r) = refl
  ends_at-zero (closing c) = ne_eqb (suc c) 0 (omega arith)

  -- Opened at depth l and closed further on.
  abbrev finished : ℕ → Record R → List (Record R) → Bool
  finished l x xs = opens_at l x && closed_in l xs

  -- Before an open at depth l that none holds, no close ends what a record of depth l - 1 holds.
  unheld : (log : List (Record R)) → Meeting log → (l q : ℕ) → OpensAt log q l → ((p d : ℕ) → Holds log p q d → ⊥) → (k : ℕ) → k ≤ q → ends_at l (at log k) ≡ false
  unheld log meets zero q o free k b = ends_at-zero (at log k)
  unheld log meets (suc m) q o free k b = ends_at-false m (at log k) (λ e. ⊎_elim (λ (i : k ≡ q). opening-closing (at log q) (suc m) m o.0 o.1 (rw i at e)) (λ i. below e i) (eq-or-lt_of_le b))
    where
      below : at log k ≡ closing m → k < q → ⊥
      below e i =
          let inside : q < length log = opens-inside log q (suc m) o in
          let s : start_level (at log (suc k)) ≡ m = sym (meets k (omega arith)) ∙ ap end_level e in
          let t : start_level (at log q) ≡ suc m = ap start_level o.1 in
          let w = rises log meets m (suc k) q (omega arith) inside (omega arith) (omega arith) in
          free w.0 m (record {
            holder = w.3;
            held = o;
            after = w.2;
            before = λ c h. dite (dec_lt q c) (λ j. j) (λ j. absurd (⊎_elim
                (λ (f : c ≡ q). opening-closing (at log q) (suc m) m o.0 o.1 (rw f at h.closed))
                (λ f. w.4 c h.order f h.closed) (eq-or-lt_of_le (omega arith))));
          })

  module _ (log : List (Record R)) (meets : Meeting log) (l : ℕ) (high : l ≤ start_level (at log 0)) where
    loose-selected : (q : ℕ) → Selected (finished l) (ends_at l) log 0 q → Loose log l q
    loose-selected q s =
        let o : OpensAt log q l = opens_at-true l (at log q) (and-true (opens_at l (at log q)) (closed_in l (drop (suc q) log)) s.kept).0 in
        record {
          opened = o;
          closed = closed-closed_in log q l o (and-true (opens_at l (at log q)) (closed_in l (drop (suc q) log)) s.kept).1;
          free = λ p d h. none o p d h;
        }
      where
        none : OpensAt log q l → (p d : ℕ) → Holds log p q d → ⊥
        none o p d h =
            let e : l ≡ suc d = ap depth (sym o.1 ∙ h.held.1) in
            let i : start_level (at log p) ≡ d = ap start_level h.holder.1 in
            let w = falls log meets d 0 p (omega arith) (omega (arith, h.after, s.inside)) (omega arith) (omega arith) in
            ends_at-true l d (at log w.0) e w.3 (s.before w.0 (omega arith) (omega (arith, w.2, h.after)))

    selected-loose : (q : ℕ) → Loose log l q → Selected (finished l) (ends_at l) log 0 q
    selected-loose q h = record {
      from = omega arith;
      inside = opens-inside log q l h.opened;
      kept = rw (closed_in-closed log q l h.closed, h.opened.1, eq-eqb l l refl);
      before = λ k a b. unheld log meets l q h.opened h.free k b;
    }

    pub value-listed : Places (Loose log l) (select (finished l) (ends_at l) 0 log)
    value-listed = places-iff loose-selected selected-loose (select-places (finished l) (ends_at l) log 0 log refl)

  -- What the unclosed record at p holds and the chunk closes.
  module _ (log : List (Record R)) (p d : ℕ) (o : OpensAt log p d) where
    so-far-selected : (q : ℕ) → Selected (finished (suc d)) (ends_at (suc d)) log (suc p) q → Holds log p q d × Closed log q (suc d)
    so-far-selected q s =
        let k = and-true (opens_at (suc d) (at log q)) (closed_in (suc d) (drop (suc q) log)) s.kept in (
          holds-selected log p d o q (record { from = s.from; inside = s.inside; kept = k.0; before = s.before }),
          closed-closed_in log q (suc d) (opens_at-true (suc d) (at log q) k.0) k.1,
        )

    selected-so-far : (q : ℕ) → Holds log p q d × Closed log q (suc d) → Selected (finished (suc d)) (ends_at (suc d)) log (suc p) q
    selected-so-far q h =
        let s = selected-holds log p d o q h.0 in
        record { from = s.from; inside = s.inside; kept = rw (s.kept, closed_in-closed log q (suc d) h.1); before = s.before }

    pub so-far-listed : Places (λ q. Holds log p q d × Closed log q (suc d)) (select (finished (suc d)) (ends_at (suc d)) (suc p) (drop (suc p) log))
    so-far-listed = places-iff so-far-selected selected-so-far (select-places (finished (suc d)) (ends_at (suc d)) log (suc p) (drop (suc p) log) refl)

  unclosed : (log : List (Record R)) (p d : ℕ) → OpensAt log p d → (Closed log p d → ⊥) → closed_in d (drop (suc p) log) ≡ false
  unclosed log p d o u = go (closed_in d (drop (suc p) log)) refl
    where
      go : (b : Bool) → closed_in d (drop (suc p) log) ≡ b → b ≡ false
      go true e = absurd (u (closed-closed_in log p d o e))
      go false e = refl

  -- One record at most of each depth is opened and not closed.
  later-closed : (log : List (Record R)) → Meeting log → (n p d : ℕ) → OpensAt log n d → OpensAt log p d → n < p → closed_in d (drop (suc n) log) ≡ true
  later-closed log meets n p d o u l =
      let inside : p < length log = opens-inside log p d u in
      let s : start_level (at log (suc n)) ≡ suc d = sym (meets n (omega arith)) ∙ ap end_level o.1 in
      let t : start_level (at log p) ≡ d = ap start_level u.1 in
      let w = falls log meets d (suc n) p (omega arith) inside (omega arith) (omega arith) in
      ⊎_elim
      (λ none. absurd (none w.0 (omega (arith, w.1)) (omega (arith, w.2)) w.3))
      (λ f. closed_in-closed log n d (f.0, f.2))
      (first-close log n d o p (omega arith))

module _ {R : Type 0} (𝒜 : Algebra R) where
  open 𝒜 use {Fig, ι, ◌⊗◌, node}

  infixl 70 ◌⊗◌
  done-select : (log : List (Record R)) (d n : ℕ) (xs : List (Record R)) → drop n log ≡ xs → done 𝒜 d xs ≡ combined 𝒜 (map (figure_at 𝒜 log) (select (finished d) (ends_at d) n xs))
  done-select log d n [] e = refl
  done-select log d n (opening c r ∷ xs) e = go (eqb c d) refl (closed_in d xs) (done-select log d (suc n) xs (here-rest log n (opening c r) xs e))
    where
      go : (b : Bool) → eqb c d ≡ b → (t : Bool) → done 𝒜 d xs ≡ combined 𝒜 (map (figure_at 𝒜 log) (select (finished d) (ends_at d) (suc n) xs)) →
          cond (b && t) (node r (held 𝒜 (suc d) xs) ⊗ done 𝒜 d xs) (done 𝒜 d xs) ≡
          combined 𝒜 (map (figure_at 𝒜 log) (cond (b && t) (n ∷ select (finished d) (ends_at d) (suc n) xs) (select (finished d) (ends_at d) (suc n) xs)))
      go true i true ih = rw (e, eqb-true c d i, ih)
      go true i false ih = ih
      go false i t ih = ih
  done-select log d n (closing c ∷ xs) e = go (eqb (suc c) d) (done-select log d (suc n) xs (here-rest log n (closing c) xs e))
    where
      go : (b : Bool) → done 𝒜 d xs ≡ combined 𝒜 (map (figure_at 𝒜 log) (select (finished d) (ends_at d) (suc n) xs)) →
          cond b ι (done 𝒜 d xs) ≡ combined 𝒜 (map (figure_at 𝒜 log) (cond b [] (select (finished d) (ends_at d) (suc n) xs)))
      go true ih = refl
      go false ih = ih

  -- A LEFT OR MIDDLE VALUE.
  pub value-places : (x : Record R) (xs : List (Record R)) → joints x xs ≡ pass → (l : ℕ) → l ≤ start_level x → (ps : List ℕ) → Places (Loose (x ∷ xs) l) ps →
      done 𝒜 l (x ∷ xs) ≡ combined 𝒜 (map (figure_at 𝒜 (x ∷ xs)) ps)
  value-places x xs v l h ps k =
      done-select (x ∷ xs) l 0 (x ∷ xs) refl ∙ ap (λ qs. combined 𝒜 (map (figure_at 𝒜 (x ∷ xs)) qs)) (places_same (value-listed (x ∷ xs) (joints-meeting x xs v) l h) k)

  pending-select : (log : List (Record R)) → Meeting log → (p c : ℕ) (r : R) → at log p ≡ opening c r → (Closed log p c → ⊥) → (n : ℕ) (xs : List (Record R)) → drop n log ≡ xs → n ≤ p →
      pending 𝒜 c xs ≡ (r, done 𝒜 (suc c) (drop (suc p) log)) ∷ []
  pending-select log meets p c r e u n [] h l = absurd (omega (arith, opens-inside log p c (r, e), sym (length-drop n log) ∙ ap length h))
  pending-select log meets p c r e u n (x ∷ xs) h l =
      ⊎_elim (λ (i : n ≡ p). here i) (λ i. there x h i (pending-select log meets p c r e u (suc n) xs (here-rest log n x xs h) (omega arith))) (eq-or-lt_of_le l)
    where
      here : n ≡ p → pending 𝒜 c (x ∷ xs) ≡ (r, done 𝒜 (suc c) (drop (suc p) log)) ∷ []
      here i =
          let a : x ≡ opening c r = sym (here-at log n x xs h) ∙ ap (λ k. at log k) i ∙ e in
          let b : xs ≡ drop (suc p) log = sym (here-rest log n x xs h) ∙ ap (λ k. drop (suc k) log) i in
          rw (a, b, eq-eqb c c refl, unclosed log p c (r, e) u)

      there : (x : Record R) → drop n log ≡ x ∷ xs → n < p → pending 𝒜 c xs ≡ (r, done 𝒜 (suc c) (drop (suc p) log)) ∷ [] → pending 𝒜 c (x ∷ xs) ≡ (r, done 𝒜 (suc c) (drop (suc p) log)) ∷ []
      there (closing d) h i ih = ih
      there (opening d s) h i ih = go (eqb d c) refl
        where
          go : (b : Bool) → eqb d c ≡ b → cond (b && not (closed_in c xs)) ((s, done 𝒜 (suc c) xs) ∷ []) (pending 𝒜 c xs) ≡ (r, done 𝒜 (suc c) (drop (suc p) log)) ∷ []
          go true t =
              let o : at log n ≡ opening c s = here-at log n (opening d s) xs h ∙ ap (λ k. opening k s) (eqb-true d c t) in
              let f : closed_in c xs ≡ true = ap (closed_in c) (sym (here-rest log n (opening d s) xs h)) ∙ later-closed log meets n p c (s, o) (r, e) i in
              rw f ih
          go false t = ih

  -- AN UNCLOSED RECORD, with its held figures so far.
  pub unclosed-places : (x : Record R) (xs : List (Record R)) → joints x xs ≡ pass → (p c : ℕ) (r : R) → at (x ∷ xs) p ≡ opening c r → (Closed (x ∷ xs) p c → ⊥) →
      (ps : List ℕ) → Places (λ q. Holds (x ∷ xs) p q c × Closed (x ∷ xs) q (suc c)) ps →
      pending 𝒜 c (x ∷ xs) ≡ (r, combined 𝒜 (map (figure_at 𝒜 (x ∷ xs)) ps)) ∷ []
  unclosed-places x xs v p c r e u ps k =
      pending-select (x ∷ xs) (joints-meeting x xs v) p c r e u 0 (x ∷ xs) refl (omega arith) ∙
      ap (λ h. (r, h) ∷ [])
      (done-select (x ∷ xs) (suc c) (suc p) (drop p xs) refl ∙ ap (λ qs. combined 𝒜 (map (figure_at 𝒜 (x ∷ xs)) qs)) (places_same (so-far-listed (x ∷ xs) p c (r, e)) k))

module _ {R : Type 0} where
  -- From a level of at most c the chunk goes up to its end, so it leaves a record of depth c unclosed.
  left_open : (log : List (Record R)) → Meeting log → (c a e : ℕ) → suc e ≡ length log → a ≤ e → start_level (at log a) ≤ c → c < end_level (at log e) →
      (p : ℕ) × OpensAt log p c × (Closed log p c → ⊥)
  left_open log meets c a e n l s t =
      dite (dec_le (start_level (at log e)) c)
      (λ h. (e, crosses-up (at log e) c h t, λ k. omega (arith, k.1.order, k.1.inside)))
      (λ h. let w = rises log meets c a e l (omega arith) s (omega arith) in (
        w.0,
        w.3,
        λ (k : Closed log w.0 c). ⊎_elim
            (λ (f : k.0 ≡ e). omega (arith, ap end_level (rw f at k.1.closed)))
            (λ f. w.4 k.0 k.1.order f k.1.closed)
            (eq-or-lt_of_le (omega (arith, k.1.inside))),
      ))

  pub unclosed-exists : (x : Record R) (xs : List (Record R)) → joints x xs ≡ pass → (c : ℕ) → peak_of x xs ≤ c → c < end_of x xs →
      (p : ℕ) × OpensAt (x ∷ xs) p c × (Closed (x ∷ xs) p c → ⊥)
  unclosed-exists x xs v c l u =
      let w = peak-at x xs in
      let meets : Meeting (x ∷ xs) = joints-meeting x xs v in
      let e : suc (length xs) - 1 ≡ length xs = omega arith in
      let high : c < end_level (at (x ∷ xs) (length xs)) = omega (arith, end-at x xs, ap (λ k. end_level (at (x ∷ xs) k)) e) in
      ⊎_elim
      (λ (a : start_level (at (x ∷ xs) w.0) ≡ depth (at (x ∷ xs) w.0)). left_open (x ∷ xs) meets c w.0 (length xs) refl w.1 (omega (arith, w.2)) high)
      (λ (a : end_level (at (x ∷ xs) w.0) ≡ depth (at (x ∷ xs) w.0)). ⊎_elim
      (λ (e : w.0 ≡ length xs). absurd (omega (arith, w.2, ap (λ k. end_level (at (x ∷ xs) k)) e)))
      (λ e. left_open (x ∷ xs) meets c (suc w.0) (length xs) refl (omega arith) (omega (arith, w.2, meets w.0 (omega arith))) high)
      (eq-or-lt_of_le w.1))
      (lower-level (at (x ∷ xs) w.0))
