-- The figure of a record that is opened in one chunk and closed in another: its held figures so far, the records apart, and the left value. Assumes nothing.
use Rattle.std.specs.Prelude.{◌≡◌, refl, false, ◌&&◌, ℕ, suc, ◌+◌, ◌-◌, ◌≤◌, ◌<◌, eqb, length, get_or, drop}
use Rattle.std.proofs.Common.{ap, sym, subst, ◌∙◌, ⊎_elim, arith, eq-eqb}
use Rattle.std.proofs.Math.Logic.{dite}
use Rattle.std.proofs.lemmas.Bool.{false≢true}
use mathlib.Core.List.{List, [], ◌∷◌, map, Memᴰ}
use Rattle.std.proofs.Math.Decide.{dec_lt, dec_le, ℕ_discrete}
use Rattle.algebra.specs.Algebra.{Algebra, Laws, Commutative}
use Rattle.hill.specs.Verdict.{pass}
use Rattle.hill.specs.Log.{Record, opening, closing, depth, start_level, end_level, joints}
use Rattle.hill.specs.Closing.{at, OpensAt, ClosedBy, Closed, Holds, Loose, Places}
use Rattle.hill.specs.Figure.{figure_at, combined}
use Rattle.hill.specs.Summary.{closed_in, done, pending}
use Rattle.hill.specs.Row.{joined}
use Rattle.hill.proofs.Spell.{Meets, joints-meet}
use Rattle.hill.proofs.Places.{places_same, places-iff, Selected, select-places}
use Rattle.hill.specs.HeldPlaces.{opens_at, ends_at, held_from}
use Rattle.hill.proofs.HeldPlaces.{closed-once, opening-closing, opens-inside, first-close, held-listed, held-figure}
use Rattle.hill.specs.Crossings.{Meeting}
use Rattle.hill.proofs.Crossings.{joints-meeting, falls}
use Rattle.hill.proofs.ChunkPlaces.{value-listed, value-places, unclosed-places}
use Rattle.join_plan.specs.ByRecords.{place}
use Rattle.hill.proofs.LogPlaces.{WellFormedLog}
use Rattle.join_plan.proofs.LogJoins.{place-suc, place_inside, place-le, place_at, closed-high}
use Rattle.plan_work.specs.RunsByRecords.{Links, Wholly, Apart}
use Rattle.plan_work.proofs.ChunkFigures.{figure-chunk}
use Rattle.plan_work.proofs.PlaceLists.{those, others, combined-split, those-places, others-places, from, from_places, combined-from}

module _ {R : Type 0} where
  opens? : (x : Record R) (l : ℕ) → Dec ((r : R) × (x ≡ opening l r))
  opens? (closing c) l = no (λ h. opening-closing (closing c) l c h.0 h.1 refl)
  opens? (opening c r) l = go (ℕ_discrete c l)
    where
      go : Dec (c ≡ l) → Dec ((s : R) × (◌≡◌ {A = Record R} (opening c r) (opening l s)))
      go (yes e) = yes (r, ap (λ k. opening k r) e)
      go (no n) = no (λ h. n (ap depth h.1))

  module _ (cs : List (List (Record R))) (w : WellFormedLog (joined cs)) where
    abbrev log : List (Record R)
    log = joined cs

    -- What a record holds is closed before it is.
    pub held-closes : (p q c d : ℕ) → Holds log p q d → ClosedBy log p c d → (e : ℕ) × (e < c) × ClosedBy log q e (suc d)
    held-closes p q c d h b =
        let n : q < c = h.before c b in
        let (k, a, e, x) = falls log (λ k l. sym (w.meets (suc k) l)) (suc d) (suc q) c n b.inside
        (omega (arith, w.meets (suc q) (omega (arith, b.inside)), ap end_level h.held.1)) (omega (arith, ap start_level b.closed)) in
        ⊎_elim (λ none. absurd (none k (omega arith) e x)) (λ f. f) (first-close log q (suc d) h.held c (omega (arith, b.inside)))

    -- Chunk k and the log, place by place.
    module _ (k : ℕ) where
      abbrev chunk : List (Record R)
      chunk = get_or cs k []

      closed-out : (q c l : ℕ) → ClosedBy chunk q c l → ClosedBy log (place cs k + q) (place cs k + c) l
      closed-out q c l b = record {
        order = omega (arith, b.order);
        inside = omega (arith, b.inside, place-suc cs k, place_inside cs (suc k));
        opened = (b.opened.0, place_at cs k q (omega (arith, b.order, b.inside)) ∙ b.opened.1);
        closed = place_at cs k c b.inside ∙ b.closed;
        first = λ n x y e. let i : place cs k + (n - place cs k) ≡ n = omega arith in
            b.first (n - place cs k) (omega arith) (omega arith) (sym (place_at cs k (n - place cs k) (omega (arith, b.inside))) ∙ ap (at log) i ∙ e);
      }

      closed-in : (q c l : ℕ) → c < length chunk → ClosedBy log (place cs k + q) (place cs k + c) l → ClosedBy chunk q c l
      closed-in q c l i b = record {
        order = omega (arith, b.order);
        inside = i;
        opened = (b.opened.0, sym (place_at cs k q (omega (arith, b.order))) ∙ b.opened.1);
        closed = sym (place_at cs k c i) ∙ b.closed;
        first = λ n x y e. b.first (place cs k + n) (omega arith) (omega arith) (place_at cs k n (omega arith) ∙ e);
      }

      wholly? : (q l : ℕ) → Dec (Wholly cs k q l)
      wholly? q l = go (dec_le (place cs k) q) (opens? (at log q) l)
        where
          go : Dec (place cs k ≤ q) → Dec (OpensAt log q l) → Dec (Wholly cs k q l)
          go (no a) o = no (λ h. a h.1.0)
          go (yes a) (no o) = no (λ h. o h.3.opened)
          go (yes a) (yes o) = ⊎_elim
              (λ none. no (λ h. none h.0 h.3.order h.2.1 h.3.closed))
              (λ f. yes (f.0, (a, omega (arith, f.1, f.2.order)), (omega (arith, f.2.order), f.1), f.2))
              (first-close log q l o (place cs (suc k)) (place_inside cs (suc k)))

    -- The record opened at p, of depth d, links chunks i < j: it is closed at c.
    module _ (i j p d : ℕ) (apart : i < j) (link : Links cs i j p d) where
      abbrev c : ℕ
      c = link.0

      abbrev closes : ClosedBy log p c d
      closes = link.3

      abbrev a : ℕ
      a = place cs i

      abbrev b : ℕ
      b = place cs j

      order : place cs (suc i) ≤ b
      order = place-le cs (suc i) j apart

      size-i : place cs (suc i) ≡ a + length (chunk i)
      size-i = place-suc cs i

      size-j : place cs (suc j) ≡ b + length (chunk j)
      size-j = place-suc cs j

      -- What it holds from chunk j on lies wholly in j.
      pub held-late : (q : ℕ) → Holds log p q d → b ≤ q → Wholly cs j q (suc d)
      held-late q h l =
          let e : (e : ℕ) × (e < c) × ClosedBy log q e (suc d) = held-closes p q c d h closes in
          (e.0, (l, omega (arith, e.1, e.2.order, link.2.1)), (omega (arith, e.2.order), omega (arith, e.1, link.2.1)), e.2)

      -- Wholly in i: what the chunk's own record holds and the chunk closes.
      own-holds : (k : ℕ) → Holds log p (a + k) d × Wholly cs i (a + k) (suc d) → Holds (chunk i) (p - a) k d × Closed (chunk i) k (suc d)
      own-holds k (h, u) =
          let e : a + (p - a) ≡ p = omega (arith, link.1.0) in
          let n : k < length (chunk i) = omega (arith, u.1.1, size-i) in
          let m : p - a < length (chunk i) = omega (arith, link.1.0, link.1.1, size-i) in
          let f : a + (u.0 - a) ≡ u.0 = omega (arith, u.2.0) in (
            record {
              holder = (h.holder.0, sym (place_at cs i (p - a) m) ∙ ap (at log) e ∙ h.holder.1);
              held = (h.held.0, sym (place_at cs i k n) ∙ h.held.1);
              after = omega (arith, h.after, link.1.0);
              before = λ g x. omega (arith, h.before (a + g) (subst (λ s. ClosedBy log s (a + g) d) e (closed-out i (p - a) g d x)));
            },
            (u.0 - a, closed-in i k (u.0 - a) (suc d) (omega (arith, u.2.0, u.2.1, size-i)) (subst (λ s. ClosedBy log (a + k) s (suc d)) (sym f) u.3)),
          )

      holds-own : (k : ℕ) → Holds (chunk i) (p - a) k d × Closed (chunk i) k (suc d) → Holds log p (a + k) d × Wholly cs i (a + k) (suc d)
      holds-own k (h, u) =
          let n : k < length (chunk i) = omega (arith, u.1.order, u.1.inside) in (
            record {
              holder = closes.opened;
              held = (h.held.0, place_at cs i k n ∙ h.held.1);
              after = omega (arith, h.after, link.1.0);
              before = λ g x. omega (arith, closed-once log p c g d closes x, link.2.0, order, size-i);
            },
            (a + u.0, (omega arith, omega (arith, size-i)), (omega arith, omega (arith, u.1.inside, size-i)), closed-out i k u.0 (suc d) u.1),
          )

      own_open : Closed (chunk i) (p - a) d → ⊥
      own_open (g, x) =
          let e : a + (p - a) ≡ p = omega (arith, link.1.0) in
          omega (arith, closed-once log p c (a + g) d closes (subst (λ s. ClosedBy log s (a + g) d) e (closed-out i (p - a) g d x)), x.inside, link.2.0, order, size-i)

      -- From chunk j on: the records at level d + 1 that j opens and closes and none of j holds.
      late-loose : (k : ℕ) → Holds log p (b + k) d → Loose (chunk j) (suc d) k
      late-loose k h =
          let u : Wholly cs j (b + k) (suc d) = held-late (b + k) h (omega arith) in
          let n : k < length (chunk j) = omega (arith, u.1.1, size-j) in
          let f : b + (u.0 - b) ≡ u.0 = omega (arith, u.2.0) in
          record {
            opened = (h.held.0, sym (place_at cs j k n) ∙ h.held.1);
            closed = (u.0 - b, closed-in j k (u.0 - b) (suc d) (omega (arith, u.2.0, u.2.1, size-j)) (subst (λ s. ClosedBy log (b + k) s (suc d)) (sym f) u.3));
            free = λ s e x.
                let y : suc e ≡ suc d = ap depth (sym x.held.1 ∙ sym (place_at cs j k n) ∙ h.held.1) in
                let z : at log (b + s) ≡ opening e x.holder.0 = place_at cs j s (omega (arith, x.after)) ∙ x.holder.1 in
                omega (
                  arith,
                  closed-high log w.meets p c d closes (b + s) (omega (arith, link.1.1, order)) (omega (arith, x.after, h.before c closes)),
                  ap start_level z,
                  w.meets (b + s) (omega (arith, x.after, h.before c closes, closes.inside)),
                );
          }

      high-j : suc d ≤ start_level (at (chunk j) 0)
      high-j =
          let z : b + 0 ≡ b = omega arith in
          omega (
            arith,
            ap start_level (sym (place_at cs j 0 (omega (arith, link.2.0, link.2.1, size-j))) ∙ ap (at log) z),
            w.meets b (omega (arith, link.2.0, closes.inside)),
            closed-high log w.meets p c d closes b (omega (arith, link.1.1, order)) link.2.0,
          )

      loose-late : Meeting (chunk j) → (k : ℕ) → Loose (chunk j) (suc d) k → Holds log p (b + k) d
      loose-late meets k x =
          let m : k < length (chunk j) = opens-inside (chunk j) k (suc d) x.opened in
          record {
            holder = closes.opened;
            held = (x.opened.0, place_at cs j k m ∙ x.opened.1);
            after = omega (arith, link.1.1, order);
            before = λ g y. let e : c ≡ g = closed-once log p c g d closes y in dite (dec_lt (b + k) g) (λ z. z) (λ z. absurd (early (omega arith)));
          }
        where
          sel : Selected (λ x xs. opens_at (suc d) x && closed_in (suc d) xs) (ends_at (suc d)) (chunk j) 0 k
          sel =
              (select-places (λ x xs. opens_at (suc d) x && closed_in (suc d) xs) (ends_at (suc d)) (chunk j) 0 (chunk j) refl).only k
              ((value-listed (chunk j) meets (suc d) high-j).all k x)

          early : c ≤ b + k → ⊥
          early l =
              let n : c - b < length (chunk j) = omega (arith, link.2.0, link.2.1, size-j) in
              let f : b + (c - b) ≡ c = omega (arith, link.2.0) in
              let g : at (chunk j) (c - b) ≡ closing d = sym (place_at cs j (c - b) n) ∙ ap (at log) f ∙ closes.closed in
              let s : eqb (suc d) (suc d) ≡ false = rw g at (sel.before (c - b) (omega arith) (omega arith)) in
              false≢true (sym s ∙ eq-eqb (suc d) (suc d) refl)

-- A chunk in which nothing is at fault between neighbours.
abbrev pub Quiet : {R : Type 0} → List (Record R) → Type 0
Quiet [] = Unit {0}
Quiet (x ∷ xs) = joints x xs ≡ pass

module _ {R : Type 0} where
  quiet-meeting : (xs : List (Record R)) → Quiet xs → Meeting xs
  quiet-meeting [] v k l = absurd (omega arith)
  quiet-meeting (x ∷ xs) v k l = joints-meeting x xs v k l

  quiet-meets : (xs : List (Record R)) → Quiet xs → (t : ℕ) × Meets t xs
  quiet-meets [] v = (0, tt)
  quiet-meets (x ∷ xs) v = (start_level x, (refl, joints-meet x xs v))

  module _ (𝒜 : Algebra R) where
    unclosed-chunk : (xs : List (Record R)) → Quiet xs → (p c : ℕ) (r : R) → at xs p ≡ opening c r → (Closed xs p c → ⊥) →
        (ps : List ℕ) → Places (λ q. Holds xs p q c × Closed xs q (suc c)) ps → pending 𝒜 c xs ≡ (r, combined 𝒜 (map (figure_at 𝒜 xs) ps)) ∷ []
    unclosed-chunk [] v p c r e u ps k = absurd (omega (arith, opens-inside [] p c (r, e)))
    unclosed-chunk (x ∷ xs) v p c r e u ps k = unclosed-places 𝒜 x xs v p c r e u ps k

    value-chunk : (xs : List (Record R)) → Quiet xs → 0 < length xs → (l : ℕ) → l ≤ start_level (at xs 0) → (ps : List ℕ) → Places (Loose xs l) ps → done 𝒜 l xs ≡ combined 𝒜 (map (figure_at 𝒜 xs) ps)
    value-chunk [] v n l h ps k = absurd (omega arith)
    value-chunk (x ∷ xs) v n l h ps k = value-places 𝒜 x xs v l h ps k

-- THE FIGURE of a record that links chunks i and j.
module _ {R : Type 0} (𝒜 : Algebra R) (ℒ : Laws 𝒜) (comm : Commutative 𝒜) (cs : List (List (Record R))) (w : WellFormedLog (joined cs)) (quiet : (k : ℕ) → Quiet (get_or cs k [])) where
  open 𝒜 use {Fig, ι, ◌⊗◌, node}

  infixl 70 ◌⊗◌
  module _ (i j p d : ℕ) (far : i < j) (link : Links cs i j p d) where
    abbrev all : List ℕ
    all = held_from (suc d) (suc p) (drop (suc p) (joined cs))

    listed : Places (λ q. Holds (joined cs) p q d) all
    listed = held-listed (joined cs) p d link.3.opened

    abbrev in-i : (q : ℕ) → Dec (Wholly cs i q (suc d))
    in-i q = wholly? cs w i q (suc d)

    abbrev before-j : (q : ℕ) → Dec (q < place cs j)
    before-j q = dec_lt q (place cs j)

    abbrev sum : List ℕ → Fig
    sum qs = combined 𝒜 (map (figure_at 𝒜 (joined cs)) qs)

    -- The held figures so far are those of the records wholly in i, ..
    so_far : pending 𝒜 d (get_or cs i []) ≡ (link.3.opened.0, sum (those in-i all)) ∷ []
    so_far =
        unclosed-chunk 𝒜 (get_or cs i []) (quiet i) (p - place cs i) d link.3.opened.0
        (sym (place_at cs i (p - place cs i) (omega (arith, link.1.0, link.1.1, place-suc cs i))) ∙ ap (at (joined cs)) e ∙ link.3.opened.1)
        (own_open cs w i j p d far link) (from (place cs i) (those in-i all))
        (places-iff (own-holds cs w i j p d far link) (holds-own cs w i j p d far link) (from_places (place cs i) (those in-i all) (λ q h. h.1.1.0) mine))
        ∙ ap (λ (h : Fig). (link.3.opened.0, h) ∷ []) (combined-from (place cs i) 𝒜 (figure_at 𝒜 (get_or cs i [])) (figure_at 𝒜 (joined cs)) (those in-i all) same)
      where
        e : place cs i + (p - place cs i) ≡ p
        e = omega (arith, link.1.0)

        mine : Places (λ q. Holds (joined cs) p q d × Wholly cs i q (suc d)) (those in-i all)
        mine = those-places in-i all listed

        same : (q : ℕ) → Memᴰ q (those in-i all) → figure_at 𝒜 (get_or cs i []) (q - place cs i) ≡ figure_at 𝒜 (joined cs) q
        same q m =
            let u : Holds (joined cs) p q d × Wholly cs i q (suc d) = mine.only q m in
            let f : place cs i + (q - place cs i) ≡ q = omega (arith, u.1.1.0) in
            let k : Closed (get_or cs i []) (q - place cs i) (suc d) = (own-holds cs w i j p d far link (q - place cs i) (subst (λ s. Holds (joined cs) p s d × Wholly cs i s (suc d)) (sym f) u)).1 in
            sym (figure-chunk 𝒜 cs i (quiet-meets (get_or cs i []) (quiet i)).0 (q - place cs i) k.0 (suc d) (quiet-meets (get_or cs i []) (quiet i)).1 k.1) ∙ ap (figure_at 𝒜 (joined cs)) f

    -- .. the left value of j at level d + 1 combines those from chunk j on, ..
    late : done 𝒜 (suc d) (get_or cs j []) ≡ sum (others before-j (others in-i all))
    late =
        value-chunk 𝒜 (get_or cs j []) (quiet j) (omega (arith, link.2.0, link.2.1, place-suc cs j)) (suc d) (high-j cs w i j p d far link) (from (place cs j) lasts)
        (places-iff (λ k h. late-loose cs w i j p d far link k h.0.0) back (from_places (place cs j) lasts (λ q h. dite (dec_lt q (place cs j)) (λ l. absurd (h.1 l)) (λ l. omega arith)) mine))
        ∙ combined-from (place cs j) 𝒜 (figure_at 𝒜 (get_or cs j [])) (figure_at 𝒜 (joined cs)) lasts same
      where
        lasts : List ℕ
        lasts = others before-j (others in-i all)

        mine : Places (λ q. (Holds (joined cs) p q d × (Wholly cs i q (suc d) → ⊥)) × (q < place cs j → ⊥)) lasts
        mine = others-places before-j (others in-i all) (others-places in-i all listed)

        back : (k : ℕ) → Loose (get_or cs j []) (suc d) k → (Holds (joined cs) p (place cs j + k) d × (Wholly cs i (place cs j + k) (suc d) → ⊥)) × (place cs j + k < place cs j → ⊥)
        back k x = (
          (loose-late cs w i j p d far link (quiet-meeting (get_or cs j []) (quiet j)) k x, λ u. omega (arith, u.1.1, place-le cs (suc i) j far)),
          λ l. omega arith,
        )

        same : (q : ℕ) → Memᴰ q lasts → figure_at 𝒜 (get_or cs j []) (q - place cs j) ≡ figure_at 𝒜 (joined cs) q
        same q m =
            let u : (Holds (joined cs) p q d × (Wholly cs i q (suc d) → ⊥)) × (q < place cs j → ⊥) = mine.only q m in
            let l : place cs j ≤ q = dite (dec_lt q (place cs j)) (λ x. absurd (u.1 x)) (λ x. omega arith) in
            let f : place cs j + (q - place cs j) ≡ q = omega arith in
            let k : Closed (get_or cs j []) (q - place cs j) (suc d) = (late-loose cs w i j p d far link (q - place cs j) (subst (λ s. Holds (joined cs) p s d) (sym f) u.0.0)).closed in
            sym (figure-chunk 𝒜 cs j (quiet-meets (get_or cs j []) (quiet j)).0 (q - place cs j) k.0 (suc d) (quiet-meets (get_or cs j []) (quiet j)).1 k.1) ∙ ap (figure_at 𝒜 (joined cs)) f

    -- .. and the others are apart.
    apart-listed : Places (Apart cs i j p d) (those before-j (others in-i all))
    apart-listed = places-iff to back (those-places before-j (others in-i all) (others-places in-i all listed))
      where
        to : (q : ℕ) → (Holds (joined cs) p q d × (Wholly cs i q (suc d) → ⊥)) × (q < place cs j) → Apart cs i j p d q
        to q h = record { held = h.0.0; not-i = h.0.1; not-j = λ u. omega (arith, u.1.0, h.1) }

        back : (q : ℕ) → Apart cs i j p d q → (Holds (joined cs) p q d × (Wholly cs i q (suc d) → ⊥)) × (q < place cs j)
        back q h = ((h.held, h.not-i), dite (dec_lt q (place cs j)) (λ l. l) (λ l. absurd (h.not-j (held-late cs w i j p d far link q h.held (omega arith)))))

    pub apart_some : (qs : List ℕ) × Places (Apart cs i j p d) qs
    apart_some = (those before-j (others in-i all), apart-listed)

    -- So its figure is that of the record over its held figures so far, the records apart, and the left value.
    pub linked-figure : (qs : List ℕ) → Places (Apart cs i j p d) qs →
        (r : R) × (h : Fig) × (pending 𝒜 d (get_or cs i []) ≡ (r, h) ∷ []) × (figure_at 𝒜 (joined cs) p ≡ node r (h ⊗ sum qs ⊗ done 𝒜 (suc d) (get_or cs j [])))
    linked-figure qs l = (
      link.3.opened.0,
      sum (those in-i all),
      so_far,
      held-figure 𝒜 (joined cs) p d link.3.opened.0 link.3.opened.1 all listed
          ∙ ap (node link.3.opened.0)
          (combined-split in-i 𝒜 ℒ comm (figure_at 𝒜 (joined cs)) all
          ∙ rw (combined-split before-j 𝒜 ℒ comm (figure_at 𝒜 (joined cs)) (others in-i all), late, places_same l apart-listed) (sym (ℒ.assoc _ _ _))),
    )
