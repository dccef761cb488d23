-- The levels that the plan of a log folds are the records that are closed in another chunk than the one that opened them. Assumes nothing.
use Prim.Native.Nat.{ℕ, zero, suc, ◌+◌, ◌-◌, ◌≤◌, ◌<◌, min}
use Rattle.std.specs.Prelude.{◌≡◌, ◌↔◌, List, map, length}
use Rattle.std.proofs.Math.Path.{refl}
use Rattle.std.proofs.Common.{sym, ap, subst, ◌∙◌, inl, inr}
use Rattle.std.proofs.Math.Logic.{dite}
use Rattle.std.proofs.Math.Decide.{dec_lt, dec_le}
use native.Mathlib.Omega.{arith}
use Rattle.std.proofs.lemmas.List.{length-map}
use Rattle.join_plan.specs.Plan.{Levels, blank, hill, plan_of, folded}
use Rattle.join_plan.specs.Joins.{level_at, Meets}
use Rattle.join_plan.proofs.RowLevels.{opener}
use Rattle.join_plan.proofs.Folded.{falls, falls_of, plan_of-folded}
use Rattle.hill.specs.Log.{Record, closing, depth, start_level}
use Rattle.hill.specs.Closing.{at, ClosedBy}
use Rattle.hill.proofs.Peak.{depth-least}
use Rattle.hill.specs.Row.{joined}
use Rattle.join_plan.specs.ByRecords.{place, InChunk, Crossing, Tally}
use Rattle.hill.proofs.LogPlaces.{level_before, WellFormedLog}
use Rattle.join_plan.proofs.LogLevels.{levels_of, row_of_chunks}
use Rattle.join_plan.proofs.LogJoins.{Deep, Span, chunk-span, chunk-closes, joins-exact, closed-high, closed-deep, first-closes, place_inside, place-le}
use Rattle.join_plan.proofs.LogPlan.{place-all, level-place, row-meets, row-of}

tally-cast : (P : ℕ → Type 0) (m n c d : ℕ) → m ≡ n → c ≡ d → Tally P m c → Tally P n d
tally-cast P m n c d e f t = subst (λ v. Tally P v d) e (subst (λ v. Tally P m v) f t)

module _ {R : Type 0} where
  -- the lowest level that the k records from a reach
  low : (ℕ → Record R) → (a k : ℕ) → ℕ
  low r a zero = level_before r a
  low r a (suc k) = min (low r a k) (depth (r (a + k)))

  module _ (r : ℕ → Record R) (a : ℕ) where
    low-start : (k : ℕ) → low r a k ≤ level_before r a
    unfolding low
    low-start zero = omega arith
    low-start (suc k) = omega (arith, low-start k)

    low-level : (k : ℕ) → low r a k ≤ level_before r (a + k)
    unfolding low
    low-level zero = let z : a + 0 ≡ a = omega arith in rw z (omega arith)
    low-level (suc k) = let z : a + suc k ≡ suc (a + k) = omega arith in rw z (omega (arith, (depth-least (r (a + k))).1))

    -- the lowest level is above d: the records start above it, and are all deeper
    low-deep : (d k : ℕ) → (d < low r a k) ↔ ((d < level_before r a) × Deep r a (a + k) d)
    unfolding low
    low-deep d zero = (λ h. (h, λ x u v. absurd (omega arith)), λ h. h.0)
    low-deep d (suc k) = (there (low-deep d k).0, λ h. omega (arith, (low-deep d k).1 (h.0, λ x u v. h.1 x u (omega arith)), h.1 (a + k) (omega arith) (omega arith)))
      where
        there : (d < low r a k → (d < level_before r a) × Deep r a (a + k) d) → d < low r a (suc k) → (d < level_before r a) × Deep r a (a + suc k) d
        there ih h =
            let w = ih (omega arith) in
            (w.0, λ x u v. dite (dec_lt x (a + k)) (w.1 x u) (λ z. let e : x ≡ a + k = omega arith in rw e (omega arith)))

    -- P holds of just those of the n records from a that reach a new lowest level: so of as many as the levels fallen
    tally-falls : (P : ℕ → Type 0) (c n : ℕ) → ((k : ℕ) → k < n → start_level (r (a + k)) ≡ level_before r (a + k)) → ((k : ℕ) → k < n → P (a + k) ↔ (depth (r (a + k)) < low r a k)) →
        Tally P a c → Tally P (a + n) (c + (level_before r a - low r a n))
    unfolding low
    tally-falls P c zero m f t = tally-cast P a (a + 0) c (c + (level_before r a - level_before r a)) (omega arith) (omega arith) t
    tally-falls P c (suc n) m f t = go (tally-falls P c n (λ k h. m k (omega arith)) (λ k h. f k (omega arith)) t) (dec_lt (depth (r (a + n))) (low r a n))
      where
        was : ℕ
        was = c + (level_before r a - low r a n)

        now : ℕ
        now = c + (level_before r a - min (low r a n) (depth (r (a + n))))

        step : Tally P (suc (a + n)) now → Tally P (a + suc n) now
        step t = tally-cast P (suc (a + n)) (a + suc n) now now (omega arith) refl t

        one_less : depth (r (a + n)) < low r a n → now ≡ suc was
        one_less h = omega (arith, depth-least (r (a + n)), m n (omega arith), low-level n, low-start n)

        go : Tally P (a + n) was → Dec (depth (r (a + n)) < low r a n) → Tally P (a + suc n) now
        go t (yes h) = step (inl ((f n (omega arith)).1 h, (was, one_less h, t)))
        go t (no h) = step (inr (λ p. h ((f n (omega arith)).0 p), tally-cast P (a + n) (a + n) was now refl (omega arith) t))

  -- the lowest level of a chunk's records is its peak
  low-peak : (r : ℕ → Record R) (c : Levels) (a k : ℕ) → ((x : ℕ) → x < a + k → start_level (r x) ≡ level_before r x) → Span r a (a + k) c → level_before r a - low r a k ≡ falls c
  unfolding falls low
  low-peak r blank a k m s = let e : k ≡ 0 = omega arith in rw e (omega arith)
  low-peak r (hill x p y) a k m s = let e : low r a k ≡ p = omega (arith, upper (dec_le (low r a k) p), lower (dec_le p (low r a k))) in omega (arith, s.1)
    where
      start : p ≤ level_before r a
      start = omega (arith, s.3 a (omega arith) s.0, depth-least (r a), m a s.0)

      upper : Dec (low r a k ≤ p) → low r a k ≤ p
      upper (yes h) = h
      upper (no h) = let w = s.4 in absurd (omega (arith, ((low-deep r a p k).0 (omega arith)).1 w.0 w.1 w.2, w.3))

      lower : Dec (p ≤ low r a k) → p ≤ low r a k
      lower (yes h) = h
      lower (no h) = absurd (omega (arith, (low-deep r a (low r a k) k).1 (omega (arith, start), λ z u v. omega (arith, s.3 z u v))))

  module _ (cs : List (List (Record R))) (w : WellFormedLog (joined cs)) where
    one_chunk : (i j q : ℕ) → InChunk cs i q → InChunk cs j q → i ≡ j
    one_chunk i j q u v = dite (dec_lt i j) (λ h. absurd (omega (arith, place-le cs (suc i) j h))) (λ h. dite (dec_lt j i) (λ k. absurd (omega (arith, place-le cs (suc j) i k))) (λ k. omega arith))

    -- a record of chunk j crosses exactly if it reaches a level that the chunk did not reach before
    crossing-low : (j q : ℕ) → InChunk cs j q → Crossing cs q ↔ ((depth (at (joined cs) q) < level_before (at (joined cs)) (place cs j)) × Deep (at (joined cs)) (place cs j) q (depth (at (joined cs) q)))
    crossing-low j q x = (there, back)
      where
        there : Crossing cs q → (depth (at (joined cs) q) < level_before (at (joined cs)) (place cs j)) × Deep (at (joined cs)) (place cs j) q (depth (at (joined cs) q))
        there (i, j', p, d, n, u, v, c) =
            let e : j' ≡ j = one_chunk j' j q v x in
            let f : depth (at (joined cs) q) ≡ d = ap depth c.closed in
            let b : i < j = dite (dec_lt j i) (λ h. absurd (omega (arith, c.order, place-le cs (suc j) i h))) (λ h. omega arith) in
            let m : p < place cs j = omega (arith, place-le cs (suc i) j b) in
            (rw f (closed-high (joined cs) w.meets p q d c (place cs j) m x.0), λ k s t. rw f (closed-deep (joined cs) w.meets p q d c k (omega arith) t))

        back : (depth (at (joined cs) q) < level_before (at (joined cs)) (place cs j)) × Deep (at (joined cs)) (place cs j) q (depth (at (joined cs) q)) → Crossing cs q
        back (h, m) =
            let d : ℕ = depth (at (joined cs) q) in
            let (i, o) = opener (row_of_chunks cs) (suc j) (λ k z. row-meets cs w k) j d (omega arith) (rw (level-place cs w j) h) in
            let (p, q', u, v, c) = ((joins-exact cs w i j d).0 (o, (chunk-closes cs w j d).1 ((q, x.0, x.1, omega arith), h))).1 in
            let b : place cs (suc i) ≤ place cs j = place-le cs (suc i) j o.before in
            let e : at (joined cs) q ≡ closing d = first-closes (joined cs) w.meets (place cs j) q d (omega (arith, place_inside cs (suc j))) x.0 (omega arith) m h in
            let z : q' ≡ q = dite (dec_lt q' q) (λ k. absurd (omega (arith, m q' v.0 k, ap depth c.closed)))
            (λ k. dite (dec_lt q q') (λ t. absurd (c.first q (omega arith) t e)) (λ t. omega arith)) in
            (i, j, p, d, omega (arith, o.before), u, x, subst (λ k. ClosedBy (joined cs) p k d) z c)

    -- so chunk j has as many as it falls
    tally-chunk : (j c : ℕ) → Tally (Crossing cs) (place cs j) c → Tally (Crossing cs) (place cs (suc j)) (c + falls (row_of_chunks cs j))
    tally-chunk j c t =
        tally-cast (Crossing cs) (place cs j + k) (place cs (suc j)) (c + (level_before (at (joined cs)) (place cs j) - low (at (joined cs)) (place cs j) k)) (c + falls (row_of_chunks cs j)) e (ap (λ z. c + z) fall)
        (tally-falls (at (joined cs)) (place cs j) (Crossing cs) c k (λ m h. w.meets (place cs j + m) (omega (arith, place_inside cs (suc j), e))) crosses t)
      where
        k : ℕ
        k = place cs (suc j) - place cs j

        e : place cs j + k ≡ place cs (suc j)
        e = omega (arith, place-le cs j (suc j) (omega arith))

        fall : level_before (at (joined cs)) (place cs j) - low (at (joined cs)) (place cs j) k ≡ falls (row_of_chunks cs j)
        fall = low-peak (at (joined cs)) (row_of_chunks cs j) (place cs j) k (λ x h. w.meets x (omega (arith, place_inside cs (suc j), e))) (rw e (chunk-span cs w j))

        crosses : (m : ℕ) → m < k → Crossing cs (place cs j + m) ↔ (depth (at (joined cs) (place cs j + m)) < low (at (joined cs)) (place cs j) m)
        crosses m h =
            let a = crossing-low j (place cs j + m) (omega arith, omega arith) in
            let b = low-deep (at (joined cs)) (place cs j) (depth (at (joined cs) (place cs j + m))) m in
            (λ x. b.1 (a.0 x), λ x. a.1 (b.0 x))

    tally-row : (j : ℕ) → Tally (Crossing cs) (place cs j) (falls_of (row_of_chunks cs) j)
    unfolding falls_of place
    tally-row zero = refl
    tally-row (suc j) = tally-chunk j (falls_of (row_of_chunks cs) j) (tally-row j)

    -- so many records are closed in another chunk than the one that opened them
    pub folded-crossing : Tally (Crossing cs) (length (joined cs)) (folded (plan_of (map levels_of cs)))
    folded-crossing = tally-cast (Crossing cs) (place cs (length cs)) (length (joined cs)) (falls_of (row_of_chunks cs) (length cs)) (folded (plan_of (map levels_of cs))) (place-all cs) (sym sum) (tally-row (length cs))
      where
        sum : folded (plan_of (map levels_of cs)) ≡ falls_of (row_of_chunks cs) (length cs)
        sum = plan_of-folded (map levels_of cs) (λ k h. subst (λ r. Meets (r k) (level_at r k)) (sym (row-of cs)) (row-meets cs w k)) ∙ rw (length-map cs levels_of, row-of cs) refl
