-- The joins of a cut log by its records are the joins by the levels of its chunks. Assumes nothing.
use Prim.Native.Nat.{ℕ, zero, suc, ◌+◌, ◌≤◌, ◌<◌, min}
use Rattle.std.specs.Prelude.{◌≡◌, ◌⊎◌, ◌↔◌, ◌≢◌, length, get_or}
use Rattle.std.proofs.Math.Path.{refl}
use Rattle.std.proofs.Common.{sym, ap, ◌∙◌, subst, inl, inr, ⊎_elim, zero-add, add_assoc}
use Rattle.std.proofs.Math.Logic.{dite}
use mathlib.Core.List.{List, [], ◌∷◌}
use Rattle.std.proofs.Math.Decide.{dec_lt, dec_le, le_ind}
use native.Mathlib.Omega.{arith}
use Rattle.std.proofs.Math.ListN.{length-append, get_or-append}
use Rattle.std.proofs.Math.Seq.{get_or-append-add}
use Rattle.join_plan.specs.Plan.{Levels, blank, hill}
use Rattle.join_plan.specs.Joins.{Opens, Closes, Above, LeftOpen, Joins}
use Rattle.hill.specs.Log.{Record, opening, closing, depth, start_level, end_level}
use Rattle.hill.specs.Closing.{at, OpensAt, ClosedBy}
use Rattle.hill.specs.Row.{joined}
use Rattle.join_plan.specs.ByRecords.{place, Joined}
use Rattle.hill.proofs.LogPlaces.{level_before, WellFormedLog}
use Rattle.join_plan.proofs.LogLevels.{levels_of, row_of_chunks}

module _ {R : Type 0} where
  -- a record that starts above level d, and does not close depth d, stays above it
  stays-above : (x : Record R) (d : ℕ) → d < start_level x → x ≢ closing d → (d < depth x) × (d < end_level x)
  stays-above (opening c r) d h n = omega arith
  stays-above (closing c) d h n = let m : c ≢ d = λ e. n (ap closing e) in omega arith

  deep-above : (x : Record R) (d : ℕ) → d < depth x → (d < start_level x) × (d < end_level x)
  deep-above (opening c r) d h = omega arith
  deep-above (closing c) d h = omega arith

  -- a record of depth d or less that leads above level d opens depth d, and one that starts above it closes depth d
  is-opening : (x : Record R) (d : ℕ) → depth x ≤ d → d < end_level x → (r : R) × (x ≡ opening d r)
  is-opening (opening c r) d h k = let e : c ≡ d = omega arith in (r, ap (λ v. opening v r) e)
  is-opening (closing c) d h k = absurd (omega arith)

  is-closing : (x : Record R) (d : ℕ) → depth x ≤ d → d < start_level x → x ≡ closing d
  is-closing (opening c r) d h k = absurd (omega arith)
  is-closing (closing c) d h k = ap closing (omega arith)

  -- a record from a to below b is of depth d or less; all are deeper than d
  abbrev pub Low : (ℕ → Record R) → (a b d : ℕ) → Type 0
  Low r a b d = (k : ℕ) × (a ≤ k) × (k < b) × (depth (r k) ≤ d)

  abbrev pub Deep : (ℕ → Record R) → (a b d : ℕ) → Type 0
  Deep r a b d = (k : ℕ) → a ≤ k → k < b → d < depth (r k)

  -- the first record of depth d or less, and the last
  abbrev First : (ℕ → Record R) → (a b d : ℕ) → Type 0
  First r a b d = (k : ℕ) × (a ≤ k) × (k < b) × (depth (r k) ≤ d) × Deep r a k d

  abbrev Last : (ℕ → Record R) → (a b d : ℕ) → Type 0
  Last r a b d = (k : ℕ) × (a ≤ k) × (k < b) × (depth (r k) ≤ d) × Deep r (suc k) b d

  -- the levels of the records from a to below b
  abbrev pub Span : (ℕ → Record R) → (a b : ℕ) → Levels → Type 0
  Span r a b blank = a ≡ b
  Span r a b (hill s p e) = (a < b) × (level_before r a ≡ s) × (level_before r b ≡ e) × ((k : ℕ) → a ≤ k → k < b → p ≤ depth (r k)) × ((k : ℕ) × (a ≤ k) × (k < b) × (depth (r k) ≡ p))

  module _ (r : ℕ → Record R) where
    pub span-opens : (c : Levels) (a b d : ℕ) → Span r a b c → Opens c d ↔ (Low r a b d × (d < level_before r b))
    span-opens blank a b d s = (λ o. absurd o, λ l. omega arith)
    span-opens (hill x p y) a b d s = (
      λ o. let w = s.4 in ((w.0, w.1, w.2, omega arith), omega arith),
      λ l. let w = l.0 in (omega (arith, s.3 w.0 w.1 w.2), omega arith),
    )

    pub span-closes : (c : Levels) (a b d : ℕ) → Span r a b c → Closes c d ↔ (Low r a b d × (d < level_before r a))
    span-closes blank a b d s = (λ o. absurd o, λ l. omega arith)
    span-closes (hill x p y) a b d s = (
      λ o. let w = s.4 in ((w.0, w.1, w.2, omega arith), omega arith),
      λ l. let w = l.0 in (omega (arith, s.3 w.0 w.1 w.2), omega arith),
    )

    pub span-above : (c : Levels) (a b d : ℕ) → Span r a b c → Above c d ↔ Deep r a b d
    span-above blank a b d s = (λ o k x y. absurd (omega arith), λ l. tt)
    span-above (hill x p y) a b d s = (λ o k u v. omega (arith, s.3 k u v), λ l. let w = s.4 in omega (arith, l w.0 w.1 w.2))

    deep_more : (a b d : ℕ) → Deep r a b d → ¬ (depth (r b) ≤ d) → Deep r a (suc b) d
    deep_more a b d h n k u v = dite (dec_lt k b) (λ w. h k u w) (λ w. omega (arith, ap (λ x. depth (r x)) (last w)))
      where
        last : ¬ (k < b) → k ≡ b
        last w = omega arith

    find_first : (a b d : ℕ) → First r a b d ⊎ Deep r a b d
    find_first a zero d = inr (λ k x y. absurd (omega arith))
    find_first a (suc b) d =
        ⊎_elim
        (λ w. inl (w.0, w.1, omega (arith, w.2), w.3, w.4))
        (λ m. dite (dec_le a b) (λ x. dite (dec_le (depth (r b)) d) (λ y. inl (b, x, omega arith, y, m)) (λ y. inr (deep_more a b d m y))) (λ x. inr (λ k u v. absurd (omega arith))))
        (find_first a b d)

    find-last : (a b d : ℕ) → Last r a b d ⊎ Deep r a b d
    find-last a zero d = inr (λ k x y. absurd (omega arith))
    find-last a (suc b) d =
        dite (dec_le a b)
        (λ x. dite (dec_le (depth (r b)) d)
        (λ y. inl (b, x, omega arith, y, λ k u v. absurd (omega arith)))
        (λ y. ⊎_elim (λ w. inl (w.0, w.1, omega (arith, w.2), w.3, deep_more (suc w.0) b d w.4 y)) (λ m. inr (deep_more a b d m y)) (find-last a b d)))
        (λ x. inr (λ k u v. absurd (omega arith)))

    low-not-deep : (a b d : ℕ) → Low r a b d → Deep r a b d → ⊥
    low-not-deep a b d (k, u, v, h) m = omega (arith, m k u v)

    first-low : (a b d : ℕ) → Low r a b d → First r a b d
    first-low a b d l = ⊎_elim (λ x. x) (λ m. absurd (low-not-deep a b d l m)) (find_first a b d)

    last-low : (a b d : ℕ) → Low r a b d → Last r a b d
    last-low a b d l = ⊎_elim (λ x. x) (λ m. absurd (low-not-deep a b d l m)) (find-last a b d)

  -- a log whose records meet
  module _ (log : List (Record R)) (meets : (k : ℕ) → k < length log → start_level (at log k) ≡ level_before (at log) k) where
    -- from an open at depth d on, all levels are above d, until it is closed
    pub closed-high : (p q d : ℕ) → ClosedBy log p q d → (k : ℕ) → p < k → k ≤ q → d < level_before (at log) k
    closed-high p q d c zero x y = absurd (omega arith)
    closed-high p q d c (suc k) x y = dite (dec_lt p k) (later (λ z. closed-high p q d c k z (omega arith))) (λ z. at_once (omega arith))
      where
        later : (p < k → d < level_before (at log) k) → p < k → d < end_level (at log k)
        later ih z = (stays-above (at log k) d (omega (arith, ih z, meets k (omega (arith, c.inside)))) (c.first k z (omega arith))).1

        at_once : k ≡ p → d < end_level (at log k)
        at_once e = omega (arith, ap (λ v. end_level (at log v)) e, ap end_level c.opened.1)

    -- and all records between are deeper
    pub closed-deep : (p q d : ℕ) → ClosedBy log p q d → Deep (at log) (suc p) q d
    closed-deep p q d c k x y =
        (stays-above (at log k) d (omega (arith, closed-high p q d c k x (omega arith), meets k (omega (arith, c.inside)))) (c.first k x y)).0

    -- a record of depth d or less, before deeper ones that end above d, opens depth d
    last-opens : (b p d : ℕ) → b ≤ length log → p < b → depth (at log p) ≤ d → Deep (at log) (suc p) b d → d < level_before (at log) b → OpensAt log p d
    last-opens b p d c x l f h = is-opening (at log p) d l (dite (dec_lt (suc p) b) next (λ y. end (omega arith)))
      where
        next : suc p < b → d < end_level (at log p)
        next y = omega (arith, (deep-above (at log (suc p)) d (f (suc p) (omega arith) y)).0, meets (suc p) (omega arith))

        end : b ≡ suc p → d < end_level (at log p)
        end e = subst (λ v. d < level_before (at log) v) e h

    -- a record of depth d or less, after deeper ones that start above d, closes depth d
    pub first-closes : (a q d : ℕ) → q < length log → a ≤ q → depth (at log q) ≤ d → Deep (at log) a q d → d < level_before (at log) a → at log q ≡ closing d
    first-closes a q d c x l f h = is-closing (at log q) d l (omega (arith, meets q c, high q x f))
      where
        high : (q : ℕ) → a ≤ q → Deep (at log) a q d → d < level_before (at log) q
        high zero x f = let e : a ≡ 0 = omega arith in subst (λ v. d < level_before (at log) v) e h
        high (suc q) x f =
            dite (dec_le a q) (λ y. (deep-above (at log q) d (f q y (omega arith))).1) (λ y. let e : a ≡ suc q = omega arith in subst (λ v. d < level_before (at log) v) e h)

  -- the levels of a record and what follows it in its chunk
  abbrev before : Record R → Levels → Levels
  before x blank = hill (start_level x) (depth x) (end_level x)
  before x (hill start peak end) = hill (start_level x) (min (depth x) peak) end

  levels-cons : (x : Record R) (xs : List (Record R)) → levels_of (x ∷ xs) ≡ before x (levels_of xs)
  levels-cons x [] = refl
  levels-cons x (y ∷ ys) = refl

  -- the levels of a chunk are those of its records
  module _ (r : ℕ → Record R) where
    span-step : (a b : ℕ) (y : Levels) → level_before r a ≡ start_level (r a) → Span r (suc a) b y → Span r a b (before (r a) y)
    span-step a b blank m s = (
      omega arith,
      m,
      subst (λ v. level_before r v ≡ end_level (r a)) s refl,
      λ k u v. let e : k ≡ a = omega arith in rw e (omega arith),
      (a, omega arith, omega arith, refl),
    )
    span-step a b (hill x p y) m s = (
      omega arith,
      m,
      s.2,
      λ k u v. dite (dec_lt a k) (λ w. omega (arith, s.3 k w v)) (λ w. omega (arith, ap (λ z. depth (r z)) (head u w))),
      dite (dec_le (depth (r a)) p) (λ w. (a, omega arith, omega arith, omega arith)) (λ w. let z = s.4 in (z.0, omega arith, z.2, omega arith)),
    )
      where
        head : {k : ℕ} → a ≤ k → ¬ (a < k) → k ≡ a
        head u w = omega arith

    span-chunk : (c : List (Record R)) (a b : ℕ) → a + length c ≡ b → ((k : ℕ) → k < length c → r (a + k) ≡ at c k) → ((k : ℕ) → a ≤ k → k < b → start_level (r k) ≡ level_before r k) →
        Span r a b (levels_of c)
    span-chunk [] a b e h m = omega arith
    span-chunk (x ∷ xs) a b e h m = subst (λ v. Span r a b v) (sym (levels-cons x xs)) (subst (λ v. Span r a b (before v (levels_of xs))) head
        (span-step a b (levels_of xs) (sym (m a (omega arith) (omega arith))) (span-chunk xs (suc a) b (omega arith) tail (λ k u v. m k (omega arith) v))))
      where
        head : r a ≡ x
        head = let z : a ≡ a + 0 = omega arith in ap r z ∙ h 0 (omega arith)

        tail : (k : ℕ) → k < length xs → r (suc a + k) ≡ at xs k
        tail k u = let z : suc a + k ≡ a + suc k = omega arith in ap r z ∙ h (suc k) (omega arith)

  pub place-suc : (cs : List (List (Record R))) (i : ℕ) → place cs (suc i) ≡ place cs i + length (get_or cs i [])
  unfolding place
  place-suc [] zero = refl
  place-suc [] (suc i) = refl
  place-suc (c ∷ cs) zero = omega arith
  place-suc (c ∷ cs) (suc i) = omega (arith, place-suc cs i)

  pub place_inside : (cs : List (List (Record R))) (i : ℕ) → place cs i ≤ length (joined cs)
  unfolding place
  place_inside cs zero = omega arith
  place_inside [] (suc i) = omega arith
  place_inside (c ∷ cs) (suc i) = omega (arith, place_inside cs i, length-append c (joined cs))

  pub place-le : (cs : List (List (Record R))) (i j : ℕ) → i ≤ j → place cs i ≤ place cs j
  place-le cs i j h = le_ind (λ j. place cs i ≤ place cs j) (omega arith) (λ j x y. omega (arith, place-suc cs j)) j h

  pub place_at : (cs : List (List (Record R))) (i k : ℕ) → k < length (get_or cs i []) → at (joined cs) (place cs i + k) ≡ at (get_or cs i []) k
  unfolding place
  place_at [] i k h = absurd (omega arith)
  place_at (c ∷ cs) zero k h = rw (zero-add k) (get_or-append c (joined cs) (closing 0) k h)
  place_at (c ∷ cs) (suc i) k h = rw (add_assoc (length c) (place cs i) k, get_or-append-add c (joined cs) (place cs i + k)) (place_at cs i k h)

  module _ (cs : List (List (Record R))) (w : WellFormedLog (joined cs)) where
    pub chunk-span : (i : ℕ) → Span (at (joined cs)) (place cs i) (place cs (suc i)) (row_of_chunks cs i)
    chunk-span i =
        span-chunk (at (joined cs)) (get_or cs i []) (place cs i) (place cs (suc i)) (sym (place-suc cs i)) (place_at cs i)
        (λ k u v. w.meets k (omega (arith, place_inside cs (suc i))))

    -- what its levels say of a chunk, by its records
    chunk-opens : (i d : ℕ) → Opens (row_of_chunks cs i) d ↔ (Low (at (joined cs)) (place cs i) (place cs (suc i)) d × (d < level_before (at (joined cs)) (place cs (suc i))))
    chunk-opens i d = span-opens (at (joined cs)) (row_of_chunks cs i) (place cs i) (place cs (suc i)) d (chunk-span i)

    pub chunk-closes : (j d : ℕ) → Closes (row_of_chunks cs j) d ↔ (Low (at (joined cs)) (place cs j) (place cs (suc j)) d × (d < level_before (at (joined cs)) (place cs j)))
    chunk-closes j d = span-closes (at (joined cs)) (row_of_chunks cs j) (place cs j) (place cs (suc j)) d (chunk-span j)

    chunk-above : (k d : ℕ) → Above (row_of_chunks cs k) d ↔ Deep (at (joined cs)) (place cs k) (place cs (suc k)) d
    chunk-above k d = span-above (at (joined cs)) (row_of_chunks cs k) (place cs k) (place cs (suc k)) d (chunk-span k)

    -- joined by records, so joined by levels
    joins-of-joined : (i j d : ℕ) → i < j → Joined cs i j d → Joins (row_of_chunks cs) i j d
    joins-of-joined i j d b (p, q, u, v, c) = (
      record {
        before = b;
        opens = (chunk-opens i d).1 ((p, u.0, u.1, omega (arith, ap depth c.opened.1)), high (place cs (suc i)) (omega arith) (omega (arith, mid)));
        between = λ k x y. (chunk-above k d).1 (λ m s t. closed-deep (joined cs) w.meets p q d c m (omega (arith, place-le cs (suc i) k x)) (omega (arith, place-le cs (suc k) j y)));
      },
      (chunk-closes j d).1 ((q, v.0, v.1, omega (arith, ap depth c.closed)), high (place cs j) (omega (arith, mid)) v.0),
    )
      where
        mid : place cs (suc i) ≤ place cs j
        mid = place-le cs (suc i) j b

        high : (k : ℕ) → p < k → k ≤ q → d < level_before (at (joined cs)) k
        high = closed-high (joined cs) w.meets p q d c

    -- the records of the chunks between are all deeper than d
    deep-between : (i j d : ℕ) → LeftOpen (row_of_chunks cs) i j d → (b : ℕ) → i < b → b ≤ j → Deep (at (joined cs)) (place cs (suc i)) (place cs b) d
    deep-between i j d o b x = le_ind (λ b. b ≤ j → Deep (at (joined cs)) (place cs (suc i)) (place cs b) d) (λ y k u v. absurd (omega arith)) step b x
      where
        step : (b : ℕ) → suc i ≤ b → (b ≤ j → Deep (at (joined cs)) (place cs (suc i)) (place cs b) d) → suc b ≤ j → Deep (at (joined cs)) (place cs (suc i)) (place cs (suc b)) d
        step b x ih y k u v = dite (dec_lt k (place cs b)) (ih (omega arith) k u) (λ z. (chunk-above b d).0 (o.between b x y) k (omega arith) v)

    -- joined by levels, so joined by records: the last of chunk i, and the first of chunk j, whose depth is at most d
    joined-of-joins : (i j d : ℕ) → Joins (row_of_chunks cs) i j d → Joined cs i j d
    joined-of-joins i j d (o, t) =
        let (low-i, high-i) = (chunk-opens i d).0 o.opens in
        let (low-j, high-j) = (chunk-closes j d).0 t in
        let (p, p-from, p-below, p-low, p-deep) = last-low (at (joined cs)) (place cs i) (place cs (suc i)) d low-i in
        let (q, q-from, q-below, q-low, q-deep) = first-low (at (joined cs)) (place cs j) (place cs (suc j)) d low-j in
        let mid : place cs (suc i) ≤ place cs j = place-le cs (suc i) j o.before in
        let deep : Deep (at (joined cs)) (suc p) q d = λ k x y.
        dite (dec_lt k (place cs (suc i))) (p-deep k x) (λ u. dite (dec_lt k (place cs j)) (deep-between i j d o j o.before (omega arith) k (omega arith)) (λ v. q-deep k (omega arith) y)) in (
          p,
          q,
          (p-from, p-below),
          (q-from, q-below),
          record {
            order = omega arith;
            inside = omega (arith, place_inside cs (suc j));
            opened = last-opens (joined cs) w.meets (place cs (suc i)) p d (place_inside cs (suc i)) p-below p-low p-deep high-i;
            closed = first-closes (joined cs) w.meets (place cs j) q d (omega (arith, place_inside cs (suc j))) q-from q-low q-deep high-j;
            first = λ k x y e. omega (arith, ap depth e, deep k x y);
          },
        )

    -- THE JOINS: chunk i opens a record of depth d that chunk j > i closes exactly if the levels of the chunks say so
    pub joins-exact : (i j d : ℕ) → Joins (row_of_chunks cs) i j d ↔ ((i < j) × Joined cs i j d)
    joins-exact i j d = (λ h. (h.0.before, joined-of-joins i j d h), λ h. joins-of-joined i j d h.0 h.1)
