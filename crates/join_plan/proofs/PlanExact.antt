-- The plan is what the scan gives, so it has a line for each join and no other, in order. Assumes nothing.
use Prim.Native.Nat.{ℕ, zero, suc, ◌-◌, ◌≤◌, ◌<◌, min, max}
use Rattle.std.specs.Prelude.{◌≡◌, ◌↔◌, Bool, true, false, not, ◌&&◌, cond, length, take, leb, ltb}
use Rattle.std.proofs.Math.Path.{refl}
use Rattle.std.proofs.Common.{sym, ap, ◌∙◌, subst, arith, leb-true, le-leb, ltb-true, lt-ltb}
use Rattle.std.proofs.Math.Logic.{dite}
use Rattle.std.proofs.Math.Bool.{and-eq-true_iff}
use Rattle.std.proofs.lemmas.Bool.{false≢true}
use mathlib.Core.List.{List, [], ◌∷◌, ◌++◌, append_assoc, append-nil, Memᴰ, flat_map}
use Rattle.std.proofs.Math.Decide.{dec_lt}
use Rattle.hill.specs.Sorted.{Sorted}
use Rattle.join_plan.specs.Plan.{Levels, blank, hill, Line, left_open, closes_earlier, below_peaks, row_of, chunks_between, up_to, down_from, select, depths_joined, last_of, line_for, plan_of, Before}
use Rattle.join_plan.specs.Scan.{line_if, line_of, passed, walk, lines_to, plan, scan_of}
use Rattle.join_plan.specs.Joins.{Opens, Closes, Above, Joins, IsLine, level_at, Meets}
use Rattle.join_plan.proofs.ScanExact.{Within, passed-iff, closes-inside, scan_of-exact, scan_of-some, scan_of-sorted, scan_of-only}
use Rattle.join_plan.proofs.PlanFacts.{walk-stop}
use Rattle.join_plan.proofs.RowLevels.{closes-not-above, joins-of-low}

-- what the tests say
interval : (a d b : ℕ) → (leb a d && ltb d b ≡ true) ↔ ((a ≤ d) × (d < b))
interval a d b = let i = and-eq-true_iff (leb a d) (ltb d b) in (λ h. (leb-true a d (i.0 h).0, ltb-true d b (i.0 h).1), λ h. i.1 (le-leb a d h.0, lt-ltb d b h.1))

closes-iff : (c : Levels) (d : ℕ) → (closes_earlier c d ≡ true) ↔ Closes c d
closes-iff blank d = (λ h. absurd (false≢true h), λ h. absurd h)
closes-iff (hill s p e) d = interval p d s

below-cons : (c : Levels) (cs : List Levels) (d : ℕ) → (below_peaks (c ∷ cs) d ≡ true) ↔ (Above c d × (below_peaks cs d ≡ true))
below-cons blank cs d = (λ h. (tt, h), λ h. h.1)
below-cons (hill s p e) cs d = let i = and-eq-true_iff (ltb d p) (below_peaks cs d) in (λ h. (ltb-true d p (i.0 h).0, (i.0 h).1), λ h. i.1 (lt-ltb d p h.0, h.1))

below-take : (row : List Levels) (n d : ℕ) → (below_peaks (take n row) d ≡ true) ↔ ((k : ℕ) → k < n → Above (row_of row k) d)
below-take row zero d = (λ h k b. absurd (omega arith), λ h. refl)
below-take [] (suc n) d = (λ h k b. tt, λ h. refl)
below-take (c ∷ row) (suc n) d = (λ h. there ((below-cons c (take n row) d).0 h) (below-take row n d).0, λ h. (below-cons c (take n row) d).1 (h 0 (omega arith), (below-take row n d).1 (λ k b. h (suc k) (omega arith))))
  where
    there : Above c d × (below_peaks (take n row) d ≡ true) → (below_peaks (take n row) d ≡ true → (k : ℕ) → k < n → Above (row_of row k) d) → (k : ℕ) → k < suc n → Above (row_of (c ∷ row) k) d
    there x ih zero b = x.0
    there x ih (suc k) b = ih x.1 k (omega arith)

below-between : (row : List Levels) (i j d : ℕ) → (below_peaks (chunks_between row i j) d ≡ true) ↔ ((k : ℕ) → i < k → k < j → Above (row_of row k) d)
below-between row i zero d = (λ h k a b. absurd (omega arith), λ h. refl)
below-between [] i (suc j) d = (λ h k a b. tt, λ h. refl)
below-between (c ∷ row) zero (suc j) d = (λ h. there ((below-take row j d).0 h), λ h. (below-take row j d).1 (λ k b. h (suc k) (omega arith) (omega arith)))
  where
    there : ((k : ℕ) → k < j → Above (row_of row k) d) → (k : ℕ) → 0 < k → k < suc j → Above (row_of (c ∷ row) k) d
    there f zero a b = absurd (omega arith)
    there f (suc k) a b = f k (omega arith)
below-between (c ∷ row) (suc i) (suc j) d = (λ h. there ((below-between row i j d).0 h), λ h. (below-between row i j d).1 (λ k a b. h (suc k) (omega arith) (omega arith)))
  where
    there : ((k : ℕ) → i < k → k < j → Above (row_of row k) d) → (k : ℕ) → suc i < k → k < suc j → Above (row_of (c ∷ row) k) d
    there f zero a b = absurd (omega arith)
    there f (suc k) a b = f k (omega arith) (omega arith)

-- what is asked of a depth that chunk i leaves open
abbrev asked : List Levels → (i j d : ℕ) → Bool
asked row i j d = closes_earlier (row_of row j) d && below_peaks (chunks_between row i j) d

asked-iff : (row : List Levels) (i j d : ℕ) → (asked row i j d ≡ true) ↔ (Closes (row_of row j) d × ((k : ℕ) → i < k → k < j → Above (row_of row k) d))
asked-iff row i j d =
    let x = and-eq-true_iff (closes_earlier (row_of row j) d) (below_peaks (chunks_between row i j) d) in (
      λ h. ((closes-iff (row_of row j) d).0 (x.0 h).0, (below-between row i j d).0 (x.0 h).1),
      λ h. x.1 ((closes-iff (row_of row j) d).1 h.0, (below-between row i j d).1 h.1),
    )

-- the list starts with a and ends with b - 1, or is empty where b is not above a
abbrev Ends : List ℕ → (a b : ℕ) → Type 0
Ends [] a b = b ≤ a
Ends (d ∷ ds) a b = (d ≡ a) × (suc (last_of d ds) ≡ b) × (a < b)

ends-line : (i j : ℕ) (ds : List ℕ) (a b : ℕ) → Ends ds a b → line_for i j ds ≡ line_if i j a b (dec_lt a b)
unfolding line_for line_if
ends-line i j [] a b h = go (dec_lt a b)
  where
    go : (t : Dec (a < b)) → [] ≡ line_if i j a b t
    go (yes y) = absurd (omega arith)
    go (no y) = refl
ends-line i j (d ∷ ds) a b h = go (dec_lt a b)
  where
    high : last_of d ds ≡ b - 1
    high = omega arith

    go : (t : Dec (a < b)) → record { i = i; j = j; lowest = d; highest = last_of d ds } ∷ [] ≡ line_if i j a b t
    go (yes y) = λ k. record { i = i; j = j; lowest = h.0 k; highest = high k } ∷ []
    go (no y) = absurd (y h.2)

last-append : (d : ℕ) (ds : List ℕ) (n : ℕ) → last_of d (ds ++ (n ∷ [])) ≡ n
last-append d [] n = refl
last-append d (e ∷ ds) n = last-append e ds n

ends-grow : (ds : List ℕ) (a n : ℕ) → a ≤ n → Ends ds a n → Ends (ds ++ (n ∷ [])) a (suc n)
ends-grow [] a n b h = (omega arith, refl, omega arith)
ends-grow (d ∷ ds) a n b h = (h.0, ap suc (last-append d ds n), omega arith)

ends_stay : (ds : List ℕ) (a b n : ℕ) → ¬ Within a b n → Ends ds a (min b n) → Ends ds a (min b (suc n))
ends_stay [] a b n w h = dite (dec_lt n a) (λ x. omega arith) (λ x. dite (dec_lt n b) (λ y. absurd (w (omega arith))) (λ y. omega arith))
ends_stay (d ∷ ds) a b n w h = dite (dec_lt n b) (λ y. absurd (w (omega arith))) (λ y. (h.0, omega arith, omega arith))

select-append : (test : ℕ → Bool) (x y : List ℕ) → select test (x ++ y) ≡ select test x ++ select test y
unfolding select
select-append test [] y = refl
select-append test (d ∷ x) y = go (test d) (select-append test x y)
  where
    go : (t : Bool) → select test (x ++ y) ≡ select test x ++ select test y → cond t (d ∷ select test (x ++ y)) (select test (x ++ y)) ≡ cond t (d ∷ select test x) (select test x) ++ select test y
    go true ih = ap (λ v. d ∷ v) ih
    go false ih = ih

-- the depths that pass a test, where those are the depths from a to below b
select-ends : (test : ℕ → Bool) (a b n : ℕ) → ((d : ℕ) → d < n → (test d ≡ true) ↔ Within a b d) → Ends (select test (up_to n)) a (min b n)
unfolding select up_to
select-ends test a b zero h = omega arith
select-ends test a b (suc n) h = rw (select-append test (up_to n) (n ∷ [])) (go (test n) refl (select-ends test a b n (λ d k. h d (omega arith))))
  where
    go : (t : Bool) → test n ≡ t → Ends (select test (up_to n)) a (min b n) → Ends (select test (up_to n) ++ cond t (n ∷ []) []) a (min b (suc n))
    go true e ih =
        let w = (h n (omega arith)).0 e in
        let x : min b n ≡ n = omega arith in
        let y : min b (suc n) ≡ suc n = omega arith in
        rw y (ends-grow (select test (up_to n)) a n w.0 (rw x at ih))
    go false e ih = rw (append-nil (select test (up_to n))) (ends_stay (select test (up_to n)) a b n (λ w. false≢true (sym e ∙ (h n (omega arith)).1 w)) ih)

select-select : (t u : ℕ → Bool) (ds : List ℕ) → select t (select u ds) ≡ select (λ d. u d && t d) ds
unfolding select
select-select t u [] = refl
select-select t u (d ∷ ds) = go (u d) (select-select t u ds)
  where
    go : (b : Bool) → select t (select u ds) ≡ select (λ d. u d && t d) ds →
        select t (cond b (d ∷ select u ds) (select u ds)) ≡ cond (b && t d) (d ∷ select (λ d. u d && t d) ds) (select (λ d. u d && t d) ds)
    go true ih = rw ih refl
    go false ih = ih

-- so the line of the depths joined is that of the scan
depths-line : (test : ℕ → Bool) (c : Levels) (i j p m : ℕ) → ((d : ℕ) → Opens c d → (test d ≡ true) ↔ Within p m d) → line_for i j (select test (left_open c)) ≡ line_of c i j p m
unfolding line_of line_for left_open select
depths-line test blank i j p m h = refl
depths-line test (hill s q e) i j p m h =
    rw (select-select test (λ d. leb q d) (up_to e))
    (ends-line i j (select (λ d. leb q d && test d) (up_to e)) (max q p) (min e m) (rw x at (select-ends (λ d. leb q d && test d) (max q p) (min e m) e inside)))
  where
    x : min (min e m) e ≡ min e m
    x = omega arith

    inside : (d : ℕ) → d < e → (leb q d && test d ≡ true) ↔ Within (max q p) (min e m) d
    inside d b =
        let a = and-eq-true_iff (leb q d) (test d) in (
          λ t. let y : q ≤ d = leb-true q d (a.0 t).0 in let w = (h d (y, b)).0 (a.0 t).1 in omega arith,
          λ w. let y : q ≤ d = omega arith in a.1 (le-leb q d y, (h d (y, b)).1 (omega arith)),
        )

flat_map-last : (f : ℕ → List Line) (x : List ℕ) (n : ℕ) → flat_map f (x ++ (n ∷ [])) ≡ flat_map f x ++ f n
unfolding flat_map
flat_map-last f [] n = append-nil (f n)
flat_map-last f (d ∷ x) n = rw (flat_map-last f x n) (sym (append_assoc (f d) (flat_map f x) (f n)))

module _ (row : List Levels) where
  -- the lines to chunk j from the chunks below n, where it closes the depths from p to below s, and those below m are still open after the chunks from n on
  walk-lines : (j p s m n : ℕ) → n ≤ j → ((d : ℕ) → Closes (row_of row j) d ↔ Within p s d) → ((d : ℕ) → (d < m) ↔ ((d < s) × ((k : ℕ) → n ≤ k → k < j → Above (row_of row k) d))) →
      flat_map (λ i. line_for i j (depths_joined row i j)) (down_from n) ≡ walk (row_of row) j p m n
  unfolding flat_map down_from walk depths_joined
  walk-lines j p s m zero b c f = refl
  walk-lines j p s m (suc n) b c f =
      rw (depths-line (λ d. asked row n j d) (row_of row n) n j p m here, walk-lines j p s (passed (row_of row n) m) n (omega arith) c below)
    where
      here : (d : ℕ) → Opens (row_of row n) d → (asked row n j d ≡ true) ↔ Within p m d
      here d o =
          let x = asked-iff row n j d in (
            λ t. let (e, f') = x.0 t in let w = (c d).0 e in (w.0, (f d).1 (w.1, f')),
            λ t. let w = (f d).0 t.1 in x.1 ((c d).1 (t.0, w.0), w.1),
          )

      below : (d : ℕ) → (d < passed (row_of row n) m) ↔ ((d < s) × ((k : ℕ) → n ≤ k → k < j → Above (row_of row k) d))
      below d =
          let x = passed-iff (row_of row n) m d in (
            λ t. let (u, v) = x.0 t in let w = (f d).0 u in (w.0, λ k y z. dite (dec_lt n k) (λ a. w.1 k a z) (λ a. let e : n ≡ k = omega arith in subst (λ i. Above (row_of row i) d) e v)),
            λ t. x.1 ((f d).1 (t.0, λ k y z. t.1 k (omega arith) z), t.1 n (omega arith) b),
          )

  lines-to : (c : Levels) (j : ℕ) → ((d : ℕ) → Closes (row_of row j) d ↔ Closes c d) → flat_map (λ i. line_for i j (depths_joined row i j)) (down_from j) ≡ lines_to (row_of row) c j
  unfolding lines_to
  lines-to blank j h = walk-lines j 0 0 0 j (omega arith) (λ d. (λ x. absurd ((h d).0 x), λ x. (h d).1 (omega arith))) (λ d. (λ x. absurd (omega arith), λ x. x.0)) ∙ walk-stop (row_of row) j 0 0 j (omega arith)
  lines-to (hill s p e) j h = walk-lines j p s s j (omega arith) h (λ d. (λ x. (x, λ k y z. absurd (omega arith)), λ x. x.0))

  lines-all : (n : ℕ) → flat_map (λ j. flat_map (λ i. line_for i j (depths_joined row i j)) (down_from j)) (up_to n) ≡ plan (row_of row) n
  unfolding flat_map up_to plan
  lines-all zero = refl
  lines-all (suc n) =
      flat_map-last (λ j. flat_map (λ i. line_for i j (depths_joined row i j)) (down_from j)) (up_to n) n ∙
      rw (lines-all n, lines-to (row_of row n) n (λ d. (λ x. x, λ x. x)))

  -- THE SCAN GIVES THE PLAN
  pub plan_of-scan : plan_of row ≡ scan_of row
  unfolding plan_of scan_of
  plan_of-scan = lines-all (length row)

  -- a line is in the plan exactly if its chunks are joined, in just its depths
  pub plan_of-exact : (l : Line) → Memᴰ l (plan_of row) ↔ IsLine (row_of row) l
  plan_of-exact l = rw plan_of-scan (scan_of-exact row l)

  -- the numbers of a line are in range: chunks of the row, and depths that chunk i leaves open
  pub plan_of-range : (l : Line) → Memᴰ l (plan_of row) → (l.i < l.j) × (l.j < length row) × (l.lowest ≤ l.highest) × Opens (row_of row l.i) l.highest
  plan_of-range l m =
      let h = (plan_of-exact l).0 m in
      let (o, c) = (h.depths l.highest).1 (omega (arith, h.some)) in
      (o.before, closes-inside row l.j l.highest c, h.some, o.opens)

  -- each join has a line
  pub plan_of-some : (i j d : ℕ) → Joins (row_of row) i j d → (l : Line) × Memᴰ l (plan_of row) × (l.i ≡ i) × (l.j ≡ j)
  plan_of-some i j d h = rw plan_of-scan (scan_of-some row i j d h)

  -- the lines go by rising j, then falling i
  pub plan_of-sorted : Sorted Before (plan_of row)
  plan_of-sorted = rw plan_of-scan (scan_of-sorted row)

  -- and no other list has just those lines in that order
  pub plan_of-only : (ls : List Line) → Sorted Before ls → ((l : Line) → Memᴰ l ls ↔ IsLine (row_of row) l) → ls ≡ plan_of row
  plan_of-only ls s h = scan_of-only row ls s h ∙ sym plan_of-scan

-- On a row that meets, a record left open by chunk i that no chunk between closes is closed in j exactly if its depth is not below j's peak: there the
-- plan's test `d < start` says nothing more.
pub start-implied : (row : List Levels) → ((k : ℕ) → k < length row → Meets (row_of row k) (level_at (row_of row) k)) → (i j d : ℕ) → i < j → j < length row →
    Opens (row_of row i) d → below_peaks (chunks_between row i j) d ≡ true → closes_earlier (row_of row j) d ≡ not (below_peaks (row_of row j ∷ []) d)
start-implied row meets i j d b c o e = go (closes_earlier (row_of row j) d) refl (below_peaks (row_of row j ∷ []) d) refl
  where
    low : (Above (row_of row j) d → ⊥) → Closes (row_of row j) d
    low f = (joins-of-low (row_of row) (length row) meets i j d c (record { before = b; opens = o; between = (below-between row i j d).0 e }) f).1

    go : (s : Bool) → closes_earlier (row_of row j) d ≡ s → (t : Bool) → below_peaks (row_of row j ∷ []) d ≡ t → s ≡ not t
    go true x true y = absurd (closes-not-above (row_of row j) d ((closes-iff (row_of row j) d).0 x) ((below-cons (row_of row j) [] d).0 y).0)
    go true x false y = refl
    go false x true y = refl
    go false x false y = absurd (false≢true (sym x ∙ (closes-iff (row_of row j) d).1 (low (λ a. false≢true (sym y ∙ (below-cons (row_of row j) [] d).1 (a, refl))))))
