-- The work along the plan and the merge of the row, hill after hill, go together. Assumes nothing.
use Rattle.std.specs.Prelude.{◌≡◌, refl, List, [], ◌∷◌}
use Rattle.std.proofs.Math.Path.{sym, ap}
use Rattle.std.proofs.Common.{◌∙◌, subst, arith, le-leb}
use Rattle.std.proofs.Math.Logic.{dite}
use Prim.Native.Nat.{ℕ, zero, suc, ◌-◌, min, max, ◌≤◌, ◌<◌}
use Rattle.std.proofs.Math.Nat.{le_refl}
use Rattle.std.proofs.Math.Decide.{dec_lt, dec_le}
use Rattle.algebra.specs.Algebra.{Algebra, Laws, Commutative}
use Rattle.hill.specs.Summary.{Summary, middle}
use Rattle.join_plan.specs.Plan.{Line}
use Rattle.join_plan.specs.Scan.{walk, plan}
use Rattle.join_plan.proofs.PlanFacts.{walk-stop}
use Rattle.plan_work.specs.Runs.{left_value_at, open_from}
use Rattle.plan_work.specs.Work.{Done, outcomes_at, given, worked, last_outcome}
use Rattle.plan_work.specs.WorkLaws.{work}
use Rattle.plan_work.proofs.WorkLaws.{gives, gives_all, gives-before, gives_other, outs-nil, outs-cons, worked-nil, worked-cons, worked-append}
use Rattle.plan_work.proofs.GateExact.{Begins}
use Rattle.plan_work.proofs.Fold.{down, down-none, down_step, down-split, down-cong}
use Rattle.plan_work.proofs.Stack.{shut, own}
use Rattle.plan_work.proofs.Merged.{Meeting, closed, state, pit, state-own, state-peak, state-under}
use Rattle.plan_work.proofs.RowLevels.{chunk, level, floor, sides, meeting, lines-nil, lines-skip, lines_join, plan-zero, plan-suc, middles, middles-none, middles-add, middles-other, run_down}

module _ {R : Type 0} (𝒜 : Algebra R) where
  open 𝒜 use {Fig, ι, ◌⊗◌}

  infixl 70 ◌⊗◌
  module _ (row : List (Summary Fig R)) where
    -- the record at level l of the hills before j, merged, is one of the hill τ
    abbrev Tag : (j l τ : ℕ) → Type 0
    Tag j l τ = (τ < j) × (floor 𝒜 row τ < l) × ((k : ℕ) → τ < k → k < j → l ≤ floor 𝒜 row k)

    -- what the record at level l of the hill τ makes of y, besides its held figures so far
    abbrev held : (τ l : ℕ) → Fig → Fig
    held τ l y = shut 𝒜 (open_from 𝒜 (floor 𝒜 row τ) (sides 𝒜 row τ) l) y

    abbrev now : (j l : ℕ) → Fig → Fig
    now j l y = state 𝒜 (sides 𝒜 row) (floor 𝒜 row) (level 𝒜 row) j l y

    abbrev pub got : (j lo : ℕ) → Fig
    got j lo = pit 𝒜 (sides 𝒜 row) (floor 𝒜 row) (level 𝒜 row) j lo

    -- lines that join only hills before j, with the bounds that every line keeps, and what its outcome is: what its hill j gets from the levels
    -- above its lowest
    abbrev pub Ok : ℕ → List (Done Fig) → Type 0
    Ok j [] = Unit {0}
    Ok j (d ∷ ds) = (d.line.i < d.line.j) × (d.line.j < j) × (floor 𝒜 row d.line.j ≤ d.line.lowest) × (d.out ≡ got d.line.j d.line.lowest) × Ok j ds

    -- The hills before j, merged, read off the lines ds: the record at level l holds, besides its own, the middle values of the later hills with
    -- their peak there, and the outcomes of the lines from its hill on whose lowest is there.
    abbrev Inv : ℕ → List (Done Fig) → Type 0
    Inv j ds = (l τ : ℕ) (y : Fig) → l ≤ level 𝒜 row j → Tag j l τ → now j l y ≡ held τ l (middles 𝒜 row τ j l ⊗ outcomes_at 𝒜 τ j l ds ⊗ y)

    -- The lines of the hill j with the hills from i on are worked, down to the level c: the lines were ds₀ before the hill j, and are ds now.
    record Scan (j : ℕ) (ds₀ : List (Done Fig)) (i c : ℕ) (ds : List (Done Fig)) : Type 0 where
      ge : floor 𝒜 row j ≤ c
      le : c ≤ level 𝒜 row j
      ahead : (k : ℕ) → i ≤ k → k < j → c ≤ max (floor 𝒜 row k) (floor 𝒜 row j)
      here : (τ : ℕ) → τ < j → floor 𝒜 row τ < c → outcomes_at 𝒜 τ j c ds ≡ outcomes_at 𝒜 τ j c ds₀ ⊗ got j c
      below : (τ l : ℕ) → l < c → outcomes_at 𝒜 τ j l ds ≡ outcomes_at 𝒜 τ j l ds₀
      ok : Ok (suc j) ds
      last : (y : Fig) → c < level 𝒜 row j → last_outcome 𝒜 ds y ≡ got j c

    outs-none : Laws 𝒜 → (i j l : ℕ) (ds : List (Done Fig)) → Ok j ds → ((k : ℕ) → i < k → k < j → l < floor 𝒜 row k) → outcomes_at 𝒜 i j l ds ≡ ι
    outs-none ℒ i j l [] o f = outs-nil 𝒜 i j l
    outs-none ℒ i j l (d ∷ ds) o f = rw (outs-cons 𝒜 i j l d ds, outs-none ℒ i j l ds o.4 f, ℒ.unit-r) (dite (dec_le i d.line.i) after before)
      where
        after : i ≤ d.line.i → gives 𝒜 i j l d ≡ ι
        after c = let h : l < floor 𝒜 row d.line.j = f d.line.j (omega (arith, o.0)) o.1 in gives_other 𝒜 i j l d (omega (arith, o.2))

        before : (i ≤ d.line.i → ⊥) → gives 𝒜 i j l d ≡ ι
        before c = gives-before 𝒜 i j l d (omega arith)

    outs-wide : (i j l : ℕ) (ds : List (Done Fig)) → Ok (suc j) ds → outcomes_at 𝒜 i j l ds ≡ outcomes_at 𝒜 i (suc j) l ds
    outs-wide i j l [] o = rw (outs-nil 𝒜 i j l, outs-nil 𝒜 i (suc j) l)
    outs-wide i j l (d ∷ ds) o =
        rw (outs-cons 𝒜 i j l d ds, outs-cons 𝒜 i (suc j) l d ds, outs-wide i j l ds o.4, le-leb d.line.j j (omega (arith, o.1)), le-leb d.line.j (suc j) (omega (arith, o.1)))

    ok-wide : (j : ℕ) (ds : List (Done Fig)) → Ok j ds → Ok (suc j) ds
    ok-wide j [] o = tt
    ok-wide j (d ∷ ds) o = (o.0, omega (arith, o.1), o.2, o.3, ok-wide j ds o.4)

module _ {R : Type 0} (𝒜 : Algebra R) (ℒ : Laws 𝒜) (comm : Commutative 𝒜) (row : List (Summary 𝒜.Fig R)) (starts : Begins row) where
  open 𝒜 use {Fig, ι, ◌⊗◌}
  open ℒ use {assoc, unit-l, unit-r}

  infixl 70 ◌⊗◌
  left_comm : (a b c : Fig) → a ⊗ (b ⊗ c) ≡ b ⊗ (a ⊗ c)
  left_comm a b c = rw (← assoc a b c, comm a b, assoc b a c)

  abbrev meets : Meeting 𝒜 (sides 𝒜 row) (floor 𝒜 row) (level 𝒜 row)
  meets = meeting 𝒜 row starts

  floor-low : (k : ℕ) → floor 𝒜 row k ≤ level 𝒜 row k
  floor-low k = omega (arith, meets.rises k)

  module _ (j : ℕ) (ds₀ : List (Done Fig)) (inv : Inv 𝒜 row j ds₀) (ok₀ : Ok 𝒜 row j ds₀) where
    -- a run over the own records of the hill i closes what they close in the merged hills
    run-got : (i lo c : ℕ) (x : Fig) → i < j → floor 𝒜 row i ≤ lo → lo ≤ c → c < level 𝒜 row j → ((k : ℕ) → i < k → k < j → c < floor 𝒜 row k)
        → x ≡ middles 𝒜 row i j (suc c) ⊗ (outcomes_at 𝒜 i j (suc c) ds₀ ⊗ got 𝒜 row j (suc c))
        → down (own 𝒜 (floor 𝒜 row i) (sides 𝒜 row i) (floor 𝒜 row j) (sides 𝒜 row j)) lo (suc c) x ≡ got 𝒜 row j lo
    unfolding closed
    run-got i lo c x hi hp hl hc f e =
        down_step alone lo c x hl
        ∙ down-cong alone joined lo c (alone (suc c) x) hl same
        ∙ ap (down joined lo c) first
        ∙ sym (down_step joined lo c (got 𝒜 row j (suc c)) hl)
        ∙ sym (down-split joined lo (suc c) (level 𝒜 row j) ι (omega arith) hc)
      where
        left : ℕ → Fig
        left l = left_value_at 𝒜 (floor 𝒜 row j) (sides 𝒜 row j) l

        alone : ℕ → Fig → Fig
        alone l z = held 𝒜 row i l (z ⊗ left l)

        joined : ℕ → Fig → Fig
        joined l z = now 𝒜 row j l (z ⊗ left l)

        same : (l : ℕ) (z : Fig) → lo < l → l ≤ c → alone l z ≡ joined l z
        same l z a b =
            let g : (k : ℕ) → i < k → k < j → l < floor 𝒜 row k = λ k p q. let h : c < floor 𝒜 row k = f k p q in omega arith in
            sym (
            inv l i (z ⊗ left l) (omega arith) (hi, omega arith, λ k p q. let h : c < floor 𝒜 row k = f k p q in omega arith)
            ∙ ap (held 𝒜 row i l) (rw (middles-none 𝒜 row ℒ i j l g, outs-none 𝒜 row ℒ i j l ds₀ ok₀ g, unit-l ι, unit-l (z ⊗ left l))))

        first : alone (suc c) x ≡ joined (suc c) (got 𝒜 row j (suc c))
        first = sym (inv (suc c) i (got 𝒜 row j (suc c) ⊗ left (suc c)) hc (hi, omega arith, f) ∙ ap (held 𝒜 row i (suc c)) (rw e (simp assoc)))

    -- a hill that shares no open record with j
    scan-skip : (i c : ℕ) (ds : List (Done Fig)) → c ≤ max (floor 𝒜 row i) (floor 𝒜 row j) → Scan 𝒜 row j ds₀ (suc i) c ds → Scan 𝒜 row j ds₀ i c ds
    scan-skip i c ds h s = record {
      ge = s.ge;
      le = s.le;
      here = s.here;
      below = s.below;
      ok = s.ok;
      last = s.last;
      ahead = λ k a b. dite (dec_lt i k) (λ d. s.ahead k d b) (λ d. let e : k ≡ i = omega arith in rw e h);
    }

    -- the line of the hills i and j, worked after ds
    abbrev line_to : ℕ → ℕ → Line
    line_to i c = record { i = i; j = j; lowest = max (floor 𝒜 row i) (floor 𝒜 row j); highest = c }

    work-out : (i c : ℕ) (ds : List (Done Fig)) → i < j → c < level 𝒜 row (suc i) → max (floor 𝒜 row i) (floor 𝒜 row j) ≤ c → Scan 𝒜 row j ds₀ (suc i) (suc c) ds
        → (work 𝒜 row (line_to i c) ds).out ≡ got 𝒜 row j (max (floor 𝒜 row i) (floor 𝒜 row j))
    unfolding given middles
    work-out i c ds hi ht h s =
        run_down 𝒜 row ℒ i j (max (floor 𝒜 row i) (floor 𝒜 row j)) c (given 𝒜 row (line_to i c) ds) (omega arith) h ht (omega (arith, s.le))
        ∙ run-got i (max (floor 𝒜 row i) (floor 𝒜 row j)) c (given 𝒜 row (line_to i c) ds) hi (omega arith) h s.le
        (λ k a b. let q : suc c ≤ max (floor 𝒜 row k) (floor 𝒜 row j) = s.ahead k a b in omega arith)
        (ap (λ (z : Fig). middles 𝒜 row i j (suc c) ⊗ z) (s.here i hi (omega arith)))

    scan-join : (i c : ℕ) (ds : List (Done Fig)) → i < j → c < level 𝒜 row (suc i) → max (floor 𝒜 row i) (floor 𝒜 row j) ≤ c → Scan 𝒜 row j ds₀ (suc i) (suc c) ds
        → Scan 𝒜 row j ds₀ i (max (floor 𝒜 row i) (floor 𝒜 row j)) (work 𝒜 row (line_to i c) ds ∷ ds)
    scan-join i c ds hi ht h s = record {
      ge = omega arith;
      le = let q : suc c ≤ level 𝒜 row j = s.le in omega arith;
      ahead = λ k a b. ahead k b a;
      here = λ τ a b.
          rw (
            outs-cons 𝒜 τ j (max (floor 𝒜 row i) (floor 𝒜 row j)) (work 𝒜 row (line_to i c) ds) ds,
            gives_all 𝒜 τ j (max (floor 𝒜 row i) (floor 𝒜 row j)) (work 𝒜 row (line_to i c) ds) (early τ a b) (le_refl j) refl,
            work-out i c ds hi ht h s,
            s.below τ (max (floor 𝒜 row i) (floor 𝒜 row j)) (omega arith),
          ) (comm _ _);
      below = λ τ l a.
          rw (
            outs-cons 𝒜 τ j l (work 𝒜 row (line_to i c) ds) ds,
            gives_other 𝒜 τ j l (work 𝒜 row (line_to i c) ds) (omega arith),
            unit-l,
            s.below τ l (omega arith),
          );
      ok = (hi, le_refl (suc j), omega arith, work-out i c ds hi ht h s, s.ok);
      last = λ y a. work-out i c ds hi ht h s;
    }
      where
        ahead : (k : ℕ) → k < j → i ≤ k → max (floor 𝒜 row i) (floor 𝒜 row j) ≤ max (floor 𝒜 row k) (floor 𝒜 row j)
        ahead k b a = dite (dec_lt i k) (λ d. let q : suc c ≤ max (floor 𝒜 row k) (floor 𝒜 row j) = s.ahead k d b in omega arith) (λ d. let e : k ≡ i = omega arith in rw e (le_refl _))

        early : (τ : ℕ) → τ < j → floor 𝒜 row τ < max (floor 𝒜 row i) (floor 𝒜 row j) → τ ≤ i
        early τ a b = dite (dec_lt i τ) (λ d. let q : suc c ≤ max (floor 𝒜 row τ) (floor 𝒜 row j) = s.ahead τ d a in absurd (omega arith)) (λ d. omega arith)

    -- all the lines of the hill j
    scan-all : (i t : ℕ) (ds : List (Done Fig)) → i ≤ j → t ≤ level 𝒜 row i → Scan 𝒜 row j ds₀ i (max t (floor 𝒜 row j)) ds
        → Scan 𝒜 row j ds₀ 0 (floor 𝒜 row j) (worked 𝒜 row (walk (chunk 𝒜 row) j (floor 𝒜 row j) t i) ds)
    scan-all zero t ds h a s =
        let e : max t (floor 𝒜 row j) ≡ floor 𝒜 row j = omega (arith, meets.ground) in
        rw (lines-nil 𝒜 row j (floor 𝒜 row j) t, worked-nil 𝒜 row ds) (rw e at s)
    scan-all (suc i) t ds h a s =
        let ih : (t : ℕ) (ds : List (Done Fig)) → t ≤ level 𝒜 row i → Scan 𝒜 row j ds₀ i (max t (floor 𝒜 row j)) ds → Scanned t i ds = λ t ds. scan-all i t ds (omega arith) in
        dite (dec_lt (max (floor 𝒜 row i) (floor 𝒜 row j)) t) (join ih) (skip ih)
      where
        Scanned : ℕ → ℕ → List (Done Fig) → Type 0
        Scanned t i ds = Scan 𝒜 row j ds₀ 0 (floor 𝒜 row j) (worked 𝒜 row (walk (chunk 𝒜 row) j (floor 𝒜 row j) t i) ds)

        Before : Type 0
        Before = (t : ℕ) (ds : List (Done Fig)) → t ≤ level 𝒜 row i → Scan 𝒜 row j ds₀ i (max t (floor 𝒜 row j)) ds → Scanned t i ds

        skip : Before → (max (floor 𝒜 row i) (floor 𝒜 row j) < t → ⊥) → Scanned t (suc i) ds
        skip ih b =
            let e : max t (floor 𝒜 row j) ≡ max (min t (floor 𝒜 row i)) (floor 𝒜 row j) = omega arith in
            rw (lines-skip 𝒜 row j (floor 𝒜 row j) t i a (omega arith))
            (ih (min t (floor 𝒜 row i)) ds (omega (arith, floor-low i)) (rw e at (scan-skip i (max t (floor 𝒜 row j)) ds (omega arith) s)))

        join : Before → max (floor 𝒜 row i) (floor 𝒜 row j) < t → Scanned t (suc i) ds
        join ih b =
            let e : max t (floor 𝒜 row j) ≡ suc (t - 1) = omega arith in
            rw (lines_join 𝒜 row j (floor 𝒜 row j) t i a b, worked-cons 𝒜 row)
            (ih (floor 𝒜 row i) (work 𝒜 row (line_to i (t - 1)) ds ∷ ds) (floor-low i) (scan-join i (t - 1) ds h (omega arith) (omega arith) (rw e at s)))

    -- at the start of the hill j nothing is closed yet
    scan-start : Scan 𝒜 row j ds₀ j (max (level 𝒜 row j) (floor 𝒜 row j)) ds₀
    unfolding closed
    scan-start =
        let e : max (level 𝒜 row j) (floor 𝒜 row j) ≡ level 𝒜 row j = omega (arith, floor-low j) in
        rw e (record {
          ge = floor-low j;
          le = le_refl (level 𝒜 row j);
          ahead = λ k a b. absurd (omega arith);
          here = λ τ a b. rw (down-none _ (level 𝒜 row j) ι) (sym (unit-r _));
          below = λ τ l a. refl;
          ok = ok-wide 𝒜 row j ds₀ ok₀;
          last = λ y a. absurd (omega arith);
        })

    -- the hills up to j, merged
    inv-step : (ds : List (Done Fig)) → Scan 𝒜 row j ds₀ 0 (floor 𝒜 row j) ds → Inv 𝒜 row (suc j) ds
    inv-step ds s l τ y hl g = dite (dec_lt τ j) before here
      where
        Goal : Type 0
        Goal = now 𝒜 row (suc j) l y ≡ held 𝒜 row τ l (middles 𝒜 row τ (suc j) l ⊗ outcomes_at 𝒜 τ (suc j) l ds ⊗ y)

        at-peak : Tag 𝒜 row j l τ → floor 𝒜 row j ≡ l → Goal
        at-peak t e =
            let q : outcomes_at 𝒜 τ j l ds ≡ outcomes_at 𝒜 τ j l ds₀ ⊗ got 𝒜 row j (floor 𝒜 row j)
            = subst (λ (m : ℕ). outcomes_at 𝒜 τ j m ds ≡ outcomes_at 𝒜 τ j m ds₀ ⊗ got 𝒜 row j (floor 𝒜 row j)) e (s.here τ t.0 (omega (arith, t.1))) in
            state-peak 𝒜 (sides 𝒜 row) (floor 𝒜 row) (level 𝒜 row) ℒ meets j l y (sym e) (omega (arith, t.1))
            ∙ inv l τ (got 𝒜 row j (floor 𝒜 row j) ⊗ middle (sides 𝒜 row j) ⊗ y) (omega (arith, floor-low j)) t
            ∙ ap (held 𝒜 row τ l) (rw (middles-add 𝒜 row ℒ τ j l t.0 e, ← outs-wide 𝒜 row τ j l ds s.ok, q) (simp (assoc, comm, left_comm)))

        under : Tag 𝒜 row j l τ → l < floor 𝒜 row j → Goal
        under t a =
            state-under 𝒜 (sides 𝒜 row) (floor 𝒜 row) (level 𝒜 row) ℒ meets j l y a
            ∙ inv l τ y (omega (arith, floor-low j)) t
            ∙ ap (held 𝒜 row τ l) (rw (middles-other 𝒜 row ℒ τ j l t.0 (omega arith), ← outs-wide 𝒜 row τ j l ds s.ok, s.below τ l a))

        before : τ < j → Goal
        before a =
            let t : Tag 𝒜 row j l τ = (a, g.1, λ k p q. g.2 k p (omega arith)) in
            let b : l ≤ floor 𝒜 row j = g.2 j a (le_refl (suc j)) in
            dite (dec_lt l (floor 𝒜 row j)) (under t) (λ c. at-peak t (omega arith))

        here : (τ < j → ⊥) → Goal
        here a =
            let e : τ ≡ j = omega (arith, g.0) in
            rw (middles-none 𝒜 row ℒ τ (suc j) l (λ k p q. absurd (omega arith)), outs-none 𝒜 row ℒ τ (suc j) l ds s.ok (λ k p q. absurd (omega arith)), unit-l ι, unit-l y, e)
            (state-own 𝒜 (sides 𝒜 row) (floor 𝒜 row) (level 𝒜 row) ℒ meets j l y (rw e at g.1) hl)

  -- the lines to the first n hills, worked
  abbrev pub done : ℕ → List (Done Fig)
  done n = worked 𝒜 row (plan (chunk 𝒜 row) n) []

  done-suc : (j : ℕ) → done (suc j) ≡ worked 𝒜 row (walk (chunk 𝒜 row) j (floor 𝒜 row j) (level 𝒜 row j) j) (done j)
  done-suc j = rw (plan-suc 𝒜 row starts j, worked-append 𝒜 row)

  scanned : (j : ℕ) → Inv 𝒜 row j (done j) × Ok 𝒜 row j (done j) → Scan 𝒜 row j (done j) 0 (floor 𝒜 row j) (done (suc j))
  scanned j h =
      rw done-suc (scan-all j (done j) h.0 h.1 j (level 𝒜 row j) (done j) (le_refl j) (le_refl (level 𝒜 row j)) (scan-start j (done j) h.0 h.1))

  -- the work along the plan and the merged hills go together
  together : (n : ℕ) → Inv 𝒜 row n (done n) × Ok 𝒜 row n (done n)
  together zero = ((λ l τ y a t. absurd (omega (arith, t.0))), rw (plan-zero 𝒜 row, worked-nil 𝒜 row) tt)
  together (suc j) =
      let s : Scan 𝒜 row j (done j) 0 (floor 𝒜 row j) (done (suc j)) = scanned j (together j) in
      (inv-step j (done j) (together j).0 (together j).1 (done (suc j)) s, s.ok)

  -- Each outcome is what a hill gets from closing levels.
  pub all-got : (n : ℕ) → Ok 𝒜 row n (done n)
  all-got n = (together n).1

  -- THE LAST OUTCOME: after a hill that closes a record, it is what the hill closes, all told.
  pub last-outcome : (j : ℕ) (y : Fig) → floor 𝒜 row j < level 𝒜 row j → last_outcome 𝒜 (done (suc j)) y ≡ got 𝒜 row j (floor 𝒜 row j)
  last-outcome j y a = (scanned j (together j)).last y a

  -- A hill that starts at level 0 has no line.
  pub done-flat : (j : ℕ) → level 𝒜 row j ≡ 0 → done (suc j) ≡ done j
  done-flat j e = rw (done-suc j, walk-stop (chunk 𝒜 row) j (floor 𝒜 row j) (level 𝒜 row j) j (omega arith), worked-nil 𝒜 row)

  pub done-zero : done 0 ≡ []
  done-zero = rw (plan-zero 𝒜 row, worked-nil 𝒜 row)
