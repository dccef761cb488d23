-- The plan of a cut log has one line for two chunks where some record opened in the one is closed in the other, and else none. Assumes nothing.
use Rattle.std.specs.Prelude.{◌≡◌, refl, ◌↔◌, Bool, true, false, cond, ◌&&◌, ℕ, zero, suc, ◌≤◌, ◌<◌, eqb, length}
use Rattle.std.proofs.Common.{sym, subst, inl, inr, ⊎_elim, arith, eqb-true, eq-eqb}
use Rattle.std.proofs.Math.Bool.{and-eq-true_iff}
use mathlib.Core.List.Memᴰ
use mathlib.Core.List.{List, [], ◌∷◌, map, Memᴰ}
use Rattle.algebra.specs.Algebra.{Algebra, Laws}
use Rattle.modes.specs.FourModes.{Amounts}
use Rattle.hill.specs.Verdict.{pass}
use Rattle.hill.specs.Log.{Record, log_fault}
use Rattle.hill.specs.Summary.{summary_of}
use Rattle.hill.specs.Sorted.{Sorted}
use Rattle.hill.specs.Row.{joined}
use Rattle.join_plan.specs.Plan.{Line, Before, plan_of_row}
use Rattle.join_plan.specs.ByRecords.{Joined, IsPlan}
use Rattle.join_plan.specs.Joins.{Joins}
use Rattle.join_plan.proofs.PlanExact.{plan_of-some}
use Rattle.hill.proofs.LogPlaces.{log-well-formed}
use Rattle.join_plan.proofs.LogLevels.{levels_of, levels-of-log}
use Rattle.join_plan.proofs.LogJoins.{joins-exact}
use Rattle.join_plan.proofs.LogPlan.{row-of}
use Rattle.join_plan.proofs.PlanOfLog.{plan-of-log, plan-only}
use Rattle.claim.specs.Claim.{AreJoined, lines_for}

module _ (i j : ℕ) where
  -- A line for i and j.
  abbrev IsFor : Line → Type 0
  IsFor l = (l.i ≡ i) × (l.j ≡ j)

  abbrev is_for : Line → Bool
  is_for l = eqb l.i i && eqb l.j j

  is-for : (l : Line) → (is_for l ≡ true) ↔ IsFor l
  is-for l =
      let b = and-eq-true_iff (eqb l.i i) (eqb l.j j) in
      (λ e. (eqb-true l.i i (b.0 e).0, eqb-true l.j j (b.0 e).1), λ h. b.1 (eq-eqb l.i i h.0, eq-eqb l.j j h.1))

  -- The lines that are found are in the list, and those in the list are found.
  for-found : (ls : List Line) → 1 ≤ length (lines_for i j ls) → (l : Line) × Memᴰ l ls × IsFor l
  for-found [] h = absurd (omega arith)
  for-found (x ∷ ls) h = go (is_for x) refl (for-found ls) h
    where
      go : (t : Bool) → is_for x ≡ t → (1 ≤ length (lines_for i j ls) → (l : Line) × Memᴰ l ls × IsFor l) → 1 ≤ length (cond t (x ∷ lines_for i j ls) (lines_for i j ls)) →
          (l : Line) × Memᴰ l (x ∷ ls) × IsFor l
      go true e ih h = (x, Memᴰ.head refl, (is-for x).0 e)
      go false e ih h = let (l, m, f) = ih h in (l, Memᴰ.tail m, f)

  found-for : (ls : List Line) (l : Line) → Memᴰ l ls → IsFor l → 1 ≤ length (lines_for i j ls)
  found-for [] l m f = absurd (Memᴰ.not-nil m)
  found-for (x ∷ ls) l m f = ⊎_elim first (λ n. later (is_for x) (found-for ls l n f)) (Memᴰ.cases_cons m)
    where
      first : l ≡ x → 1 ≤ length (cond (is_for x) (x ∷ lines_for i j ls) (lines_for i j ls))
      first e = rw ((is-for x).1 (subst IsFor e f)) (omega arith)

      later : (t : Bool) → 1 ≤ length (lines_for i j ls) → 1 ≤ length (cond t (x ∷ lines_for i j ls) (lines_for i j ls))
      later true h = omega arith
      later false h = h

  -- In order, there is at most one.
  not-again : (x y : Line) → Before x y → IsFor x → IsFor y → ⊥
  not-again x y (inl b) f g = omega (arith, f.1, g.1)
  not-again x y (inr b) f g = omega (arith, f.0, g.0)

  one-for : (ls : List Line) → Sorted Before ls → length (lines_for i j ls) ≤ 1
  one-for [] s = omega arith
  one-for (x ∷ ls) s = go (is_for x) refl (one-for ls s.1)
    where
      go : (t : Bool) → is_for x ≡ t → length (lines_for i j ls) ≤ 1 → length (cond t (x ∷ lines_for i j ls) (lines_for i j ls)) ≤ 1
      go true e ih = none (length (lines_for i j ls)) (λ h. let (l, m, f) = for-found ls h in not-again x l (s.0 l m) ((is-for x).0 e) f)
        where
          none : (n : ℕ) → (1 ≤ n → ⊥) → suc n ≤ 1
          none zero k = omega arith
          none (suc n) k = absurd (k (omega arith))
      go false e ih = ih

-- The plan by the chunks' records.
pub record PlanBy (cs : List (List (Record Amounts))) (ls : List Line) : Type 0 where
  pub described : IsPlan cs ls
  pub only : (ms : List Line) → IsPlan cs ms → ms ≡ ls
  pub one_line : (i j : ℕ) → i < j → AreJoined cs i j ↔ (length (lines_for i j ls) ≡ 1)
  pub no_line : (i j : ℕ) → i < j → (AreJoined cs i j → ⊥) ↔ (length (lines_for i j ls) ≡ 0)

module _ (𝒜 : Algebra Amounts) (ℒ : Laws 𝒜) (cs : List (List (Record Amounts))) (v : log_fault (joined cs) ≡ pass) where
  -- A join has a line.
  has-line : (i j d : ℕ) → i < j → Joined cs i j d → (l : Line) × Memᴰ l (plan_of_row (map (summary_of 𝒜) cs)) × (l.i ≡ i) × (l.j ≡ j)
  has-line i j d b h =
      rw (levels-of-log 𝒜 ℒ cs v)
      (plan_of-some (map levels_of cs) i j d (subst (λ (r : ℕ → _). Joins r i j d) (sym (row-of cs)) ((joins-exact cs (log-well-formed (joined cs) v) i j d).1 (b, h))))

  module _ (i j : ℕ) (b : i < j) where
    abbrev plan : List Line
    plan = plan_of_row (map (summary_of 𝒜) cs)

    abbrev many : ℕ
    many = length (lines_for i j plan)

    at_most : many ≤ 1
    at_most = one-for i j plan (plan-of-log 𝒜 ℒ cs v).sorted

    there : AreJoined cs i j → 1 ≤ many
    there (d, p, q, x, y, c) = let (l, m, f, g) = has-line i j d b (p, q, x, y, c) in found-for i j plan l m (f, g)

    back : 1 ≤ many → AreJoined cs i j
    back h =
        let (l, m, f) = for-found i j plan h in
        let x : Joined cs l.i l.j l.lowest = (((plan-of-log 𝒜 ℒ cs v).lines l).0 m).low in
        let (p, q, y, z, c) = subst (λ (k : ℕ). Joined cs i k l.lowest) f.1 (subst (λ (k : ℕ). Joined cs k l.j l.lowest) f.0 x) in
        (l.lowest, p, q, y, z, c)

    -- One line for two chunks that are joined, ..
    one_line : AreJoined cs i j ↔ (many ≡ 1)
    one_line = (λ h. omega (arith, at_most, there h), λ e. back (omega arith))

    -- .. and none for others.
    no_line : (AreJoined cs i j → ⊥) ↔ (many ≡ 0)
    no_line = (λ n. go many at_most (λ h. n (back h)), λ e h. omega (arith, there h))
      where
        go : (n : ℕ) → n ≤ 1 → (1 ≤ n → ⊥) → n ≡ 0
        go zero a k = refl
        go (suc n) a k = absurd (k (omega arith))

  -- THE PLAN OF A CUT LOG with no fault, from the summaries of its chunks.
  pub plan-by : PlanBy cs (plan_of_row (map (summary_of 𝒜) cs))
  plan-by = record { described = plan-of-log 𝒜 ℒ cs v; only = plan-only 𝒜 ℒ cs v; one_line = one_line; no_line = no_line }
