-- The last line of the plan is that of the record which the log begins with; with no line, all records are in one chunk. Assumes nothing.
use Rattle.std.specs.Prelude.{ℕ, suc, ◌-◌, ◌≤◌, ◌<◌, ◌≡◌, refl, ◌⊎◌, ◌≢◌}
use Rattle.std.proofs.Common.{sym, ap, ◌∙◌, subst, inl, inr, ⊎_elim}
use Rattle.std.proofs.Math.Logic.{dite}
use mathlib.Core.List.Memᴰ
use mathlib.Core.List.{List, [], ◌∷◌, ◌++◌, map, Memᴰ}
use Rattle.std.proofs.Math.Decide.{dec_lt}
use native.Mathlib.Omega.{arith}
use Rattle.std.proofs.Math.ListN.{length, length-append}
use Rattle.join_plan.specs.Plan.{Line, row_of, Before, plan_of}
use Rattle.join_plan.specs.Joins.{Joins}
use Rattle.join_plan.proofs.ScanExact.{before-asym, line-unique}
use Rattle.join_plan.proofs.PlanExact.{plan_of-exact, plan_of-sorted, plan_of-some}
use Rattle.hill.specs.Log.{Record, opening, closing, start_level, end_level}
use Rattle.hill.specs.Sorted.{Sorted}
use Rattle.hill.specs.Closing.{at, OpensAt, ClosedBy}
use Rattle.hill.specs.Row.{joined}
use Rattle.join_plan.specs.ByRecords.{place, InChunk, Joined}
use Rattle.hill.proofs.LogPlaces.{level_before, WellFormedLog}
use Rattle.join_plan.proofs.LogLevels.{levels_of}
use Rattle.join_plan.proofs.LogJoins.{place-le, joins-exact}
use Rattle.join_plan.proofs.LogPlan.{log-plan, row-of}

-- the line that all others of a sorted list stand before is its last
last_line : (ls : List Line) (l : Line) → Sorted Before ls → Memᴰ l ls → ((y : Line) → Memᴰ y ls → (y ≡ l) ⊎ Before y l) → (init : List Line) × (ls ≡ init ++ (l ∷ []))
last_line [] l s m h = absurd (Memᴰ.not-nil m)
last_line (x ∷ ls) l s m h = ⊎_elim (head ls s h) (λ k. let (init, e) = last_line ls l s.1 k (λ y z. h y (Memᴰ.tail z)) in (x ∷ init, ap (λ v. x ∷ v) e)) (Memᴰ.cases_cons m)
  where
    head : (ls : List Line) → Sorted Before (x ∷ ls) → ((y : Line) → Memᴰ y (x ∷ ls) → (y ≡ l) ⊎ Before y l) → l ≡ x → (init : List Line) × (x ∷ ls ≡ init ++ (l ∷ []))
    head [] s h e = ([], ap (λ v. v ∷ []) (sym e))
    head (y ∷ ls) s h e =
        let b : Before l y = subst (λ v. Before v y) (sym e) (s.0 y (Memᴰ.head refl)) in
        absurd (⊎_elim (λ f. let c : Before l l = subst (λ v. Before l v) f b in before-asym l l c c) (λ c. before-asym l y b c) (h y (Memᴰ.tail (Memᴰ.head refl))))

module _ {R : Type 0} where
  -- a record from level 0, and one to level 0
  from_zero : (x : Record R) → start_level x ≡ 0 → (r : R) × (x ≡ opening 0 r)
  from_zero (opening d r) e = (r, ap (λ v. opening v r) e)
  from_zero (closing d) e = absurd (omega arith)

  to-zero : (x : Record R) → end_level x ≡ 0 → x ≡ closing 0
  to-zero (opening d r) e = absurd (omega arith)
  to-zero (closing d) e = ap closing e

  -- each record is in a chunk
  pub locate : (cs : List (List (Record R))) (q : ℕ) → q < length (joined cs) → (i : ℕ) × InChunk cs i q
  unfolding place
  locate [] q h = absurd (omega arith)
  locate (c ∷ cs) q h = dite (dec_lt q (length c)) (λ x. (0, (omega arith, omega arith))) (λ x. later (locate cs (q - length c) (omega (arith, length-append c (joined cs)))) x)
    where
      later : (i : ℕ) × InChunk cs i (q - length c) → ¬ (q < length c) → (i : ℕ) × InChunk (c ∷ cs) i q
      later (i, u) x = (suc i, (omega arith, omega arith))

  module _ (cs : List (List (Record R))) (w : WellFormedLog (joined cs)) where
    -- a later record is in no earlier chunk
    chunk-order : (i j p q : ℕ) → InChunk cs i p → InChunk cs j q → p ≤ q → i ≤ j
    chunk-order i j p q u v h =
        dite (dec_lt j i) (λ k. absurd (omega (arith, place-le cs (suc j) i k))) (λ k. omega arith)

    -- the last record closes the first
    whole-closed : (n : ℕ) → length (joined cs) ≡ suc n → ClosedBy (joined cs) 0 n 0
    whole-closed n e = record {
      order = more;
      inside = omega arith;
      opened = first;
      closed = last;
      first = λ k u v c. omega (arith, w.above (suc k) (omega arith) (omega arith), ap end_level c);
    }
      where
        first : OpensAt (joined cs) 0 0
        first = from_zero (at (joined cs) 0) (w.meets 0 w.some)

        last : at (joined cs) n ≡ closing 0
        last = to-zero (at (joined cs) n) (ap (level_before (at (joined cs))) (sym e) ∙ w.ends)

        more : 0 < n
        more = dite (dec_lt 0 n) (λ h. h) (λ h. let z : n ≡ 0 = omega arith in absurd (omega (arith, ap start_level (sym first.1 ∙ ap (at (joined cs)) (sym z) ∙ last))))

    module _ (n f j : ℕ) (e : length (joined cs) ≡ suc n) (u : InChunk cs f 0) (v : InChunk cs j n) where
      -- no line starts before the first record's chunk, or ends after the last record's
      line-ends : (l : Line) → Memᴰ l (plan_of (map levels_of cs)) → (f ≤ l.i) × (l.i < l.j) × (l.j ≤ j)
      line-ends l m =
          let h = ((log-plan cs w).lines l).0 m in
          let (p, q, x, y, c) = h.low in
          (chunk-order f l.i 0 p u x (omega arith), h.apart, chunk-order l.j j q n y v (omega (arith, c.inside)))

      -- all records in one chunk: there is no line
      pub log-none : f ≡ j → plan_of (map levels_of cs) ≡ []
      log-none z = go (plan_of (map levels_of cs)) line-ends
        where
          go : (ls : List Line) → ((l : Line) → Memᴰ l ls → (f ≤ l.i) × (l.i < l.j) × (l.j ≤ j)) → ls ≡ []
          go [] h = refl
          go (l ∷ ls) h = absurd (omega (arith, h l (Memᴰ.head refl)))

      -- else the last line is from the first record's chunk to the last record's, with lowest depth 0
      pub log-last : f ≢ j → (init : List Line) × (l : Line) × (plan_of (map levels_of cs) ≡ init ++ (l ∷ [])) × (l.i ≡ f) × (l.j ≡ j) × (l.lowest ≡ 0)
      log-last z =
          let c : Joined cs f j 0 = (0, n, u, v, whole-closed n e) in
          let b : f < j = omega (arith, chunk-order f j 0 n u v (omega arith)) in
          let (l, m, x, y) = plan_of-some (map levels_of cs) f j 0 (subst (λ r. Joins r f j 0) (sym (row-of cs)) ((joins-exact cs w f j 0).1 (b, c))) in
          let low : l.lowest ≡ 0 = omega (arith, (((log-plan cs w).lines l).0 m).within 0 (rw (x, y) c)) in
          let (init, g) = last_line (plan_of (map levels_of cs)) l (plan_of-sorted (map levels_of cs)) m (λ k t. order l k x y m t (line-ends k t)) in
          (init, l, g, x, y, low)
        where
          same : (l k : Line) → l.i ≡ f → l.j ≡ j → Memᴰ l (plan_of (map levels_of cs)) → Memᴰ k (plan_of (map levels_of cs)) → k.i ≡ f → k.j ≡ j → k ≡ l
          same l k x y m t p q = line-unique (row_of (map levels_of cs)) k l ((plan_of-exact (map levels_of cs) k).0 t) ((plan_of-exact (map levels_of cs) l).0 m) (p ∙ sym x) (q ∙ sym y)

          order : (l k : Line) → l.i ≡ f → l.j ≡ j → Memᴰ l (plan_of (map levels_of cs)) → Memᴰ k (plan_of (map levels_of cs)) → (f ≤ k.i) × (k.i < k.j) × (k.j ≤ j) → (k ≡ l) ⊎ Before k l
          order l k x y m t h =
              dite (dec_lt k.j j) (λ a. inr (inl (omega arith)))
              (λ a. dite (dec_lt f k.i) (λ b. inr (inr (omega arith, omega arith))) (λ b. inl (same l k x y m t (omega arith) (omega arith))))
