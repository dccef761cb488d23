-- The plan of a well-formed log, cut into chunks: what the document says of it, by the records. Assumes nothing.
use Prim.Native.Nat.{ℕ, zero, suc, ◌+◌, ◌*◌, ◌≤◌, ◌<◌}
use Rattle.std.specs.Prelude.{◌≡◌, ◌↔◌, length}
use Rattle.std.proofs.Math.Path.{refl, fun_ext}
use Rattle.std.proofs.Common.{sym, ap, ◌∙◌, subst, arith}
use mathlib.Core.List.{List, [], ◌∷◌, map}
use Rattle.std.proofs.Math.ListN.{length-append, get_or-map}
use Rattle.std.proofs.lemmas.List.{length-map}
use Rattle.join_plan.specs.Plan.{Levels, blank, hill, Line, row_of, plan_of, joins}
use Rattle.join_plan.specs.Joins.{Joins, IsLine, after, level_at, Meets, WellFormed}
use Rattle.join_plan.proofs.PlanExact.{plan_of-exact, plan_of-sorted}
use Rattle.join_plan.proofs.PlanBound.{plan_of-bound}
use Rattle.join_plan.proofs.RowLevels.{joins-convex}
use Rattle.hill.specs.Log.{Record, start_level}
use Rattle.hill.specs.Closing.{at}
use Rattle.hill.proofs.Peak.{depth-least}
use Rattle.hill.specs.Row.{joined}
use Rattle.join_plan.specs.ByRecords.{place, Joined, PlanLine, IsPlan}
use Rattle.hill.proofs.LogPlaces.{level_before, WellFormedLog}
use Rattle.join_plan.proofs.LogLevels.{levels_of, row_of_chunks}
use Rattle.join_plan.proofs.LogJoins.{Span, chunk-span, place_inside, joins-exact}

module _ {R : Type 0} where
  -- the level after a chunk, and that the chunk meets the one before
  span-after : (r : ℕ → Record R) (c : Levels) (a b : ℕ) → Span r a b c → after c (level_before r a) ≡ level_before r b
  span-after r blank a b s = ap (level_before r) s
  span-after r (hill x p y) a b s = sym s.2

  span-meets : (r : ℕ → Record R) (c : Levels) (a b : ℕ) → ((k : ℕ) → k < b → start_level (r k) ≡ level_before r k) → Span r a b c → Meets c (level_before r a)
  span-meets r blank a b m s = tt
  span-meets r (hill x p y) a zero m s = absurd (omega arith)
  span-meets r (hill x p y) a (suc b) m s = (
    sym s.1,
    omega (arith, s.1, s.3 a (omega arith) s.0, (depth-least (r a)).0, m a s.0),
    omega (arith, s.2, s.3 b (omega arith) (omega arith), (depth-least (r b)).1),
  )

  pub place-all : (cs : List (List (Record R))) → place cs (length cs) ≡ length (joined cs)
  unfolding place
  place-all [] = refl
  place-all (c ∷ cs) = omega (arith, place-all cs, length-append c (joined cs))

  -- the row of the chunks' levels
  pub row-of : (cs : List (List (Record R))) → row_of (map levels_of cs) ≡ row_of_chunks cs
  row-of cs = fun_ext (λ k. get_or-map levels_of cs k [])

  module _ (cs : List (List (Record R))) (w : WellFormedLog (joined cs)) where
    pub level-place : (i : ℕ) → level_at (row_of_chunks cs) i ≡ level_before (at (joined cs)) (place cs i)
    unfolding level_at place
    level-place zero = refl
    level-place (suc i) = rw (level-place i) (span-after (at (joined cs)) (row_of_chunks cs i) (place cs i) (place cs (suc i)) (chunk-span cs w i))

    pub row-meets : (k : ℕ) → Meets (row_of_chunks cs k) (level_at (row_of_chunks cs) k)
    row-meets k = rw (level-place k) (span-meets (at (joined cs)) (row_of_chunks cs k) (place cs k) (place cs (suc k)) (λ m h. w.meets m (omega (arith, place_inside cs (suc k)))) (chunk-span cs w k))

    row-wellformed : WellFormed (row_of_chunks cs) (length cs)
    row-wellformed = record { meets = λ k h. row-meets k; ends = level-place (length cs) ∙ ap (level_before (at (joined cs))) (place-all cs) ∙ w.ends }

    -- what the levels say of a line is what the records say of it
    line-exact : (l : Line) → IsLine (row_of_chunks cs) l ↔ PlanLine cs l
    line-exact l = (there, back)
      where
        J : (d : ℕ) → Joins (row_of_chunks cs) l.i l.j d ↔ ((l.i < l.j) × Joined cs l.i l.j d)
        J d = joins-exact cs w l.i l.j d

        there : IsLine (row_of_chunks cs) l → PlanLine cs l
        there h =
            let a = (h.depths l.lowest).1 (omega (arith, h.some)) in
            record { apart = omega (arith, a.0.before); low = ((J l.lowest).0 a).1; high = ((J l.highest).0 ((h.depths l.highest).1 (omega (arith, h.some)))).1; within = λ d x. (h.depths d).0 ((J d).1 (a.0.before, x)) }

        back : PlanLine cs l → IsLine (row_of_chunks cs) l
        back h =
            let b : l.i < l.j = omega (arith, h.apart) in
            record {
              some = omega (arith, h.within l.highest h.high);
              depths = λ d. (
                λ x. h.within d ((J d).0 x).1,
                λ x. joins-convex (row_of_chunks cs) l.i l.j l.lowest l.highest d ((J l.lowest).1 (b, h.low)) ((J l.highest).1 (b, h.high)) x.0 x.1,
              );
            }

    -- so the plan by the chunks' levels is the plan by the records
    pub log-plan : IsPlan cs (plan_of (map levels_of cs))
    log-plan = record {
      lines = λ l. (
        λ h. (line-exact l).0 (subst (λ r. IsLine r l) (row-of cs) ((plan_of-exact (map levels_of cs) l).0 h)),
        λ h. (plan_of-exact (map levels_of cs) l).1 (subst (λ r. IsLine r l) (sym (row-of cs)) ((line-exact l).1 h)),
      );
      sorted = plan_of-sorted (map levels_of cs);
    }

    pub log-bound : 2 ≤ length cs → joins (plan_of (map levels_of cs)) + 3 ≤ 2 * length cs
    log-bound h = rw (length-map cs levels_of) at (plan_of-bound (map levels_of cs) (rw (row-of cs, length-map cs levels_of) row-wellformed) (rw (length-map cs levels_of) h))
