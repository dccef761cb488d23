-- The levels of a line in the bytes of a row, one after the other. Assumes nothing.
use Rattle.std.specs.Prelude.{◌≡◌, List, [], ◌∷◌, map, ℕ, ◌-◌, ◌≤◌, ◌<◌, ℤ}
use Rattle.std.proofs.Common.{ap, subst, ◌∙◌, arith}
use Rattle.algebra.specs.Run.{Level, run}
use Rattle.algebra.specs.Sizes.{costs}
use Rattle.figure.specs.Mode.{mode_of}
use Rattle.figure.specs.Stored.{amounts, level_run, run_after, Levels, Composes}
use Rattle.modes.specs.declared.Run.{Run}
use Rattle.plan_work.specs.Runs.{run_of}
use Rattle.plan_work.proofs.WorkLaws.{levels-none}
use Rattle.run_level.specs.declared.Place.{Place}
use Rattle.run_level.specs.declared.RunLevel.{RunLevel}
use Rattle.run_level.specs.Levels.{piece_of, Reads, level_at, level_for}
use Rattle.run_level.specs.StandsFor.{IsLevel, level-stored}
use Rattle.run_level.specs.Along.{levels_of}
use Rattle.run_level.specs.AlongLaws.{levels-cons}
use Rattle.runs.specs.Runs.{most, level_run_of, LevelReads, line_levels, LineReads, RunIs}
use Rattle.runs.specs.LoopLaws.{Running, level-fits, run-start, composes, run-next, run_end}

-- ---- one level

module _ (row : List ℕ) (m : ℕ) (o c : Place) (d : ℕ) where
  abbrev here : RunLevel
  here = level_at (piece_of row o.piece) (piece_of row c.piece) d

  is-level : (r : Reads row o c d) → LevelReads row m o c d → IsLevel m here
  is-level r v = level-stored m (piece_of row o.piece) (piece_of row c.piece) d r.opens r.closes v.opener-mode v.closer-mode

  pub level-asks : LevelReads row m o c d → (l : RunLevel) (v x y : ℤ) → l ≡ here → v ≡ l.value → x ≡ l.held → y ≡ l.left → Levels (mode_of m) v x y
  level-asks w l v x y e f g h =
      let i = is-level w.reads w in
      rw (f, g, h, e) (level-fits (mode_of m) (amounts here.value here.floor here.ceiling) here.held here.left i.in-range 0 (omega (arith, w.light)) i.held-stored i.left-stored)

  pub level-answers : (l : RunLevel) (r : Run) (v f g x y : ℤ) → l ≡ here → v ≡ l.value → f ≡ l.floor → g ≡ l.ceiling → x ≡ l.held → y ≡ l.left → r ≡ level_run (mode_of m) (amounts v f g) x y → r ≡ level_run_of m here
  level-answers l r v f g x y e p q s t u w = rw (p, q, s, t, u, e) at w

-- ---- the levels of a line

module _ (row : List ℕ) (m : ℕ) (o c : Place) (low high : ℕ) where
  abbrev p : List ℕ
  p = piece_of row o.piece

  abbrev q : List ℕ
  q = piece_of row c.piece

  abbrev at : ℕ → Level (mode_of m).algebra
  at d = level_for m (level_at p q d)

  -- The levels below the depth d.
  abbrev below : ℕ → List (Level (mode_of m).algebra)
  below d = levels_of row m o c low (d - low)

  abbrev whole : (mode_of m).context.K
  whole = run (mode_of m).context (at high) (below high)

  -- The levels from the depth d down are passed.
  pub record Passed (r : Run) (d : ℕ) : Type 0 where
    pub down : low ≤ d
    pub up : d ≤ high
    pub so_far : Running (mode_of m) whole r (below d)

  module _ (v : LineReads row m o c low high) where
    all-levels : line_levels row m o c low high ≡ at high ∷ below high
    all-levels =
        ap (levels_of row m o c low) (omega (arith, v.some)) ∙ levels-cons row m o c low (high - low) high (omega (arith, v.some)) (v.reads high v.some (omega arith))

    all-light : costs (mode_of m).sizes (at high ∷ below high) ≤ most
    all-light = subst (λ (ls : List (Level (mode_of m).algebra)). costs (mode_of m).sizes ls ≤ most) all-levels v.light

    pub first-level : LevelReads row m o c high
    first-level = record { reads = v.reads high v.some (omega arith); opener-mode = v.opener-mode; closer-mode = v.closer-mode; light = omega (arith, all-light) }

    in-range : (d : ℕ) → low ≤ d → d ≤ high → IsLevel m (level_at p q d)
    in-range d l h = let r = v.reads d l h in level-stored m p q d r.opens r.closes v.opener-mode v.closer-mode

    pub pass-first : (r : Run) → r ≡ level_run_of m (level_at p q high) → Passed r high
    pass-first r e = record {
      down = v.some;
      up = omega arith;
      so_far = run-start (mode_of m) _ _ _ (in-range high v.some (omega arith)).in-range (below high) r e all-light;
    }

    module _ (r : Run) (d e : ℕ) (w : Passed r d) (l : low < d) (n : e ≡ d - 1) where
      next-in : low ≤ e
      next-in = omega arith

      next_up : e ≤ high
      next_up = omega (arith, w.up)

      next-levels : below d ≡ at e ∷ below e
      next-levels =
          ap (levels_of row m o c low) (omega arith) ∙ levels-cons row m o c low (e - low) e (omega arith) (v.reads e next-in next_up)

      so-far' : Running (mode_of m) whole r (at e ∷ below e)
      so-far' = subst (Running (mode_of m) whole r) next-levels w.so_far

      pub next_level : LevelReads row m o c e
      next_level = record { reads = v.reads e next-in next_up; opener-mode = v.opener-mode; closer-mode = v.closer-mode; light = omega (arith, so-far'.room) }

      pub composes-next : (outer : Run) → outer ≡ level_run_of m (level_at p q e) → Composes (mode_of m) outer r
      composes-next outer f = composes (mode_of m) _ _ _ (in-range e next-in next_up).in-range (below e) whole r so-far' outer f

      pub pass-next : (outer r' : Run) → outer ≡ level_run_of m (level_at p q e) → r' ≡ run_after (mode_of m) outer r → Passed r' e
      pass-next outer r' f g = record { down = next-in; up = next_up; so_far = run-next (mode_of m) _ _ _ (in-range e next-in next_up).in-range (below e) whole r so-far' outer r' f g }

    pub pass-end : (r : Run) (d : ℕ) → Passed r d → d ≤ low → RunIs m (line_levels row m o c low high) r
    pass-end r d w h =
        let z : below d ≡ [] = ap (levels_of row m o c low) (omega arith) ∙ levels-none (mode_of m).algebra _ _ _ _ low in
        ap (λ (ls : List (Level (mode_of m).algebra)). map (mode_of m).store_run (run_of (mode_of m).context ls)) all-levels ∙ ap (λ (x : Run). x ∷ []) (run_end (mode_of m) whole r (subst (Running (mode_of m) whole r) z w.so_far))
