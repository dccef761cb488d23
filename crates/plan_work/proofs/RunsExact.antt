-- Each line of the plan of an accepted row has its run, which does to x what its levels do one after another. Assumes nothing.
use Rattle.std.specs.Prelude.{◌≡◌, drop}
use Rattle.std.proofs.Math.Path.{refl}
use Rattle.std.proofs.Common.{ap, ◌∙◌, subst, le_refl, arith, length-drop}
use mathlib.Core.List.{List, [], ◌∷◌, ◌++◌, map, Memᴰ}
use Prim.Native.Nat.{ℕ, zero, suc, ◌+◌, ◌-◌, ◌≤◌, ◌<◌}
use Rattle.std.proofs.Math.ListN.{length, length-append, get_or-map}
use Rattle.std.proofs.lemmas.List.{length-map}
use Rattle.algebra.specs.Algebra.{Algebra}
use Rattle.algebra.specs.Run.{Level, through, Context, AllSound, run}
use Rattle.algebra.proofs.Run.{run_is, run-fine}
use Rattle.hill.specs.Summary.{Hill, hill, Summary, spoilt, whole, blank, part, rise, fall}
use Rattle.algebra.specs.Sizes.{Sizes}
use Rattle.hill.specs.Valid.{AllFine, FineHill}
use Rattle.join_plan.specs.Plan.{Levels, Line, row_of, levels_of_summary, plan_of_row}
use Rattle.join_plan.specs.Joins.{Opens, Closes, IsLine}
use Rattle.join_plan.proofs.PlanExact.{plan_of-exact, plan_of-range}
use Rattle.plan_work.specs.Runs.{peak_of_summary, slopes_of, left_value_at, level_of, levels_down, summary_at, run_levels, run_of, runs_along, runs_of}
use Rattle.plan_work.specs.Fair.{ValidRow}
use Rattle.plan_work.specs.RunsExact.{Spans}

module _ {R : Type 0} (𝒜 : Algebra R) where
  open 𝒜 use {Fig}

  level-length : (d : List (R × Fig)) (v : Fig) → 0 < length d → length (level_of 𝒜 d v) ≡ 1
  level-length [] v h = absurd (omega arith)
  level-length (e ∷ d) v h = refl

  -- As many levels as depths.
  levels-length : (p : ℕ) (g : Hill Fig R) (q : ℕ) (h : Hill Fig R) (lo n : ℕ) → p ≤ lo → lo + n ≤ p + fall g → length (levels_down 𝒜 p g q h lo n) ≡ n
  unfolding levels_down
  levels-length p g q h lo zero a b = refl
  levels-length p (hill u m d) q h lo (suc n) a b =
      let i : ℕ = p + length d - suc (lo + n) in
      length-append (level_of 𝒜 (drop i d) (left_value_at 𝒜 q h (suc (lo + n)))) (levels_down 𝒜 p (hill u m d) q h lo n)
      ∙ rw (level-length (drop i d) (left_value_at 𝒜 q h (suc (lo + n))) (rw (length-drop i d) (omega arith)), levels-length p (hill u m d) q h lo n a (omega arith)) (omega arith)

  depths-open : (s : Summary Fig R) (d : ℕ) → Opens (levels_of_summary s) d → (peak_of_summary 𝒜 s ≤ d) × (d < peak_of_summary 𝒜 s + fall (slopes_of 𝒜 s))
  depths-open blank d x = absurd x
  depths-open (part (spoilt f s e o)) d x = absurd x
  depths-open (part (whole p o h)) d x = x

  depths-closed : (s : Summary Fig R) (d : ℕ) → Closes (levels_of_summary s) d → (peak_of_summary 𝒜 s ≤ d) × (d < peak_of_summary 𝒜 s + rise (slopes_of 𝒜 s))
  depths-closed blank d x = absurd x
  depths-closed (part (spoilt f s e o)) d x = absurd x
  depths-closed (part (whole p o h)) d x = x

  pub line-spans : (row : List (Summary Fig R)) (e : Line) → Memᴰ e (plan_of_row row) → Spans 𝒜 row e
  line-spans row e m = record {
    before = range.0;
    inside = omega (arith, range.1, length-map row levels_of_summary);
    some = some;
    open-from = (opens e.lowest (le_refl e.lowest) some).0;
    open-to = (opens e.highest some (le_refl e.highest)).1;
    close-from = (closes e.lowest (le_refl e.lowest) some).0;
    close-to = (closes e.highest some (le_refl e.highest)).1;
  }
    where
      is : IsLine (row_of (map levels_of_summary row)) e
      is = (plan_of-exact (map levels_of_summary row) e).0 m

      range : (e.i < e.j) × (e.j < length (map levels_of_summary row)) × (e.lowest ≤ e.highest) × Opens (row_of (map levels_of_summary row) e.i) e.highest
      range = plan_of-range (map levels_of_summary row) e m

      some : e.lowest ≤ e.highest
      some = is.some

      opens : (d : ℕ) → e.lowest ≤ d → d ≤ e.highest → (peak_of_summary 𝒜 (summary_at 𝒜 row e.i) ≤ d) × (d < peak_of_summary 𝒜 (summary_at 𝒜 row e.i) + fall (slopes_of 𝒜 (summary_at 𝒜 row e.i)))
      opens d a b =
          depths-open (summary_at 𝒜 row e.i) d (subst (λ (c : Levels). Opens c d) (get_or-map levels_of_summary row e.i blank) ((is.depths d).1 (a, b)).0.opens)

      closes : (d : ℕ) → e.lowest ≤ d → d ≤ e.highest → (peak_of_summary 𝒜 (summary_at 𝒜 row e.j) ≤ d) × (d < peak_of_summary 𝒜 (summary_at 𝒜 row e.j) + rise (slopes_of 𝒜 (summary_at 𝒜 row e.j)))
      closes d a b =
          depths-closed (summary_at 𝒜 row e.j) d (subst (λ (c : Levels). Closes c d) (get_or-map levels_of_summary row e.j blank) ((is.depths d).1 (a, b)).1)

  -- So its run goes through as many levels as it has depths, and at least through one.
  pub run_length_lem : (row : List (Summary Fig R)) (e : Line) → Memᴰ e (plan_of_row row) → (e.lowest ≤ e.highest) × (length (run_levels 𝒜 row e) ≡ suc e.highest - e.lowest)
  unfolding run_levels
  run_length_lem row e m =
      let r : Spans 𝒜 row e = line-spans row e m in (
        r.some,
        levels-length (peak_of_summary 𝒜 (summary_at 𝒜 row e.i)) (slopes_of 𝒜 (summary_at 𝒜 row e.i)) (peak_of_summary 𝒜 (summary_at 𝒜 row e.j)) (slopes_of 𝒜 (summary_at 𝒜 row e.j))
            e.lowest (suc e.highest - e.lowest) r.open-from (omega (arith, r.open-to, r.some)),
      )

  -- The records of an accepted row are fine, and so sound.
  pub slopes-fine : {Fine : R → Type 0} (𝒮 : Sizes 𝒜 Fine) (row : List (Summary Fig R)) (k : ℕ) → ValidRow 𝒜 𝒮 row → FineHill 𝒜 𝒮 (slopes_of 𝒜 (summary_at 𝒜 row k))
  slopes-fine 𝒮 [] k v = tt
  slopes-fine 𝒮 (blank ∷ row) zero v = tt
  slopes-fine 𝒮 (part (spoilt f s e o) ∷ row) zero v = tt
  slopes-fine 𝒮 (part (whole p o h) ∷ row) zero v = v.0.fine
  slopes-fine 𝒮 (s ∷ row) (suc k) v = slopes-fine 𝒮 row k v.1

  module _ {Fine : R → Type 0} (𝒮 : Sizes 𝒜 Fine) (Sound : R → Type 0) (sound : (r : R) → Fine r → Sound r) where
    drop-fine : (n : ℕ) (d : List (R × Fig)) → AllFine 𝒜 𝒮 d → AllFine 𝒜 𝒮 (drop n d)
    drop-fine zero d f = f
    drop-fine (suc n) [] f = f
    drop-fine (suc n) (e ∷ d) f = drop-fine n d f.1

    level-sound : (d : List (R × Fig)) (v : Fig) (ls : List (Level 𝒜)) → AllFine 𝒜 𝒮 d → AllSound Sound ls → AllSound Sound (level_of 𝒜 d v ++ ls)
    level-sound [] v ls f s = s
    level-sound (e ∷ d) v ls f s = (sound e.0 f.0, s)

    pub levels_sound : (p : ℕ) (g : Hill Fig R) (q : ℕ) (h : Hill Fig R) (lo n : ℕ) → FineHill 𝒜 𝒮 g → AllSound Sound (levels_down 𝒜 p g q h lo n)
    unfolding levels_down
    levels_sound p g q h lo zero f = tt
    levels_sound p (hill u m d) q h lo (suc n) f =
        level-sound (drop (p + length d - suc (lo + n)) d) (left_value_at 𝒜 q h (suc (lo + n))) (levels_down 𝒜 p (hill u m d) q h lo n) (drop-fine (p + length d - suc (lo + n)) d f)
        (levels_sound p (hill u m d) q h lo n f)

    pub run_sound : (row : List (Summary Fig R)) (e : Line) → ValidRow 𝒜 𝒮 row → AllSound Sound (run_levels 𝒜 row e)
    unfolding run_levels
    run_sound row e v =
        levels_sound (peak_of_summary 𝒜 (summary_at 𝒜 row e.i)) (slopes_of 𝒜 (summary_at 𝒜 row e.i)) (peak_of_summary 𝒜 (summary_at 𝒜 row e.j)) (slopes_of 𝒜 (summary_at 𝒜 row e.j))
        e.lowest (suc e.highest - e.lowest) (slopes-fine 𝒮 row e.i v)

module _ {R : Type 0} {𝒜 : Algebra R} {Sound : R → Type 0} (C : Context 𝒜 Sound) where
  open 𝒜 use {Fig}

  -- What the run of a line is: the mode's numbers k, that do to x what the levels do one after another.
  pub record RunOf (ls : List (Level 𝒜)) (k : C.K) : Type 0 where
    pub is : run_of C ls ≡ k ∷ []
    pub fine : C.Fine k
    pub does : (x : Fig) → C.apply k x ≡ through 𝒜 ls x

  run-levels : (ls : List (Level 𝒜)) → 0 < length ls → AllSound Sound ls → (k : C.K) × RunOf ls k
  run-levels [] h s = absurd (omega arith)
  run-levels (l ∷ ls) h s = (run C l ls, record { is = refl; fine = run-fine C (C.level l) ls (C.level-fine l s.0) s.1; does = run_is C l ls s })

  module _ {Fine : R → Type 0} (𝒮 : Sizes 𝒜 Fine) (sound : (r : R) → Fine r → Sound r) (row : List (Summary Fig R)) (v : ValidRow 𝒜 𝒮 row) where
    -- Each line of the plan of an accepted row has its run, ..
    pub run-of-line : (e : Line) → Memᴰ e (plan_of_row row) → (k : C.K) × RunOf (run_levels 𝒜 row e) k
    run-of-line e m = let n : (e.lowest ≤ e.highest) × (length (run_levels 𝒜 row e) ≡ suc e.highest - e.lowest) = run_length_lem 𝒜 row e m in run-levels (run_levels 𝒜 row e) (omega arith) (run_sound 𝒜 𝒮 Sound sound row e v)

    -- .. one for each, in order.
    runs-each : (es : List Line) → ((e : Line) → Memᴰ e es → Memᴰ e (plan_of_row row)) → length (runs_along C row es) ≡ length es
    unfolding runs_along
    runs-each [] f = refl
    runs-each (e ∷ es) f =
        rw (run-of-line e (f e (Memᴰ.head refl))).1.is (ap suc (runs-each es (λ d m. f d (Memᴰ.tail m))))

    pub runs-count : length (runs_of C row) ≡ length (plan_of_row row)
    runs-count = runs-each (plan_of_row row) (λ e m. m)
