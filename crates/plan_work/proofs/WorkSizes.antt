-- How large the figures of the work along a plan get: what all the opened records of the row can make bounds each outcome, and 130 times that each
-- figure on the way. Assumes nothing.
use Rattle.std.specs.Prelude.{◌≡◌, refl, true, false, ◌&&◌, cond, leb, get_or, take, drop}
use Rattle.std.proofs.Common.{sym, ap, ◌∙◌, subst, le_refl, mul-le-mul}
use Rattle.std.proofs.Math.Bool.{Bool}
use mathlib.Core.List.{List, [], ◌∷◌, ◌++◌, Memᴰ}
use Rattle.std.proofs.Math.Logic.{dite}
use Prim.Native.Nat.{ℕ, zero, suc, ◌+◌, ◌-◌, ◌*◌, ◌≤◌}
use Rattle.std.proofs.Math.Decide.{dec_le}
use native.Mathlib.Omega.{arith}
use Rattle.std.proofs.Math.Dec.{eqb}
use Rattle.std.proofs.Math.ListN.{length}
use Rattle.algebra.specs.Algebra.{Algebra, Laws, Commutative}
use Rattle.algebra.specs.Run.{Level, through}
use Rattle.algebra.specs.Sizes.{Sizes, costs}
use Rattle.algebra.proofs.Sizes.{size-through}
use Rattle.hill.specs.Verdict.{pass, count, ends}
use Rattle.hill.proofs.VerdictLaws.{low-fst, low-snd, count-pass, refuse-pass}
use Rattle.hill.specs.Summary.{Hill, hill, Part, Summary, spoilt, whole, blank, part, fall, middle, start}
use Rattle.hill.specs.Valid.{weight_up, weight_down, weight, AllFine, FineHill}
use Rattle.hill.specs.Building.{empty}
use Rattle.hill.proofs.ValidLaws.{weight-merge, fine-merge}
use Rattle.join_plan.specs.Plan.{Line, plan_of_row}
use Rattle.plan_work.specs.Runs.{peak_of_summary, slopes_of, level_of, levels_down, summary_at, run_levels}
use Rattle.plan_work.specs.Work.{Done, middles_at, outcomes_at, strictly_between, given, worked, one_middle}
use Rattle.plan_work.specs.WorkLaws.{work}
use Rattle.plan_work.proofs.WorkLaws.{gives, outs-nil, outs-cons, worked-nil, worked-cons, worked-append, levels-none, levels-next}
use Rattle.plan_work.specs.Gate.{parts_of, spoilt_fault, join_fault, total_opened, last_end, parts_fault, row_fault}
use Rattle.plan_work.specs.Fair.{ValidRow}
use Rattle.plan_work.proofs.GateExact.{Begins, row-begins}
use Rattle.plan_work.proofs.Fold.{fold, fold-zero}
use Rattle.plan_work.proofs.Stack.{closing, through-levels}
use Rattle.plan_work.proofs.Merged.{merged, closed, stack, centre, size as stack-length, merged-stack}
use Rattle.plan_work.proofs.RowLevels.{level, floor, sides, meeting, plan-row}
use Rattle.plan_work.proofs.Invariant.{got, Ok, done, all-got}
use Rattle.plan_work.specs.RunsExact.{Spans}
use Rattle.plan_work.proofs.RunsExact.{line-spans, slopes-fine, levels_sound, run_sound}
use Rattle.plan_work.specs.WorkSizes.{AllLight, LineLight, load}

-- A row that passes opens at most 100,000 records.
parts-few : {Fig R : Type 0} (ps : List (Part Fig R)) → parts_fault ps ≡ pass → total_opened ps ≤ 100000
parts-few [] p = absurd (refuse-pass p)
parts-few (a ∷ ps) p =
    count-pass (total_opened (a ∷ ps))
    (low-snd (join_fault a ps) (count (total_opened (a ∷ ps))) (low-snd (spoilt_fault (a ∷ ps)) _ (low-fst _ (ends (start a) (last_end a ps)) p)))

module _ {R : Type 0} (𝒜 : Algebra R) {Fine : R → Type 0} (𝒮 : Sizes 𝒜 Fine) where
  open 𝒜 use {Fig, ι, ◌⊗◌}

  infixl 70 ◌⊗◌
  open 𝒮 use {unit, size, size-ι, size-⊗}

  -- ---- outcomes

  cond-size : (t : Bool) (x : Fig) → size (cond t x ι) ≤ size x
  cond-size true x = omega arith
  cond-size false x = omega (arith, size-ι)

  -- For the loop over the earlier lines: what the next of them gives, ..
  pub gives_size : (i j l : ℕ) (d : Done Fig) → size (gives 𝒜 i j l d) ≤ size d.out
  gives_size i j l d = cond-size (leb i d.line.i && leb d.line.j j && eqb d.line.lowest l) d.out

  -- .. and what they give so far.
  pub outs-size : (B i j l : ℕ) (ds : List (Done Fig)) → AllLight 𝒜 𝒮 B ds → size (outcomes_at 𝒜 i j l ds) ≤ length ds * B
  outs-size B i j l [] a = rw (outs-nil 𝒜 i j l) (omega (arith, size-ι))
  outs-size B i j l (d ∷ ds) a =
      rw (outs-cons 𝒜 i j l d ds) (omega (arith, size-⊗ (gives 𝒜 i j l d) (outcomes_at 𝒜 i j l ds), gives_size i j l d, a.0, outs-size B i j l ds a.1))

  pub outs-many : (B i j l : ℕ) (ds : List (Done Fig)) → AllLight 𝒜 𝒮 B ds → length ds ≤ 128 → size (outcomes_at 𝒜 i j l ds) ≤ 128 * B
  outs-many B i j l ds a n = omega (arith, outs-size B i j l ds a, mul-le-mul {n₁ = length ds} {m₁ = B} {n₂ = 128} {m₂ = B} n (le_refl B))

  module _ (row : List (Summary Fig R)) where
    pub worked-length : (es : List Line) (ds : List (Done Fig)) → length (worked 𝒜 row es ds) ≡ length es + length ds
    worked-length [] ds = rw (worked-nil 𝒜 row ds) (omega arith)
    worked-length (e ∷ es) ds = rw (worked-cons 𝒜 row e es ds) (worked-length es (work 𝒜 row e ds ∷ ds) ∙ omega arith)

    -- The outcomes of later lines stand before those of earlier ones.
    light-before : (B : ℕ) (es : List Line) (ds : List (Done Fig)) → AllLight 𝒜 𝒮 B (worked 𝒜 row es ds) → AllLight 𝒜 𝒮 B ds
    light-before B [] ds a = subst (AllLight 𝒜 𝒮 B) (worked-nil 𝒜 row ds) a
    light-before B (e ∷ es) ds a = (light-before B es (work 𝒜 row e ds ∷ ds) (subst (AllLight 𝒜 𝒮 B) (worked-cons 𝒜 row e es ds) a)).1

  -- ---- the levels of a line

  level-costs : (k : ℕ) (d : List (R × Fig)) (v : Fig) (ls : List (Level 𝒜)) →
      costs 𝒮 (level_of 𝒜 (drop k d) v ++ ls) + weight_down 𝒜 𝒮 (drop (suc k) d) ≤ weight_down 𝒜 𝒮 (drop k d) + size v + costs 𝒮 ls
  level-costs zero [] v ls = omega arith
  level-costs (suc k) [] v ls = omega arith
  level-costs zero (e ∷ d) v ls = omega arith
  level-costs (suc k) (e ∷ d) v ls = level-costs k d v ls

  up_next : (k : ℕ) (u : List Fig) → weight_up 𝒜 𝒮 (take (suc k) u) ≡ weight_up 𝒜 𝒮 (take k u) + size (get_or u k ι)
  up_next zero [] = omega (arith, size-ι)
  up_next (suc k) [] = omega (arith, size-ι)
  up_next zero (y ∷ u) = omega arith
  up_next (suc k) (y ∷ u) = omega (arith, up_next k u)

  -- Each record and each left value is met once.
  costs-down : (p : ℕ) (u : List Fig) (m : Fig) (d : List (R × Fig)) (q : ℕ) (y : List Fig) (c : Fig) (z : List (R × Fig)) (lo n : ℕ) → q ≤ lo → lo + n ≤ p + length d →
      costs 𝒮 (levels_down 𝒜 p (hill u m d) q (hill y c z) lo n) ≤ weight_down 𝒜 𝒮 (drop (p + length d - (lo + n)) d) + weight_up 𝒜 𝒮 (take (lo + n - q) y)
  costs-down p u m d q y c z lo zero a b = rw (levels-none 𝒜 p (hill u m d) q (hill y c z) lo) (omega arith)
  costs-down p u m d q y c z lo (suc n) a b =
      let k : ℕ = p + length d - (lo + suc n) in
      let i : p + length d - suc (lo + n) ≡ k = omega arith in
      let j : p + length d - (lo + n) ≡ suc k = omega arith in
      let f : suc (lo + n) - suc q ≡ lo + n - q = omega arith in
      let g : lo + suc n - q ≡ suc (lo + n - q) = omega arith in
      let ih = costs-down p u m d q y c z lo n a (omega arith) in
      rw (levels-next 𝒜 p (hill u m d) q (hill y c z) lo n, i, f, g)
      (omega (arith, rw j at ih, level-costs k d (get_or y (lo + n - q) ι) (levels_down 𝒜 p (hill u m d) q (hill y c z) lo n), up_next (lo + n - q) y))

  drop-light : (k : ℕ) (d : List (R × Fig)) → weight_down 𝒜 𝒮 (drop k d) ≤ weight_down 𝒜 𝒮 d
  drop-light zero d = omega arith
  drop-light (suc k) [] = omega arith
  drop-light (suc k) (e ∷ d) = omega (arith, drop-light k d)

  take-light : (k : ℕ) (u : List Fig) → weight_up 𝒜 𝒮 (take k u) ≤ weight_up 𝒜 𝒮 u
  take-light zero u = omega arith
  take-light (suc k) [] = omega arith
  take-light (suc k) (y ∷ u) = omega (arith, take-light k u)

  -- So the levels of a line cost no more than its two hills weigh.
  costs-light : (p : ℕ) (g : Hill Fig R) (q : ℕ) (h : Hill Fig R) (lo n : ℕ) → q ≤ lo → lo + n ≤ p + fall g → costs 𝒮 (levels_down 𝒜 p g q h lo n) ≤ weight 𝒜 𝒮 g + weight 𝒜 𝒮 h
  costs-light p (hill u m d) q (hill y c z) lo n a b =
      omega (arith, costs-down p u m d q y c z lo n a b, drop-light (p + length d - (lo + n)) d, take-light (lo + n - q) y)

  -- ---- the hills of a row

  abbrev weights : List (Summary Fig R) → ℕ
  weights [] = 0
  weights (s ∷ row) = weight 𝒜 𝒮 (slopes_of 𝒜 s) + weights row

  weights-load : (row : List (Summary Fig R)) → ValidRow 𝒜 𝒮 row → weights row ≤ (load 𝒜 𝒮) row
  weights-load [] v = omega arith
  weights-load (blank ∷ row) v = omega (arith, weights-load row v.1, size-ι)
  weights-load (part (spoilt f s e o) ∷ row) v = omega (arith, weights-load row v.1, size-ι)
  weights-load (part (whole p o h) ∷ row) v = omega (arith, weights-load row v.1, v.0.light)

  weights-take : (k : ℕ) (row : List (Summary Fig R)) → weights (take k row) ≤ weights row
  weights-take zero row = omega arith
  weights-take (suc k) [] = omega arith
  weights-take (suc k) (s ∷ row) = omega (arith, weights-take k row)

  weights-mono : (a b : ℕ) (row : List (Summary Fig R)) → a ≤ b → weights (take a row) ≤ weights (take b row)
  weights-mono zero b row h = omega arith
  weights-mono (suc a) zero row h = absurd (omega arith)
  weights-mono (suc a) (suc b) [] h = omega arith
  weights-mono (suc a) (suc b) (s ∷ row) h = omega (arith, weights-mono a b row (omega arith))

  weights-drop : (k : ℕ) (row : List (Summary Fig R)) → weights (drop k row) ≤ weights row
  weights-drop zero row = omega arith
  weights-drop (suc k) [] = omega arith
  weights-drop (suc k) (s ∷ row) = omega (arith, weights-drop k row)

  weights-next : (k : ℕ) (row : List (Summary Fig R)) → weights (take (suc k) row) ≡ weights (take k row) + weight 𝒜 𝒮 (slopes_of 𝒜 (summary_at 𝒜 row k))
  weights-next zero [] = omega (arith, size-ι)
  weights-next (suc k) [] = omega (arith, size-ι)
  weights-next zero (s ∷ row) = omega arith
  weights-next (suc k) (s ∷ row) = omega (arith, weights-next k row)

  middle-weight : (g : Hill Fig R) → size (middle g) ≤ weight 𝒜 𝒮 g
  middle-weight (hill u m d) = omega arith

  middles-weight : (l : ℕ) (row : List (Summary Fig R)) → size (middles_at 𝒜 l row) ≤ weights row
  unfolding middles_at
  middles-weight l [] = omega (arith, size-ι)
  middles-weight l (s ∷ row) =
      let t : Bool = eqb (peak_of_summary 𝒜 s) l in
      omega (arith, size-⊗ (cond t (middle (slopes_of 𝒜 s)) ι) (middles_at 𝒜 l row), cond-size t (middle (slopes_of 𝒜 s)), middle-weight (slopes_of 𝒜 s), middles-weight l row)

  one-weight : (row : List (Summary Fig R)) → size (one_middle 𝒜 row) ≤ weights row
  one-weight [] = omega (arith, size-ι)
  one-weight (blank ∷ row) = omega (arith, one-weight row)
  one-weight (part a ∷ row) = omega (arith, middle-weight (slopes_of 𝒜 (part a)))

  module _ (row : List (Summary Fig R)) (v : ValidRow 𝒜 𝒮 row) where
    hill-light : (k : ℕ) → weights (take k row) + weight 𝒜 𝒮 (slopes_of 𝒜 (summary_at 𝒜 row k)) ≤ (load 𝒜 𝒮) row
    hill-light k = omega (arith, weights-next k row, weights-take (suc k) row, weights-load row v)

    -- For the loop over the middle values between two hills: each one, as it is taken or left, and those so far.
    pub middle-light : (k : ℕ) → size (middle (slopes_of 𝒜 (summary_at 𝒜 row k))) ≤ (load 𝒜 𝒮) row
    middle-light k = omega (arith, middle-weight (slopes_of 𝒜 (summary_at 𝒜 row k)), hill-light k)

    pub middles-light : (i j l : ℕ) → size (middles_at 𝒜 l (strictly_between 𝒜 row i j)) ≤ (load 𝒜 𝒮) row
    middles-light i j l =
        omega (arith, middles-weight l (strictly_between 𝒜 row i j), weights-drop (suc i) (take j row), weights-take j row, weights-load row v)

    -- The levels of a line: its two hills are different ones, so they add no more than all that the row opened.
    pub levels-light : (e : Line) → Spans 𝒜 row e → costs 𝒮 (run_levels 𝒜 row e) ≤ (load 𝒜 𝒮) row
    unfolding run_levels
    levels-light e s =
        omega (
          arith,
          costs-light (peak_of_summary 𝒜 (summary_at 𝒜 row e.i)) (slopes_of 𝒜 (summary_at 𝒜 row e.i)) (peak_of_summary 𝒜 (summary_at 𝒜 row e.j)) (slopes_of 𝒜 (summary_at 𝒜 row e.j))
              e.lowest (suc e.highest - e.lowest) s.close-from (omega (arith, s.open-to, s.some)),
          weights-next e.i row,
          weights-mono (suc e.i) e.j row s.before,
          hill-light e.j,
        )

    pub given-light : (e : Line) (ds : List (Done Fig)) → AllLight 𝒜 𝒮 (load 𝒜 𝒮 row) ds → length ds ≤ 128 → size (given 𝒜 row e ds) ≤ 129 * (load 𝒜 𝒮) row
    unfolding given
    given-light e ds a n =
        omega (
          arith,
          size-⊗ (middles_at 𝒜 (suc e.highest) (strictly_between 𝒜 row e.i e.j)) (outcomes_at 𝒜 e.i e.j (suc e.highest) ds),
          middles-light e.i e.j (suc e.highest),
          outs-many (load 𝒜 𝒮 row) e.i e.j (suc e.highest) ds a n,
        )

    -- ---- the hills merged, one after another

    module _ (ℒ : Laws 𝒜) where
      merged-fine : (n : ℕ) → FineHill 𝒜 𝒮 (merged 𝒜 (sides 𝒜 row) (empty 𝒜) n)
      unfolding merged
      merged-fine zero = tt
      merged-fine (suc n) = fine-merge 𝒜 𝒮 (merged 𝒜 (sides 𝒜 row) (empty 𝒜) n) (sides 𝒜 row n) (merged-fine n) (slopes-fine 𝒜 𝒮 row n v)

      merged-light : (n : ℕ) → weight 𝒜 𝒮 (merged 𝒜 (sides 𝒜 row) (empty 𝒜) n) ≤ weights (take n row)
      unfolding merged
      merged-light zero = omega (arith, size-ι)
      merged-light (suc n) =
          omega (arith, weight-merge 𝒜 𝒮 (merged 𝒜 (sides 𝒜 row) (empty 𝒜) n) (sides 𝒜 row n) (merged-fine n), merged-light n, weights-next n row)

      module _ (starts : Begins row) where
        abbrev before : ℕ → List (R × Fig)
        before n = stack 𝒜 (sides 𝒜 row) (floor 𝒜 row) (level 𝒜 row) n

        abbrev mid : ℕ → Fig
        mid n = centre 𝒜 (sides 𝒜 row) (floor 𝒜 row) (level 𝒜 row) n

        merged-is : (n : ℕ) → merged 𝒜 (sides 𝒜 row) (empty 𝒜) n ≡ hill [] (mid n) (before n)
        merged-is n = merged-stack 𝒜 (sides 𝒜 row) (floor 𝒜 row) (level 𝒜 row) ℒ (meeting 𝒜 row starts) n

        -- What a hill gets from closing levels weighs no more than the hills that went in.
        got-light : (n lo : ℕ) → floor 𝒜 row n ≤ lo → size (got 𝒜 row n lo) ≤ (load 𝒜 𝒮) row
        unfolding closed
        got-light n lo a = dite (dec_le lo (level 𝒜 row n)) some none
          where
            long : level 𝒜 row n ≡ 0 + length (before n)
            long = omega (arith, stack-length 𝒜 (sides 𝒜 row) (floor 𝒜 row) (level 𝒜 row) ℒ (meeting 𝒜 row starts) n)

            levels : List (Level 𝒜)
            levels = levels_down 𝒜 0 (hill [] ι (before n)) (floor 𝒜 row n) (sides 𝒜 row n) lo (level 𝒜 row n - lo)

            fine : AllFine 𝒜 𝒮 (before n)
            fine = subst (FineHill 𝒜 𝒮) (merged-is n) (merged-fine n)

            light : weight 𝒜 𝒮 (hill [] (mid n) (before n)) ≤ weights (take n row)
            light = subst (λ (g : Hill Fig R). weight 𝒜 𝒮 g ≤ weights (take n row)) (merged-is n) (merged-light n)

            run : lo ≤ level 𝒜 row n → through 𝒜 levels ι ≡ fold (closing 𝒜 (level 𝒜 row n) (before n) (floor 𝒜 row n) (sides 𝒜 row n)) lo (level 𝒜 row n - lo) ι
            run b =
                through-levels 𝒜 ℒ 0 (hill [] ι (before n)) (floor 𝒜 row n) (sides 𝒜 row n) lo (level 𝒜 row n - lo) ι (omega arith) (omega (arith, long))
                ∙ ap (λ (s : ℕ). fold (closing 𝒜 s (before n) (floor 𝒜 row n) (sides 𝒜 row n)) lo (level 𝒜 row n - lo) ι) (sym long)

            some : lo ≤ level 𝒜 row n → size (got 𝒜 row n lo) ≤ (load 𝒜 𝒮) row
            some b =
                rw (← run b)
                (omega (
                  arith,
                  size-through 𝒮 levels ι (levels_sound 𝒜 𝒮 Fine (λ r f. f) 0 (hill [] ι (before n)) (floor 𝒜 row n) (sides 𝒜 row n) lo (level 𝒜 row n - lo) fine),
                  costs-light 0 (hill [] ι (before n)) (floor 𝒜 row n) (sides 𝒜 row n) lo (level 𝒜 row n - lo) a (omega (arith, long)),
                  light,
                  hill-light n,
                  size-ι,
                ))

            none : (lo ≤ level 𝒜 row n → ⊥) → size (got 𝒜 row n lo) ≤ (load 𝒜 𝒮) row
            none b = let e : level 𝒜 row n - lo ≡ 0 = omega arith in rw (e, fold-zero _ lo ι) (omega (arith, size-ι))

        ok-light : (n : ℕ) (ds : List (Done Fig)) → Ok 𝒜 row n ds → AllLight 𝒜 𝒮 (load 𝒜 𝒮 row) ds
        ok-light n [] o = tt
        ok-light n (d ∷ ds) o = (rw o.3 (got-light d.line.j d.line.lowest o.2), ok-light n ds o.4)

      module _ (comm : Commutative 𝒜) (passes : row_fault row ≡ pass) where
        -- With a unit of at most 10^9, 130 times the load fits 64 bits many times over.
        pub load_fits : unit ≤ 1000000000 → load 𝒜 𝒮 row ≤ 100000000000000
        load_fits u = mul-le-mul {n₁ = unit} {m₁ = total_opened (parts_of row)} {n₂ = 1000000000} {m₂ = 100000} u (parts-few (parts_of row) passes)

        -- EACH OUTCOME of the plan weighs no more than all that the row opened: also with the later lines still to come.
        all-light : AllLight 𝒜 𝒮 (load 𝒜 𝒮 row) (worked 𝒜 row (plan_of_row row) [])
        all-light =
            rw (plan-row 𝒜 row)
            (ok-light (row-begins row passes) (length row) (done 𝒜 ℒ comm row (row-begins row passes) (length row)) (all-got 𝒜 ℒ comm row (row-begins row passes) (length row)))

        later-light : (es fs : List Line) → es ++ fs ≡ plan_of_row row → AllLight 𝒜 𝒮 (load 𝒜 𝒮 row) (worked 𝒜 row fs (worked 𝒜 row es []))
        later-light es fs k = subst (AllLight 𝒜 𝒮 (load 𝒜 𝒮 row)) (ap (λ (ls : List Line). worked 𝒜 row ls []) (sym k) ∙ worked-append 𝒜 row es fs []) all-light

        -- For the loop over the lines, at the line e after the lines es.
        pub line-light : (es fs : List Line) (e : Line) → es ++ (e ∷ fs) ≡ plan_of_row row → length es ≤ 128 → LineLight 𝒜 𝒮 row e (worked 𝒜 row es [])
        line-light es fs e k n = record {
          spans = spans;
          outs = outs.1;
          x-light = x-light;
          sound = run_sound 𝒜 𝒮 Fine (λ r f. f) row e v;
          run-light = omega (arith, x-light, levels-light e spans);
          out-light = outs.0;
        }
          where
            ds : List (Done Fig)
            ds = worked 𝒜 row es []

            spans : Spans 𝒜 row e
            spans = line-spans 𝒜 row e (subst (Memᴰ e) k (among es))
              where
                among : (es : List Line) → Memᴰ e (es ++ (e ∷ fs))
                among [] = Memᴰ.head refl
                among (d ∷ es) = Memᴰ.tail (among es)

            outs : AllLight 𝒜 𝒮 (load 𝒜 𝒮 row) (work 𝒜 row e ds ∷ ds)
            outs = light-before row (load 𝒜 𝒮 row) fs (work 𝒜 row e ds ∷ ds) (subst (AllLight 𝒜 𝒮 (load 𝒜 𝒮 row)) (worked-cons 𝒜 row e fs ds) (later-light es (e ∷ fs) k))

            x-light : size (given 𝒜 row e ds) ≤ 129 * (load 𝒜 𝒮) row
            x-light = given-light e ds outs.1 (omega (arith, n, worked-length row es []))
