-- The levels that a plan folds, from the levels of a row that meets. Assumes nothing.
use Prim.Native.Nat.{ℕ, zero, suc, ◌+◌, ◌-◌, ◌≤◌, ◌<◌, min, max}
use Rattle.std.specs.Prelude.{◌≡◌, List, [], ◌∷◌, ◌++◌, length}
use Rattle.std.proofs.Math.Path.{refl}
use Rattle.std.proofs.Common.{◌∙◌}
use Rattle.std.proofs.Math.Decide.{dec_lt}
use native.Mathlib.Omega.{arith}
use Rattle.join_plan.specs.Plan.{Levels, blank, hill, Line, row_of, plan_of, folded}
use Rattle.join_plan.specs.Scan.{line_if, line_of, passed, walk, lines_to, plan, scan_of}
use Rattle.join_plan.proofs.PlanExact.{plan_of-scan}
use Rattle.join_plan.specs.Joins.{after, level_at, Meets}

folded-append : (a b : List Line) → folded (a ++ b) ≡ folded a + folded b
unfolding folded
folded-append [] b = omega arith
folded-append (l ∷ a) b = omega (arith, folded-append a b)

line_of-folded : (s q e i j p m : ℕ) → folded (line_of (hill s q e) i j p m) ≡ min e m - max q p
unfolding folded line_of line_if
line_of-folded s q e i j p m = go (dec_lt (max q p) (min e m))
  where
    go : (t : Dec (max q p < min e m)) → folded (line_if i j (max q p) (min e m) t) ≡ min e m - max q p
    go (yes h) = omega arith
    go (no h) = omega arith

-- how far a chunk falls below its start: so many records it closes that it did not open
unfoldable pub falls : Levels → ℕ
falls blank = 0
falls (hill start peak end) = start - peak

unfoldable pub falls_of : (ℕ → Levels) → ℕ → ℕ
falls_of row zero = 0
falls_of row (suc n) = falls_of row n + falls (row n)

module _ (row : ℕ → Levels) where
  -- each depth from p to below m is in one line
  walk-folded : (n : ℕ) → ((k : ℕ) → k < n → Meets (row k) (level_at row k)) → (j p m : ℕ) → m ≤ level_at row n → folded (walk row j p m n) ≡ m - p
  unfolding folded walk level_at passed line_of
  walk-folded zero h j p m b = omega arith
  walk-folded (suc n) h j p m b =
      folded-append (line_of (row n) n j p m) (walk row j p (passed (row n) m) n) ∙ go (row n) (h n (omega arith)) b (walk-folded n (λ k x. h k (omega arith)) j p)
    where
      go : (c : Levels) → Meets c (level_at row n) → m ≤ after c (level_at row n) → ((m : ℕ) → m ≤ level_at row n → folded (walk row j p m n) ≡ m - p) →
          folded (line_of c n j p m) + folded (walk row j p (passed c m) n) ≡ m - p
      go blank x b ih = omega (arith, ih m b)
      go (hill s q e) x b ih = omega (arith, line_of-folded s q e n j p m, ih (min q m) (omega arith))

  lines_to-folded : (c : Levels) (n : ℕ) → ((k : ℕ) → k < n → Meets (row k) (level_at row k)) → Meets c (level_at row n) → folded (lines_to row c n) ≡ falls c
  unfolding lines_to folded falls
  lines_to-folded blank n h x = refl
  lines_to-folded (hill s p e) n h x = walk-folded n h n p s (omega arith)

  plan-folded : (n : ℕ) → ((k : ℕ) → k < n → Meets (row k) (level_at row k)) → folded (plan row n) ≡ falls_of row n
  unfolding plan folded falls_of
  plan-folded zero h = refl
  plan-folded (suc n) h =
      omega (arith, folded-append (plan row n) (lines_to row (row n) n), plan-folded n (λ k x. h k (omega arith)), lines_to-folded (row n) n (λ k x. h k (omega arith)) (h n (omega arith)))

-- the levels folded along a plan: each chunk folds what it falls
pub plan_of-folded : (row : List Levels) → ((k : ℕ) → k < length row → Meets (row_of row k) (level_at (row_of row) k)) → folded (plan_of row) ≡ falls_of (row_of row) (length row)
unfolding scan_of
plan_of-folded row h = rw (plan_of-scan row) (plan-folded (row_of row) (length row) h)
