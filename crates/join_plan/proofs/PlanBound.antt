-- The plan of a well-formed row of P ≥ 2 chunks has at most 2 P - 3 lines. Assumes nothing.
use Prim.Native.Nat.{ℕ, zero, suc, ◌+◌, ◌-◌, ◌*◌, ◌≤◌, ◌<◌, min, max}
use Rattle.std.specs.Prelude.{◌≡◌, List}
use Rattle.std.proofs.Math.Path.{refl, ap}
use Rattle.std.proofs.Math.Logic.{dite}
use Rattle.std.proofs.Math.Decide.{dec_lt, dec_le}
use native.Mathlib.Omega.{arith}
use Rattle.std.proofs.Math.ListN.{length, length-append}
use Rattle.join_plan.specs.Plan.{Levels, blank, hill, row_of, plan_of, joins}
use Rattle.join_plan.specs.Scan.{line_if, line_of, passed, walk, lines_to, plan, scan_of}
use Rattle.join_plan.proofs.PlanExact.{plan_of-scan}
use Rattle.join_plan.specs.Joins.{level_at, after, WellFormed, Meets}

-- the number of lines of a chunk, 0 or 1, written so that `omega` reads it
size : (c : Levels) (p m : ℕ) → ℕ
size blank p m = 0
size (hill s q e) p m = min 1 (min e m - max q p)

line_of-size : (c : Levels) (i j p m : ℕ) → length (line_of c i j p m) ≡ size c p m
unfolding size line_of line_if
line_of-size blank i j p m = refl
line_of-size (hill s q e) i j p m = go (dec_lt (max q p) (min e m))
  where
    go : (t : Dec (max q p < min e m)) → length (line_if i j (max q p) (min e m) t) ≡ min 1 (min e m - max q p)
    go (yes h) = omega arith
    go (no h) = omega arith

size-one : (c : Levels) (p m : ℕ) → size c p m ≤ 1
unfolding size
size-one blank p m = omega arith
size-one (hill s q e) p m = omega arith

size_none : (s q e p m : ℕ) → m ≤ max q p → size (hill s q e) p m ≡ 0
unfolding size
size_none s q e p m a = omega arith

size-more : (c : Levels) (p m : ℕ) → size c p m ≤ size c 0 m
unfolding size
size-more blank p m = omega arith
size-more (hill s q e) p m = less (max q p) (max q 0) (min e m) (omega arith)
  where
    less : (a b t : ℕ) → b ≤ a → min 1 (t - a) ≤ min 1 (t - b)
    less a b t h = omega arith

module _ (row : ℕ → Levels) where
  -- how many of the first n chunks have a record open whose depth is from p to below m
  count : (p m n : ℕ) → ℕ
  count p m zero = 0
  count p m (suc n) = size (row n) p m + count p (passed (row n) m) n

  walk-count : (j p m n : ℕ) → length (walk row j p m n) ≡ count p m n
  unfolding count walk
  walk-count j p m zero = refl
  walk-count j p m (suc n) = omega (arith, length-append (line_of (row n) n j p m) (walk row j p (passed (row n) m) n), line_of-size (row n) n j p m, walk-count j p (passed (row n) m) n)

  -- none below a bound that is not above p
  count_none : (p m n : ℕ) → m ≤ p → count p m n ≡ 0
  unfolding count passed size
  count_none p m zero h = refl
  count_none p m (suc n) h = go (row n) (λ m h. count_none p m n h)
    where
      go : (c : Levels) → ((m : ℕ) → m ≤ p → count p m n ≡ 0) → size c p m + count p (passed c m) n ≡ 0
      go blank ih = omega (arith, ih m h)
      go (hill s q e) ih = omega (arith, ih (min q m) (omega arith), size_none s q e p m (omega arith))

  -- at most one chunk has records on both sides of p
  count-split : (p m n : ℕ) → p ≤ m → count p m n + count 0 p n ≤ count 0 m n + 1
  unfolding count passed size
  count-split p m zero h = omega arith
  count-split p m (suc n) h = go (row n) (λ m h. count-split p m n h)
    where
      go : (c : Levels) → ((m : ℕ) → p ≤ m → count p m n + count 0 p n ≤ count 0 m n + 1) →
          size c p m + count p (passed c m) n + (size c 0 p + count 0 (passed c p) n) ≤ size c 0 m + count 0 (passed c m) n + 1
      go blank ih = omega (arith, ih m h)
      go (hill s q e) ih = dite (dec_lt q p)
          (λ x. omega (arith, count_none p (min q m) n (omega arith), ap (λ v. count 0 v n) (same x), size-more (hill s q e) p m, size-one (hill s q e) 0 p))
          (λ x. omega (arith, ih (min q m) (omega arith), ap (λ v. count 0 v n) (kept x), size-more (hill s q e) p m, size_none s q e 0 p (omega arith)))
        where
          same : q < p → min q p ≡ min q m
          same x = omega arith

          kept : ¬ (q < p) → min q p ≡ p
          kept x = omega arith

  -- the lines of the first n chunks, and how many of these have a record open
  total : ℕ → ℕ
  total n = length (plan row n)

  visible : ℕ → ℕ
  visible n = count 0 (level_at row n) n

  total-suc : (n : ℕ) → total (suc n) ≡ total n + length (lines_to row (row n) n)
  unfolding total plan
  total-suc n = length-append (plan row n) (lines_to row (row n) n)

  -- a chunk adds two at most
  chunk-adds : (c : Levels) (n : ℕ) → Meets c (level_at row n) →
      length (lines_to row c n) + (size c 0 (after c (level_at row n)) + count 0 (passed c (after c (level_at row n))) n) ≤ visible n + 2
  unfolding lines_to size passed visible
  chunk-adds blank n h = omega arith
  chunk-adds (hill s p e) n h =
      omega (arith, walk-count n p s n, size-one (hill s p e) 0 e, count-split p s n h.1, ap (λ v. count 0 v n) h.0, ap (λ v. count 0 v n) at-peak)
    where
      at-peak : min p e ≡ p
      at-peak = omega arith

  -- the first chunk has no line
  first-none : total 1 ≡ 0
  unfolding total plan lines_to walk
  first-none = go (row 0)
    where
      go : (c : Levels) → length (lines_to row c 0) ≡ 0
      go blank = refl
      go (hill s p e) = refl

  grows : (n : ℕ) → ((k : ℕ) → k < n → Meets (row k) (level_at row k)) → total n + visible n ≤ 2 * n - 1
  unfolding total visible plan count level_at
  grows zero h = omega arith
  grows (suc zero) h = omega (arith, first-none, size-one (row 0) 0 (level_at row 1))
  grows (suc (suc n)) h = omega (arith, grows (suc n) (λ k b. h k (omega arith)), total-suc (suc n), chunk-adds (row (suc n)) (suc n) (h (suc n) (omega arith)))

  -- the last hill adds none: its lines are those of the chunks that have a record open
  bound : (n : ℕ) → ((k : ℕ) → k < n → Meets (row k) (level_at row k)) → level_at row n ≡ 0 → 2 ≤ n → total n + 3 ≤ 2 * n
  unfolding lines_to visible level_at
  bound zero m e h = absurd (omega arith)
  bound (suc zero) m e h = absurd (omega arith)
  bound (suc (suc n)) m e h =
      omega (arith, total-suc (suc n), go (row (suc n)) (m (suc n) (omega arith)) e (λ e h. bound (suc n) earlier e h))
    where
      earlier : (k : ℕ) → k < suc n → Meets (row k) (level_at row k)
      earlier k b = m k (omega arith)

      only : ¬ (2 ≤ suc n) → total (suc n) ≡ 0
      only h = let z : n ≡ 0 = omega arith in rw z first-none

      go : (c : Levels) → Meets c (level_at row (suc n)) → after c (level_at row (suc n)) ≡ 0 → (level_at row (suc n) ≡ 0 → 2 ≤ suc n → total (suc n) + 3 ≤ 2 * suc n) →
          total (suc n) + length (lines_to row c (suc n)) + 3 ≤ 2 * suc (suc n)
      go blank m e ih = dite (dec_le 2 (suc n)) (λ h. omega (arith, ih e h)) (λ h. omega (arith, only h))
      go (hill s p t) m e ih =
          omega (arith, walk-count (suc n) p s (suc n), ap (λ v. count v s (suc n)) low, ap (λ v. count 0 v (suc n)) m.0, grows (suc n) earlier)
        where
          low : p ≡ 0
          low = omega arith

-- THE BOUND
pub plan_of-bound : (row : List Levels) → WellFormed (row_of row) (length row) → 2 ≤ length row → joins (plan_of row) + 3 ≤ 2 * length row
unfolding scan_of total
plan_of-bound row w h = rw (plan_of-scan row) (bound (row_of row) (length row) w.meets w.ends h)
