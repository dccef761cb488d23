-- The scan for one chunk may stop where no depth is left, so a loop may. Assumes nothing.
use Prim.Native.Nat.{ℕ, zero, suc, ◌≤◌, ◌<◌, min, max}
use Rattle.std.specs.Prelude.{◌≡◌}
use Rattle.std.proofs.Math.Path.{refl}
use mathlib.Core.List.{[], ◌++◌}
use Rattle.std.proofs.Math.Decide.{dec_lt}
use Rattle.std.proofs.Common.{arith}
use Rattle.join_plan.specs.Plan.{Levels, blank, hill}
use Rattle.join_plan.specs.Scan.{line_if, line_of, passed, walk}

module _ (row : ℕ → Levels) where
  pub walk-stop : (j p m n : ℕ) → m ≤ p → walk row j p m n ≡ []
  unfolding walk line_of line_if passed
  walk-stop j p m zero h = refl
  walk-stop j p m (suc n) h = go (row n) (λ m h. walk-stop j p m n h)
    where
      go : (c : Levels) → ((m : ℕ) → m ≤ p → walk row j p m n ≡ []) → line_of c n j p m ++ walk row j p (passed c m) n ≡ []
      go blank ih = ih m h
      go (hill s q e) ih = none (dec_lt (max q p) (min e m))
        where
          none : (t : Dec (max q p < min e m)) → line_if n j (max q p) (min e m) t ++ walk row j p (min q m) n ≡ []
          none (yes y) = absurd (omega arith)
          none (no y) = ih (min q m) (omega arith)
