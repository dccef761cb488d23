-- Levels and joins of a row that meets. Assumes nothing.
use Prim.Native.Nat.{ℕ, zero, suc, ◌≤◌, ◌<◌}
use Rattle.std.specs.Prelude.{◌≡◌}
use Rattle.std.proofs.Math.Path.{refl}
use Rattle.std.proofs.Math.Logic.{dite}
use Rattle.std.proofs.Math.Decide.{dec_le, le_ind}
use Rattle.std.proofs.Common.{arith}
use Rattle.join_plan.proofs.ScanExact.{open-here, open-earlier}
use Rattle.join_plan.specs.Plan.{Levels, blank, hill}
use Rattle.join_plan.specs.Joins.{Opens, Closes, Above, LeftOpen, Joins, after, level_at, Meets}

-- the depths that a chunk opens, closes or passes are an interval
opens-convex : (c : Levels) (a b d : ℕ) → Opens c a → Opens c b → a ≤ d → d ≤ b → Opens c d
opens-convex blank a b d x y h k = x
opens-convex (hill s p e) a b d x y h k = omega arith

closes-convex : (c : Levels) (a b d : ℕ) → Closes c a → Closes c b → a ≤ d → d ≤ b → Closes c d
closes-convex blank a b d x y h k = x
closes-convex (hill s p e) a b d x y h k = omega arith

above-less : (c : Levels) (b d : ℕ) → Above c b → d ≤ b → Above c d
above-less blank b d x h = x
above-less (hill s p e) b d x h = omega arith

-- a chunk that closes a record of depth d is not above it
pub closes-not-above : (c : Levels) (d : ℕ) → Closes c d → Above c d → ⊥
closes-not-above blank d o a = o
closes-not-above (hill s p e) d o a = omega arith

module _ (row : ℕ → Levels) where
  -- so are the depths of a join
  pub joins-convex : (i j a b d : ℕ) → Joins row i j a → Joins row i j b → a ≤ d → d ≤ b → Joins row i j d
  joins-convex i j a b d (x, u) (y, v) h k = (
    record { before = x.before; opens = opens-convex (row i) a b d x.opens y.opens h k; between = λ m p q. above-less (row m) b d (y.between m p q) k },
    closes-convex (row j) a b d u v h k,
  )

-- a record of depth d that is open before a chunk is open after it, or the chunk closes it; and so backwards
after-opens : (c : Levels) (d l : ℕ) → Opens c d → d < after c l
after-opens blank d l o = absurd o
after-opens (hill s p e) d l o = omega arith

after-above : (c : Levels) (d l : ℕ) → Meets c l → Above c d → d < l → d < after c l
after-above blank d l m a h = h
after-above (hill s p e) d l m a h = omega arith

module _ (row : ℕ → Levels) (n : ℕ) (meets : (k : ℕ) → k < n → Meets (row k) (level_at row k)) where
  -- what is open is below the level
  open-level : (i d j : ℕ) → j ≤ n → LeftOpen row i j d → d < level_at row j
  unfolding level_at
  open-level i d j b o = le_ind (λ j. j ≤ n → ((k : ℕ) → i < k → k < j → Above (row k) d) → d < level_at row j)
      (λ b f. after-opens (row i) d (level_at row i) o.opens)
      (λ j x ih b f. after-above (row j) d (level_at row j) (meets j b) (f j x (omega arith)) (ih (omega arith) (λ k u v. f k u (omega arith)))) j o.before b o.between

  -- so the chunk that falls to depth d closes it, whatever level it starts from
  closes-low : (c : Levels) (d l : ℕ) → Meets c l → (Above c d → ⊥) → d < l → Closes c d
  closes-low blank d l m a h = absurd (a tt)
  closes-low (hill s p e) d l m a h = dite (dec_le p d) (λ x. omega arith) (λ x. absurd (a (omega arith)))

  pub joins-of-low : (i j d : ℕ) → j < n → LeftOpen row i j d → (Above (row j) d → ⊥) → Joins row i j d
  joins-of-low i j d b o a = (o, closes-low (row j) d (level_at row j) (meets j b) a (open-level i d j (omega arith) o))

  -- each depth below the level is left open by some chunk
  pub opener : (j d : ℕ) → j ≤ n → d < level_at row j → (i : ℕ) × LeftOpen row i j d
  unfolding level_at
  opener zero d b h = absurd (omega arith)
  opener (suc j) d b h = go (row j) refl (meets j b) h (λ x. opener j d (omega arith) x)
    where
      more : Above (row j) d → (i : ℕ) × LeftOpen row i j d → (i : ℕ) × LeftOpen row i (suc j) d
      more a (i, o) = (i, (open-earlier row i j d o.before).1 (o, a))

      go : (c : Levels) → row j ≡ c → Meets c (level_at row j) → d < after c (level_at row j) → (d < level_at row j → (i : ℕ) × LeftOpen row i j d) → (i : ℕ) × LeftOpen row i (suc j) d
      go blank e m h ih = more (rw e tt) (ih h)
      go (hill s p t) e m h ih = dite (dec_le p d) (λ x. (j, (open-here row j d).1 (rw e (omega arith)))) (λ x. more (rw e (omega arith)) (ih (omega arith)))
