-- The records open at a place, deepest first: how a pass over the log comes by them, and that those down to the first heaviest end are the line. Assumes nothing.
use Rattle.std.specs.Prelude.{◌≡◌, ℕ, suc, ◌<◌, ℤ, length, ◌≤ℤ◌, ◌<ℤ◌}
use mathlib.Core.List.{List, [], ◌∷◌}
use Rattle.modes.specs.FourModes.{Amounts}
use Rattle.hill.specs.Log.{Record, closing, depth, start_level}
use Rattle.hill.specs.Closing.{at, OpensAt}
use Rattle.log_records.specs.Claims.{sum_of}

-- A stack, deepest first, turned round: from the root down, and then `below`.
abbrev pub unwind : (ps below : List ℕ) → List ℕ
unwind [] below = below
unwind (p ∷ ps) below = unwind ps (p ∷ below)

module _ {R : Type 0} (xs : List (Record R)) where
  -- The record opened at p, of depth d, is open before place k: what stands between is deeper.
  pub record OpenBefore (k p d : ℕ) : Type 0 where
    pub opens : OpensAt xs p d
    pub before : p < k
    pub deeper : (j : ℕ) → p < j → j < k → d < depth (at xs j)

  -- The records open before place k, deepest first.
  abbrev pub OpenStack : (k : ℕ) (ps : List ℕ) → Type 0
  OpenStack k [] = Unit {0}
  OpenStack k (p ∷ ps) = OpenBefore k p (length ps) × OpenStack p ps

  -- ---- a pass over the log

  -- The stack before place k, which is as high as the level there.
  pub record StackBefore (k : ℕ) (ps : List ℕ) : Type 0 where
    pub open-records : OpenStack k ps
    pub level : k < length xs → start_level (at xs k) ≡ length ps

  -- ---- what holds nothing is closed at once

  pub record Leaf (p d : ℕ) : Type 0 where
    pub opens : OpensAt xs p d
    pub closes : at xs (suc p) ≡ closing d
    pub inside : suc p < length xs

module _ (xs : List (Record Amounts)) where
  -- The values down to the end r, beside those down to the end q, which add to s: not heavier, and lighter if r comes before.
  pub record Lighter (r q : ℕ) (s : ℤ) : Type 0 where
    pub stack : List ℕ
    pub stands : OpenStack xs r stack
    pub opens : OpensAt xs r (length stack)
    pub most : sum_of xs (r ∷ stack) ≤ℤ s
    pub before : r < q → sum_of xs (r ∷ stack) <ℤ s
