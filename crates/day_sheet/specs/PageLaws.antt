-- The lines of a log by their records: each tells of its own record, whose figure is that of its subtree as a log of its own. And the pages. Assumes nothing.
use Rattle.std.specs.Prelude.{ℤ}
use mathlib.Core.List.{List}
use Prim.Native.Nat.{ℕ}
use Rattle.std.proofs.Math.ListN.{drop}
use Rattle.modes.specs.FourModes.{Amounts}
use Rattle.hill.specs.Log.{Record}
use Rattle.chunk.specs.Chunk.{figure_in}

module _ (mode : ℕ) where
  -- The figure that is printed of the record opened at p.
  abbrev pub printed : List (Record Amounts) → (p : ℕ) → ℤ
  printed xs p = figure_in mode (drop p xs)
