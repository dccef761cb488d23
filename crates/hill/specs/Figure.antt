-- The recursion's figure, read off the log. Definitions only; `held-figure` of HeldPlaces says it by places.
use Rattle.std.specs.Prelude.{cond, List, [], ◌∷◌, ℕ, suc, eqb, drop}
use Rattle.algebra.specs.Algebra.{Algebra}
use Rattle.hill.specs.Log.{Record, opening, closing}

module _ {R : Type 0} (𝒜 : Algebra R) where
  open 𝒜 use {Fig, ι, ◌⊗◌, node}

  infixl 70 ◌⊗◌
  -- The figures, combined in log order, of the records opened at depth d before the first close at depth d - 1, or to the end where none follows.
  -- So a record opened at depth d holds `held (suc d)` of what follows it.
  abbrev pub held : ℕ → List (Record R) → Fig
  held d [] = ι
  held d (opening c r ∷ xs) = cond (eqb c d) (node r (held (suc d) xs) ⊗ held d xs) (held d xs)
  held d (closing c ∷ xs) = cond (eqb (suc c) d) ι (held d xs)

  -- "The figure of the record it begins with."
  abbrev pub figure_of : List (Record R) → Fig
  figure_of [] = ι
  figure_of (opening d r ∷ xs) = node r (held (suc d) xs)
  figure_of (closing d ∷ xs) = ι

  -- The figure of the record opened at place p of a log.
  abbrev pub figure_at : List (Record R) → ℕ → Fig
  figure_at log p = figure_of (drop p log)

  -- Figures in log order, combined.
  abbrev pub combined : List Fig → Fig
  combined [] = ι
  combined (a ∷ rest) = a ⊗ combined rest
