-- What bytes say as a summary in mode m, whether they are one or not. Definitions only.
use Rattle.std.specs.Prelude.{cond, List, [], ◌∷◌, ℕ, zero, suc, eqb, ℤ}
use Rattle.modes.specs.FourModes.{Amounts}
use Rattle.figure.specs.Mode.{mode_of}
use Rattle.hill.specs.Summary.{Hill, hill, Summary, blank, part, spoilt, whole}
use Rattle.summary.specs.Judge.{kind_at, fault_at, spoilt_start_at, peak_at, end_at, opened_at, rise_at, fall_at, left_at, middle_at, value_at, floor_at, ceiling_at, held_at}
use Rattle.summary.specs.Layout.{SummaryIn}

abbrev pub amounts_at : List ℕ → ℕ → Amounts
amounts_at b j = record { value = value_at b j; floor = floor_at b j; ceiling = ceiling_at b j }

-- How a mode reads its figures.
module _ {Fig : Type 0} (read : ℤ → Fig) (b : List ℕ) where
  -- The first n left values, the last of them first; the first n unclosed records, the deepest first.
  abbrev pub lefts_in : ℕ → List Fig
  lefts_in zero = []
  lefts_in (suc n) = read (left_at b n) ∷ lefts_in n

  abbrev pub rights_in : ℕ → List (Amounts × Fig)
  rights_in zero = []
  rights_in (suc n) = (amounts_at b n, read (held_at b n)) ∷ rights_in n

  abbrev pub hill_in : Hill Fig Amounts
  hill_in = hill (lefts_in (rise_at b)) (read (middle_at b)) (rights_in (fall_at b))

  abbrev pub reading : Summary Fig Amounts
  reading =
      cond (eqb (kind_at b) 16) blank
      (cond (eqb (kind_at b) 17) (part (spoilt (fault_at b) (spoilt_start_at b) (end_at b) (opened_at b))) (part (whole (peak_at b) (opened_at b) hill_in)))

unfoldable pub decode : (m : ℕ) → List ℕ → SummaryIn m
decode m b = reading (mode_of m).read b
