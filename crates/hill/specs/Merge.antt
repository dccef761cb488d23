-- Merging two summaries, in the words of "Summaries". Definitions only.
use Rattle.std.specs.Prelude.{List, [], ◌∷◌, ◌++◌, reverse, ◌+◌, min}
use Rattle.algebra.specs.Algebra.{Algebra}
use Rattle.hill.specs.Verdict.{Verdict, low, joint, count}
use Rattle.hill.specs.Summary.{Hill, hill, lefts, middle, rights, Part, Summary, blank, part, start, end, opened, verdict, peak, slopes, judged}

module _ {R : Type 0} (𝒜 : Algebra R) where
  open 𝒜 use {Fig, ι, ◌⊗◌, node}

  infixl 70 ◌⊗◌
  -- "It closes, deepest first, each unclosed record of the left that the right closes: its held figures so far, what came from deeper and the right's
  -- value at that level are combined, go through the record, and the outcome joins the level below."
  -- es: the left's records that are still unclosed; vs: the right's left values that are still to come, the deepest first; x: what came from deeper.
  -- Where the left has none left to close and the right goes on, the right's peak is lower: its further values are left values of the whole.
  abbrev pub fill_valley : (a b : Hill Fig R) → List (R × Fig) → List Fig → Fig → Hill Fig R
  fill_valley a b (e ∷ es) (v ∷ vs) x = fill_valley a b es vs (node e.0 (e.1 ⊗ x ⊗ v))
  fill_valley a b (e ∷ es) [] x = hill (lefts a) (middle a) (rights b ++ ((e.0, e.1 ⊗ x ⊗ middle b) ∷ es))
  fill_valley a b [] [] x = hill (lefts a) (middle a ⊗ x ⊗ middle b) (rights b)
  fill_valley a b [] (v ∷ vs) x = hill (reverse vs ++ (middle a ⊗ x ⊗ v ∷ lefts a)) (middle b) (rights b)

  abbrev pub merge_hills : Hill Fig R → Hill Fig R → Hill Fig R
  merge_hills a b = fill_valley a b (rights a) (reverse (lefts b)) ι

  -- "If one is spoilt or the join has fault 7, 8 or 9, the result is spoilt: the lowest of these faults, the left's start, the right's end,
  -- opened added and cut to 100,001."
  abbrev pub merge_verdict : Part Fig R → Part Fig R → Verdict
  merge_verdict a b = low (verdict a) (low (verdict b) (low (joint (end a) (start b)) (count (opened a + opened b))))

  abbrev pub merge_part : Part Fig R → Part Fig R → Part Fig R
  merge_part a b = judged (merge_verdict a b) (start a) (end b) (opened a + opened b) (min (peak 𝒜 a) (peak 𝒜 b)) (merge_hills (slopes 𝒜 a) (slopes 𝒜 b))

  -- "A blank adds nothing."
  abbrev pub merge_summary : Summary Fig R → Summary Fig R → Summary Fig R
  merge_summary blank b = b
  merge_summary (part a) blank = part a
  merge_summary (part a) (part b) = part (merge_part a b)
