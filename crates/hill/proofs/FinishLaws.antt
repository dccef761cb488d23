-- Finishing the summary of a log: the recursion's figure, or the log's lowest-numbered fault. Assumes nothing.
use Rattle.std.specs.Prelude.{◌≡◌, refl, List, [], ◌∷◌}
use Rattle.std.proofs.Common.{ap, sym, ◌∙◌}
use Rattle.algebra.specs.Algebra.{Algebra, Laws}
use Rattle.hill.specs.Verdict.{Verdict, pass, refuse, low, ends}
use Rattle.hill.proofs.VerdictLaws.{low-fst}
use Rattle.hill.specs.Log.{Record, start_level, end_of, fault_of, log_fault}
use Rattle.hill.specs.Tree.{Forest, value}
use Rattle.hill.specs.Figure.{figure_of}
use Rattle.hill.specs.Summary.{Hill, hill, middle, start, end, verdict, part_of, summary_of, slopes}
use Rattle.hill.specs.Finish.{outcome, finish_of}
use Rattle.hill.specs.Building.{hill_of}
use Rattle.hill.proofs.Map.{map_hill, map-hill_of}
use Rattle.hill.proofs.TreeLaws.{free, value-hom}
use Rattle.hill.proofs.Spell.{tree_of}
use Rattle.hill.proofs.FigureLaws.{figure-tree}
use Rattle.hill.proofs.SummaryLaws.{part_of-built, verdict-part_of, levels}

pub outcome-same : {A : Type 0} (v : Verdict) (a b : A) → (v ≡ pass → a ≡ b) → outcome v a ≡ outcome v b
outcome-same pass a b k = rw (k refl)
outcome-same (refuse n) a b k = refl

module _ {R : Type 0} (𝒜 : Algebra R) (ℒ : Laws 𝒜) where
  middle-map : (a : Hill (Forest R) R) → middle (map_hill (value 𝒜) a) ≡ value 𝒜 (middle a)
  middle-map (hill u m d) = refl

  middle-hill_of : (log : List (Record R)) → middle (hill_of 𝒜 log) ≡ value 𝒜 (tree_of log)
  middle-hill_of log = rw (← map-hill_of (free R) 𝒜 (value-hom 𝒜 ℒ) log) (middle-map (hill_of (free R) log))

  -- Questions 7 to 9 are answered by the summary's fault, and 11 by its levels.
  faults-same : (x : Record R) (xs : List (Record R)) → low (verdict (part_of 𝒜 x xs)) (ends (start (part_of 𝒜 x xs)) (end (part_of 𝒜 x xs))) ≡ log_fault (x ∷ xs)
  faults-same x xs = rw (verdict-part_of 𝒜 x xs, (levels 𝒜 ℒ x xs).0, (levels 𝒜 ℒ x xs).1)

  middle-same : (x : Record R) (xs : List (Record R)) → log_fault (x ∷ xs) ≡ pass → middle (slopes 𝒜 (part_of 𝒜 x xs)) ≡ figure_of 𝒜 (x ∷ xs)
  middle-same x xs v =
      rw (part_of-built 𝒜 ℒ x xs, low-fst (fault_of x xs) (ends (start_level x) (end_of x xs)) v) (middle-hill_of (x ∷ xs) ∙ sym (figure-tree 𝒜 ℒ (x ∷ xs) v))

  -- FINISH: the figure of the record that the log begins with, or the log's lowest-numbered fault.
  pub finish-log : (log : List (Record R)) → finish_of 𝒜 (summary_of 𝒜 log) ≡ outcome (log_fault log) (figure_of 𝒜 log)
  finish-log [] = refl
  finish-log (x ∷ xs) =
      ap (λ v. outcome v (middle (slopes 𝒜 (part_of 𝒜 x xs)))) (faults-same x xs) ∙
      outcome-same (log_fault (x ∷ xs)) (middle (slopes 𝒜 (part_of 𝒜 x xs))) (figure_of 𝒜 (x ∷ xs)) (middle-same x xs)
