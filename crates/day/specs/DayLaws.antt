-- The day's figures are the recursion's: demand 2 for the bytes of a whole log. Assumes nothing.
use Rattle.std.specs.Prelude.{◌≡◌, refl, List, ℕ, ◌≤◌, ◌<◌, length}
use Rattle.std.proofs.Common.{ap, ◌∙◌, arith}
use Rattle.gate.specs.Outcome.{refused, granted}
use Rattle.record.specs.Record.{records_of}
use Rattle.record.specs.declared.Fields.{Fields}
use Rattle.modes.specs.FourModes.{Amounts}
use Rattle.figure.specs.Mode.{mode_of}
use Rattle.hill.specs.Verdict.{Verdict, pass, refuse}
use Rattle.hill.specs.Log.{Record, log_fault}
use Rattle.hill.specs.Questions.{NoOfLog}
use Rattle.hill.proofs.Faults.{lowest-log}
use Rattle.hill.specs.Tree.{Forest, nil, tree, write, value}
use Rattle.hill.proofs.FigureLaws.{log-tree}
use Rattle.hill.specs.Finish.{outcome}
use Rattle.chunk.specs.Chunk.{chunk_of, figure_in}
use Rattle.chunk.proofs.Laws.{too_long as log-too-long, readable as log-readable}
use Rattle.outcome.specs.Day.{figures_of, day_outcome}

-- ---- by questions

-- 2
pub too_long : (log : List ℕ) → 65_536 < length log → day_outcome log ≡ refused 2
unfolding day_outcome
too_long log h = log-too-long figures_of log h

-- 7 to 11, and then the figures
pub readable : (log : List ℕ) → length log ≤ 65_536 → (fs : List Fields) → records_of log ≡ granted fs → day_outcome log ≡ outcome (log_fault (chunk_of fs)) (figures_of (chunk_of fs))
unfolding day_outcome
readable log short fs e = log-readable figures_of log short fs e

-- ---- the recursion

-- The one tree of a log, and its figure in every mode.
pub record DayTree (xs : List (Record Amounts)) : Type 0 where
  pub root : Amounts
  pub below : Forest Amounts
  pub traversal : write 0 (tree root below nil) ≡ xs
  pub only : (f : Forest Amounts) → write 0 f ≡ xs → f ≡ tree root below nil
  pub figures : (m : ℕ) → figure_in m xs ≡ (mode_of m).store (value (mode_of m).algebra (tree root below nil))

pub day-tree : (xs : List (Record Amounts)) → log_fault xs ≡ pass → DayTree xs
unfolding figure_in
day-tree xs v =
    let t = log-tree (mode_of 1).algebra (mode_of 1).laws xs v in
    record {
      root = t.root;
      below = t.below;
      traversal = t.traversal;
      only = t.only;
      figures = λ m.
          let u = log-tree (mode_of m).algebra (mode_of m).laws xs v in
          ap (mode_of m).store (u.its-figure ∙ ap (value (mode_of m).algebra) (t.only (tree u.root u.below nil) u.traversal));
    }

-- DEMAND 2 for a log of readable records: where no question of 7 to 11 gets a "no", its four figures are those of its one tree; else the
-- call is refused with the lowest of them.
pub record Demand2 (log : List ℕ) (xs : List (Record Amounts)) : Type 0 where
  pub figures : ((n : ℕ) → NoOfLog xs n → ⊥) → (day_outcome log ≡ granted (figures_of xs)) × DayTree xs
  pub fault : (n : ℕ) → NoOfLog xs n → ((m : ℕ) → NoOfLog xs m → n ≤ m) → day_outcome log ≡ refused n

pub demand-2 : (log : List ℕ) (fs : List Fields) → length log ≤ 65_536 → records_of log ≡ granted fs → Demand2 log (chunk_of fs)
demand-2 log fs short e = go (log_fault (chunk_of fs)) refl
  where
    go : (v : Verdict) → log_fault (chunk_of fs) ≡ v → Demand2 log (chunk_of fs)
    go pass p = record {
      figures = λ _. (readable log short fs e ∙ ap (λ v. outcome v (figures_of (chunk_of fs))) p, day-tree (chunk_of fs) p);
      fault = λ n x _. absurd ((lowest-log (chunk_of fs)).none p n x);
    }
    go (refuse k) p = record {
      figures = λ all. absurd (all k ((lowest-log (chunk_of fs)).least k p).0);
      fault = λ n x least. readable log short fs e ∙ ap (λ v. outcome v (figures_of (chunk_of fs))) (p ∙ ap refuse (same n x least));
    }
      where
        same : (n : ℕ) → NoOfLog (chunk_of fs) n → ((m : ℕ) → NoOfLog (chunk_of fs) m → n ≤ m) → k ≡ n
        same n x least =
            let a = ((lowest-log (chunk_of fs)).least k p).1 n x in
            let b = least k ((lowest-log (chunk_of fs)).least k p).0 in
            omega arith
