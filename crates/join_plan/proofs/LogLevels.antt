-- The levels of the chunks of a log with no fault. Assumes nothing.
use Rattle.std.specs.Prelude.{ℕ, ◌≡◌, refl, List, [], ◌∷◌, map, get_or}
use Rattle.std.proofs.Common.{sym, ap, ◌∙◌}
use Rattle.algebra.specs.Algebra.{Algebra, Laws}
use Rattle.hill.specs.Verdict.{Verdict, pass, ends}
use Rattle.hill.proofs.VerdictLaws.{refuse-pass, low-fst}
use Rattle.hill.specs.Log.{Record, start_level, end_of, peak_of, fault_of, log_fault}
use Rattle.hill.specs.Summary.{Part, blank as blankSummary, part, spoilt, whole, verdict, start, end, part_of, summary_of, peak}
use Rattle.hill.specs.Merge.{merge_summary}
use Rattle.hill.proofs.SummaryLaws.{verdict-part_of, levels}
use Rattle.hill.specs.Row.{joined}
use Rattle.hill.proofs.RowLaws.{in_order, merge_row-in_order, merge_row-summaries}
use Rattle.join_plan.specs.Plan.{Levels, blank, hill, levels_of_summary}
use Rattle.join_plan.specs.Gate.{summary_fault}
use Rattle.join_plan.proofs.Gate.{fault-parts}

module _ {R : Type 0} where
  -- the levels of a chunk: where its first record starts, the lowest that it reaches, and where its last record ends
  abbrev pub levels_of : List (Record R) → Levels
  levels_of [] = blank
  levels_of (x ∷ xs) = hill (start_level x) (peak_of x xs) (end_of x xs)

  -- the row of a cut log
  abbrev pub row_of_chunks : List (List (Record R)) → ℕ → Levels
  row_of_chunks cs k = levels_of (get_or cs k [])

  -- the fault of a chunk
  abbrev pub chunk_fault : List (Record R) → Verdict
  chunk_fault [] = pass
  chunk_fault (x ∷ xs) = fault_of x xs

  pub log-quiet : (log : List (Record R)) → log_fault log ≡ pass → chunk_fault log ≡ pass
  log-quiet [] v = refl
  log-quiet (x ∷ xs) v = low-fst (fault_of x xs) (ends (start_level x) (end_of x xs)) v

  module _ (𝒜 : Algebra R) where
    open 𝒜 use {Fig}

    part-levels : (a : Part Fig R) → verdict a ≡ pass → levels_of_summary (part a) ≡ hill (start a) (peak 𝒜 a) (end a)
    part-levels (spoilt f s e o) v = absurd (refuse-pass v)
    part-levels (whole p o h) v = refl

    pub fault-summary : (c : List (Record R)) → summary_fault 𝒜 (summary_of 𝒜 c) ≡ chunk_fault c
    fault-summary [] = refl
    fault-summary (x ∷ xs) = verdict-part_of 𝒜 x xs

    module _ (ℒ : Laws 𝒜) where
      -- THE LEVELS that the plan reads of a chunk's summary are the chunk's
      pub levels-of-chunk : (c : List (Record R)) → chunk_fault c ≡ pass → levels_of_summary (summary_of 𝒜 c) ≡ levels_of c
      levels-of-chunk [] v = refl
      levels-of-chunk (x ∷ xs) v =
          let (s, e) = levels 𝒜 ℒ x xs in
          let p : peak 𝒜 (part_of 𝒜 x xs) ≡ peak_of x xs = rw v refl in
          part-levels (part_of 𝒜 x xs) (verdict-part_of 𝒜 x xs ∙ v) ∙ (λ k. hill (s k) (p k) (e k))

      levels-of-quiet : (cs : List (List (Record R))) → summary_fault 𝒜 (in_order (merge_summary 𝒜) blankSummary (map (summary_of 𝒜) cs)) ≡ pass → map levels_of_summary (map (summary_of 𝒜) cs) ≡ map levels_of cs
      levels-of-quiet [] v = refl
      levels-of-quiet (c ∷ cs) v =
          let (a, b) = fault-parts 𝒜 (summary_of 𝒜 c) (in_order (merge_summary 𝒜) blankSummary (map (summary_of 𝒜) cs)) v in
          rw (levels-of-chunk c (sym (fault-summary c) ∙ a), levels-of-quiet cs b)

      pub levels-of-log : (cs : List (List (Record R))) → log_fault (joined cs) ≡ pass → map levels_of_summary (map (summary_of 𝒜) cs) ≡ map levels_of cs
      levels-of-log cs v =
          levels-of-quiet cs
          (ap (summary_fault 𝒜) (sym (merge_row-in_order 𝒜 ℒ (map (summary_of 𝒜) cs)) ∙ merge_row-summaries 𝒜 ℒ cs) ∙ fault-summary (joined cs) ∙ log-quiet (joined cs) v)
