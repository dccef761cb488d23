-- The work along the plan of a cut log: the recursion's figure on the uncut log, or the log's lowest-numbered fault. Assumes nothing.
use Rattle.std.specs.Prelude.{◌≡◌, refl, List, [], ◌∷◌, map}
use Rattle.std.proofs.Common.{sym, ap, ◌∙◌}
use Rattle.algebra.specs.Algebra.{Algebra, Laws, Commutative}
use Rattle.hill.specs.Verdict.{Verdict, pass, refuse}
use Rattle.hill.specs.Log.{Record, log_fault}
use Rattle.hill.specs.Figure.{figure_of}
use Rattle.hill.specs.Summary.{summary_of}
use Rattle.hill.specs.Finish.{outcome, finish_of}
use Rattle.hill.specs.Row.{joined}
use Rattle.hill.proofs.FinishLaws.{finish-log}
use Rattle.hill.proofs.RowLaws.{merge_row-summaries}
use Rattle.algebra.specs.Sizes.{Sizes}
use Rattle.hill.specs.Valid.{AllReadable}
use Rattle.hill.proofs.ValidLaws.{valid-summary}
use Rattle.plan_work.specs.Work.{work_of}
use Rattle.plan_work.specs.Gate.{row_fault}
use Rattle.plan_work.specs.Fair.{ValidRow}
use Rattle.plan_work.proofs.GateExact.{fair-row}
use Rattle.plan_work.proofs.WorkExact.{work-finish}

fault-same : {Fig : Type 0} (v w : Verdict) (a b : Fig) → outcome v a ≡ outcome w b → v ≡ w
fault-same pass pass a b e = refl
fault-same pass (refuse n) a b e = cc
fault-same (refuse m) pass a b e = cc
fault-same (refuse m) (refuse n) a b e = cc

module _ {R : Type 0} (𝒜 : Algebra R) {Fine : R → Type 0} (𝒮 : Sizes 𝒜 Fine) where
  open 𝒜 use {Fig}

  -- The chunks' records are readable.
  abbrev pub ReadableRow : List (List (Record R)) → Type 0
  ReadableRow [] = Unit {0}
  ReadableRow (c ∷ cs) = AllReadable 𝒜 𝒮 c × ReadableRow cs

  module _ (ℒ : Laws 𝒜) where
    pub valid-row : (cs : List (List (Record R))) → ReadableRow cs → ValidRow 𝒜 𝒮 (map (summary_of 𝒜) cs)
    valid-row [] r = tt
    valid-row (c ∷ cs) r = (valid-summary 𝒜 𝒮 ℒ c r.0, valid-row cs r.1)

    module _ (comm : Commutative 𝒜) (cs : List (List (Record R))) (r : ReadableRow cs) where
      -- What the gate and the work along the plan answer for the chunks of a log is what the log says.
      pub log-work : outcome (row_fault (map (summary_of 𝒜) cs)) (work_of 𝒜 (map (summary_of 𝒜) cs)).figure ≡ outcome (log_fault (joined cs)) (figure_of 𝒜 (joined cs))
      log-work =
          sym (work-finish 𝒜 ℒ comm (map (summary_of 𝒜) cs) (fair-row 𝒜 𝒮 (map (summary_of 𝒜) cs) (valid-row cs r)))
          ∙ ap (finish_of 𝒜) (merge_row-summaries 𝒜 ℒ cs) ∙ finish-log 𝒜 ℒ (joined cs)

      -- The gate finds the log's lowest-numbered fault, ..
      pub log-gate : row_fault (map (summary_of 𝒜) cs) ≡ log_fault (joined cs)
      log-gate = fault-same (row_fault (map (summary_of 𝒜) cs)) (log_fault (joined cs)) (work_of 𝒜 (map (summary_of 𝒜) cs)).figure (figure_of 𝒜 (joined cs)) log-work

      -- .. and where the log is well formed, the work along the plan gives the recursion's figure.
      pub log-figure : log_fault (joined cs) ≡ pass → (work_of 𝒜 (map (summary_of 𝒜) cs)).figure ≡ figure_of 𝒜 (joined cs)
      log-figure v = figure-same (rw (log-gate, v) at log-work)
        where
          figure-same : {a b : Fig} → outcome pass a ≡ outcome pass b → a ≡ b
          figure-same e = cc
