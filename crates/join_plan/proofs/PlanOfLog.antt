-- THE PLAN OF A CUT LOG with no fault, from the summaries of its chunks: it is the plan by the records, it is short, and what it folds is counted. Assumes nothing.
use Rattle.std.specs.Prelude.{ℕ, zero, suc, ◌+◌, ◌*◌, ◌≤◌, ◌≡◌, ◌≢◌, List, [], ◌∷◌, ◌++◌, map, length}
use Rattle.std.proofs.Common.{inl, inr, arith}
use Rattle.algebra.specs.Algebra.{Algebra, Laws}
use Rattle.hill.specs.Verdict.{pass}
use Rattle.hill.specs.Log.{Record, log_fault}
use Rattle.hill.specs.Summary.{summary_of}
use Rattle.hill.proofs.SortedLaws.{sorted-unique}
use Rattle.hill.specs.Row.{joined}
use Rattle.join_plan.specs.Plan.{Line, Before, joins, folded, plan_of_row}
use Rattle.join_plan.specs.ByRecords.{InChunk, IsPlan, Crossing, Tally}
use Rattle.join_plan.proofs.ScanExact.{before-asym}
use Rattle.hill.proofs.LogPlaces.{log-well-formed}
use Rattle.join_plan.proofs.LogLevels.{levels-of-log}
use Rattle.join_plan.proofs.LogPlan.{log-plan, log-bound}
use Rattle.join_plan.proofs.LogFolded.{folded-crossing}
use Rattle.join_plan.proofs.LogEnds.{log-none, log-last}

-- the plan of a cut log is one list
pub plan-unique : {R : Type 0} (cs : List (List (Record R))) (ls ms : List Line) → IsPlan cs ls → IsPlan cs ms → ls ≡ ms
plan-unique cs ls ms a b = sorted-unique Before before-asym ls ms a.sorted b.sorted (λ l. (λ m. (b.lines l).1 ((a.lines l).0 m), λ m. (a.lines l).1 ((b.lines l).0 m)))

-- a tally is one number
pub tally-unique : (P : ℕ → Type 0) (n c d : ℕ) → Tally P n c → Tally P n d → c ≡ d
tally-unique P zero c d s t = omega arith
tally-unique P (suc n) c d (inl s) (inl t) = omega (arith, s.1.1, t.1.1, tally-unique P n s.1.0 t.1.0 s.1.2 t.1.2)
tally-unique P (suc n) c d (inl s) (inr t) = absurd (t.0 s.0)
tally-unique P (suc n) c d (inr s) (inl t) = absurd (s.0 t.0)
tally-unique P (suc n) c d (inr s) (inr t) = tally-unique P n c d s.1 t.1

module _ {R : Type 0} (𝒜 : Algebra R) (ℒ : Laws 𝒜) (cs : List (List (Record R))) (v : log_fault (joined cs) ≡ pass) where
  -- just the lines that the records say, in order
  pub plan-of-log : IsPlan cs (plan_of_row (map (summary_of 𝒜) cs))
  plan-of-log = rw (levels-of-log 𝒜 ℒ cs v) (log-plan cs (log-well-formed (joined cs) v))

  -- and any list of just those lines in that order is it
  pub plan-only : (ls : List Line) → IsPlan cs ls → ls ≡ plan_of_row (map (summary_of 𝒜) cs)
  plan-only ls h = plan-unique cs ls (plan_of_row (map (summary_of 𝒜) cs)) h plan-of-log

  -- of P ≥ 2 chunks at most 2 P - 3 lines
  pub plan-few : 2 ≤ length cs → joins (plan_of_row (map (summary_of 𝒜) cs)) + 3 ≤ 2 * length cs
  plan-few h = rw (levels-of-log 𝒜 ℒ cs v) (log-bound cs (log-well-formed (joined cs) v) h)

  -- the levels folded: as many as there are records that are closed in another chunk than the one that opened them
  pub plan-folds : Tally (Crossing cs) (length (joined cs)) (folded (plan_of_row (map (summary_of 𝒜) cs)))
  plan-folds = rw (levels-of-log 𝒜 ℒ cs v) (folded-crossing cs (log-well-formed (joined cs) v))

  -- where the first record and the last, at place n, stand in chunks f and j: if these are one, there is no line; else the last line is theirs, from depth 0 on
  module _ (n f j : ℕ) (e : length (joined cs) ≡ suc n) (x : InChunk cs f 0) (y : InChunk cs j n) where
    pub plan-none : f ≡ j → plan_of_row (map (summary_of 𝒜) cs) ≡ []
    plan-none h = rw (levels-of-log 𝒜 ℒ cs v) (log-none cs (log-well-formed (joined cs) v) n f j e x y h)

    pub plan-last : f ≢ j → (init : List Line) × (l : Line) × (plan_of_row (map (summary_of 𝒜) cs) ≡ init ++ (l ∷ [])) × (l.i ≡ f) × (l.j ≡ j) × (l.lowest ≡ 0)
    plan-last h = rw (levels-of-log 𝒜 ℒ cs v) (log-last cs (log-well-formed (joined cs) v) n f j e x y h)
