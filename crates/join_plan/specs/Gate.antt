-- A row of summaries that the gate lets through: its hills meet, and it begins and ends at level 0. Assumes nothing.
use Rattle.algebra.specs.Algebra.{Algebra}
use Rattle.hill.specs.Verdict.{Verdict, pass}
use Rattle.hill.specs.Summary.{Summary, blank as blankSummary, part, verdict}

module _ {R : Type 0} (𝒜 : Algebra R) where
  open 𝒜 use {Fig}

  -- the fault that a summary shows
  abbrev pub summary_fault : Summary Fig R → Verdict
  summary_fault blankSummary = pass
  summary_fault (part a) = verdict a
