-- Finishing one summary: questions 7 to 11, then the figure. Definitions only.
use Rattle.algebra.specs.Algebra.{Algebra}
use Rattle.gate.specs.Outcome.{Outcome, refused, granted}
use Rattle.hill.specs.Verdict.{Verdict, pass, refuse, low, ends}
use Rattle.hill.specs.Summary.{Summary, blank, part, start, end, verdict, middle, slopes}

abbrev pub outcome : {A : Type 0} → Verdict → A → Outcome A
outcome pass a = granted a
outcome (refuse n) a = refused n

abbrev pub finish_of : {R : Type 0} (𝒜 : Algebra R) → Summary 𝒜.Fig R → Outcome 𝒜.Fig
finish_of 𝒜 blank = refused 10
finish_of 𝒜 (part a) = outcome (low (verdict a) (ends (start a) (end a))) (middle (slopes 𝒜 a))
