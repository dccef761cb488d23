-- What a summary says before its slopes, as the code holds it, and what that means. Definitions only.
use Rattle.std.specs.Prelude.{◌≡◌, ℕ, Option, Some, None}
use Rattle.modes.specs.FourModes.{Amounts}
use Rattle.figure.specs.Mode.{mode_of}
use Rattle.hill.specs.Verdict.{pass}
use Rattle.fault.specs.Fault.{verdict_of}
use Rattle.hill.specs.Summary.{Part, blank, part, start, end, opened, verdict, peak}
use Rattle.summary.specs.Layout.{SummaryIn}
use Rattle.judge.specs.declared.Numbers.{Numbers}
use Rattle.judge.specs.Numbers.{InBounds}

-- The numbers in p are those of the summary a, which is not blank, and within their bounds. (One with a fault has no peak, and any level may stand there.)
pub record Says (m : ℕ) (p : Numbers) (a : Part (mode_of m).algebra.Fig Amounts) : Type 0 where
  pub fault : verdict_of p.fault ≡ verdict a
  pub start : p.start ≡ start a
  pub peak : verdict a ≡ pass → p.peak ≡ peak (mode_of m).algebra a
  pub end : p.end ≡ end a
  pub opened : p.opened ≡ opened a
  pub bounds : InBounds p

-- The summary s is not blank, and the numbers in hand are its.
pub record SaysPart (m : ℕ) (p : Numbers) (s : SummaryIn m) : Type 0 where
  pub said : Part (mode_of m).algebra.Fig Amounts
  pub is : s ≡ part said
  pub says : Says m p said

-- The summary s is blank, or the numbers in hand are its.
abbrev pub SaysOf : (m : ℕ) → Option Numbers → SummaryIn m → Type 0
SaysOf m None s = s ≡ blank
SaysOf m (Some p) s = SaysPart m p s
