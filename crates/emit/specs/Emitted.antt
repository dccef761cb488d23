-- The summary that a head and the arrays say, and what a function that writes it asks. Definitions only.
use Rattle.std.specs.Prelude.{◌≡◌, ℕ, ◌-◌, ◌≤◌}
use Rattle.gate.specs.Answers.{number_of}
use Rattle.modes.specs.FourModes.{store_held}
use Rattle.figure.specs.Mode.{Mode, mode_of}
use Rattle.hill.specs.Summary.{blank, part, spoilt, whole}
use Rattle.summary.specs.Layout.{SummaryIn}
use Rattle.judge.specs.declared.SpoiltHead.{SpoiltHead}
use Rattle.judge.specs.declared.HillHead.{HillHead}
use Rattle.judge.specs.declared.Head.{Head}
use Rattle.judge.specs.declared.Head.TheVariants.{Blank, Spoilt, Hill}
use Rattle.slopes.specs.declared.Counts.{Counts}
use Rattle.slopes.specs.Arrays.{Arrays, slopes_of, Sound, Stored}

-- ---- what is said

-- How much of the arrays a hill takes: its slopes go from the peak to the start and to the end.
abbrev pub counts_of : HillHead → Counts
counts_of h = record { nl = h.start - h.peak; n = h.end - h.peak; mid = store_held h.middle }

abbrev pub spoilt_said : (m : ℕ) → SpoiltHead → SummaryIn m
spoilt_said m s = part (spoilt (number_of s.fault) s.start s.end s.opened)

abbrev pub hill_said : (m : ℕ) → HillHead → Arrays → SummaryIn m
hill_said m h A = part (whole h.peak h.opened (slopes_of (mode_of m) A (counts_of h)))

-- "A summary is one of three cases": the arrays hold the slopes of a hill, and say nothing of the others.
abbrev pub summary_said : (m : ℕ) → Head → Arrays → SummaryIn m
summary_said m Blank A = blank
summary_said m (Spoilt s) A = spoilt_said m s
summary_said m (Hill h) A = hill_said m h A

-- ---- what is asked

-- The arrays hold the slopes of a hill with this head.
pub record WritableHill (M : Mode) (h : HillHead) (A : Arrays) : Type 0 where
  pub sound : Sound A (counts_of h)
  pub stored : Stored M A (counts_of h)
  pub peak-start : h.peak ≤ h.start
  pub peak-end : h.peak ≤ h.end
  pub level : h.peak ≤ 64

abbrev pub Writable : Mode → Head → Arrays → Type 0
Writable M Blank A = Unit {0}
Writable M (Spoilt s) A = Unit {0}
Writable M (Hill h) A = WritableHill M h A

-- The head and the arrays can be written, and say the summary s.
pub record Said (m : ℕ) (head : Head) (A : Arrays) (s : SummaryIn m) : Type 0 where
  pub writable : Writable (mode_of m) head A
  pub is : summary_said m head A ≡ s
