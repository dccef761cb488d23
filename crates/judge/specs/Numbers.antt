-- What a summary that is not blank says before its slopes. Definitions only.
use Rattle.std.specs.Prelude.{◌≤◌, Option, Some, None}
use Rattle.judge.specs.declared.SpoiltHead.{SpoiltHead}
use Rattle.judge.specs.declared.HillHead.{HillHead}
use Rattle.judge.specs.declared.Head.{Head}
use Rattle.judge.specs.declared.Head.TheVariants.{Blank, Spoilt, Hill}
use Rattle.judge.specs.declared.Numbers.{Numbers}

-- The ranges that question 5 asks of a summary's numbers: "Levels are 0 to 64"; opened records are "at most 100,001, which means 'more'".
pub record SpoiltFits (h : SpoiltHead) : Type 0 where
  pub start-high : h.start ≤ 64
  pub end-high : h.end ≤ 64
  pub opened-few : h.opened ≤ 100_001

pub record HillFits (h : HillHead) : Type 0 where
  pub start-high : h.start ≤ 64
  pub end-high : h.end ≤ 64
  pub peak-high : h.peak ≤ 64
  pub opened-few : h.opened ≤ 100_001

abbrev pub Fits : Head → Type 0
Fits Blank = Unit {0}
Fits (Spoilt h) = SpoiltFits h
Fits (Hill h) = HillFits h

-- The numbers of each of the three cases.
abbrev pub numbers_of : Head → Option Numbers
numbers_of Blank = None
numbers_of (Spoilt h) = Some (record { fault = Some h.fault; start = h.start; peak = 0; end = h.end; opened = h.opened })
numbers_of (Hill h) = Some (record { fault = None; start = h.start; peak = h.peak; end = h.end; opened = h.opened })

-- Numbers within their bounds.
pub record InBounds (p : Numbers) : Type 0 where
  pub start-high : p.start ≤ 64
  pub peak-high : p.peak ≤ 64
  pub end-high : p.end ≤ 64
  pub opened-few : p.opened ≤ 100_001

abbrev pub AllInBounds : Option Numbers → Type 0
AllInBounds None = Unit {0}
AllInBounds (Some p) = InBounds p
