-- What each method of the slopes asks and leaves, by Actions. Definitions only.
use Rattle.std.specs.Prelude.{◌≡◌, ℕ, ℤ, List, set}
use Rattle.figure.specs.Mode.{Mode}
use Rattle.slopes.specs.declared.OpenAmounts.{OpenAmounts}
use Rattle.slopes.specs.declared.Slopes.{Slopes}
use Rattle.slopes.specs.Actions as action
use Rattle.slopes.specs.Actions.{Top, top_figure, ClosedTop}

abbrev pub put_at : OpenAmounts → (n : ℕ) → (v f c : ℤ) → OpenAmounts
put_at a n v f c = record { values = set a.values n v; floors = set a.floors n f; ceilings = set a.ceilings n c }

-- A record is put on top, and the left values stay.
pub record Pushed (n : ℕ) (v f c h : ℤ) (before after : Slopes) : Type 0 where
  pub left : after.left ≡ before.left
  pub on-top : action.Pushed n v f c h before.amounts.values before.amounts.floors before.amounts.ceilings before.held
      after.amounts.values after.amounts.floors after.amounts.ceilings after.held

abbrev pub TopOf : Mode → OpenAmounts → List ℤ → ℕ → ℤ → Type 0
TopOf M a hs t mid = Top M a.values a.floors a.ceilings hs t mid

abbrev pub figure_at : Mode → OpenAmounts → List ℤ → ℕ → ℤ
figure_at M a hs t = top_figure M a.values a.floors a.ceilings hs t

abbrev pub ClosedAt : Mode → OpenAmounts → List ℤ → ℕ → ℤ → List ℤ → ℤ → Type 0
ClosedAt M a hs t mid hs' mid' = ClosedTop M a.values a.floors a.ceilings hs t mid hs' mid'
