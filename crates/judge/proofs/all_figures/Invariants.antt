-- Each turn judges one value.
use Prim.Native.Nat.{ℕ}
use Rattle.figure.specs.Mode.{mode_of}
use Rattle.judge.specs.Laid.{value_in}
use Rattle.judge.proofs.Loops.{AllSo}
use Rattle.judge.proofs.all_figures.Given as goal

abbrev pub invariant-loop-i : goal.invariant-loop-i
invariant-loop-i l = AllSo (λ (k : ℕ). (mode_of l.mode).is_figure (value_in l.b l.at l.step k)) l.n l.i l.all
