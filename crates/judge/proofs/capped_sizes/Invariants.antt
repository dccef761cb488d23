-- Each turn adds one size, cut to the cap.
use Prim.Native.Nat.{ℕ, min}
use Rattle.figure.specs.Mode.{mode_of}
use Rattle.figure.specs.Stored.{size_of}
use Rattle.judge.specs.Laid.{value_in}
use Rattle.judge.proofs.Loops.{SumSo}
use Rattle.judge.proofs.capped_sizes.Given as goal

abbrev pub invariant-loop-i : goal.invariant-loop-i
invariant-loop-i l = SumSo (λ (k : ℕ). min l.cap (size_of (mode_of l.mode) (value_in l.b l.at l.step k))) l.n l.i l.sum
