-- Each turn judges one record's amounts; its depth fits, as the levels do.
use Prim.Native.Nat.{ℕ, ◌+◌}
use Rattle.record.specs.Record.{in_range}
use Rattle.summary.specs.Judge.{peak_at, value_at, floor_at, ceiling_at}
use Rattle.judge.proofs.Loops.{AllSo}
use Rattle.judge.proofs.records_fit.Given as goal

abbrev pub invariant-loop-j : goal.invariant-loop-j
invariant-loop-j l = AllSo (λ (k : ℕ). in_range (peak_at l.b + k) (value_at l.b k) (floor_at l.b k) (ceiling_at l.b k)) l.n l.j l.all
