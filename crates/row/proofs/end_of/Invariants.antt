-- Each turn passes the first piece of what is left.
use Rattle.std.proofs.Common.{◌≡◌, ◌+◌, ◌-◌, ◌≤◌, length, drop}
use Rattle.row.specs.Laws.{end_of}
use Rattle.row.proofs.end_of.Given as goal

abbrev pub invariant-loop : goal.invariant-loop
invariant-loop l = record {
  passed : l.at + end_of (l.n - l.counter) (drop l.at l.row) ≡ end_of l.n l.row;
  within : l.at ≤ length l.row;
}
