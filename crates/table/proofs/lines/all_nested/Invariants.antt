-- What is left to ask are the lines after one of depth `before`.
use mathlib.Core.Path.{◌≡◌}
use Prim.Native.Nat.{◌<◌}
use Rattle.std.specs.Slice.Iter.{chunks_exact_rest, chunks_exact_size}
use Rattle.day_table.specs.Table.{nested_after, nested}
use Rattle.day_table.specs.Outcomes.{table_lines}
use Rattle.table.proofs.lines.all_nested.Given as goal

abbrev pub invariant-loop-line : goal.invariant-loop-line
invariant-loop-line l = record {
  lines : nested (table_lines l.table) ≡ nested_after l.before (table_lines (chunks_exact_rest l.line-iterator));
  size : chunks_exact_size l.line-iterator ≡ 14;
  low : l.before < 65_536;
}
