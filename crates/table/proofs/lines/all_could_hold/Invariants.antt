-- What is left to ask are the lines still to come.
use mathlib.Core.Path.{◌≡◌}
use Rattle.std.specs.Slice.Iter.{chunks_exact_rest, chunks_exact_size}
use Rattle.day_table.specs.Outcomes.{table_lines, all_could_hold}
use Rattle.table.proofs.lines.all_could_hold.Given as goal

abbrev pub invariant-loop-line : goal.invariant-loop-line
invariant-loop-line l = record {
  lines : all_could_hold (table_lines l.table) ≡ all_could_hold (table_lines (chunks_exact_rest l.line-iterator));
  size : chunks_exact_size l.line-iterator ≡ 14;
}
