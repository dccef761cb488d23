-- So far the lines are written that came.
use mathlib.Core.Path.{◌≡◌}
use Rattle.std.specs.Slice.Iter.{chunks_exact_rest, chunks_exact_size}
use Rattle.table.specs.LoopLaws.{LogSoFar}
use Rattle.table.proofs.records.write_records.Given as goal

abbrev pub invariant-loop-line : goal.invariant-loop-line
invariant-loop-line l = record {
  log : LogSoFar l.table (chunks_exact_rest l.line-iterator) l.initial.out l.at l.level l.out;
  size : chunks_exact_size l.line-iterator ≡ 14;
}
