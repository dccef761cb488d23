-- So far the first k records are written.
use Rattle.std.specs.Prelude.{◌≡◌}
use Rattle.std.proofs.lemmas.List.Edits.{sets}
use Rattle.slopes.specs.Kept.{arrays_of}
use Rattle.emit.specs.Promised.{records_of}
use Rattle.emit.proofs.bytes.put_records.Given as goal

abbrev pub invariant-loop-k : goal.invariant-loop-k
invariant-loop-k l = l.out ≡ sets l.initial.out l.at (records_of (arrays_of l.slopes) l.k)
