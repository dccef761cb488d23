-- So far the first i numbers are written.
use Rattle.std.specs.Prelude.{◌≡◌}
use Rattle.std.proofs.lemmas.List.Edits.{sets}
use Rattle.emit.specs.Promised.{numbers_bytes}
use Rattle.emit.proofs.bytes.put_numbers.Given as goal

abbrev pub invariant-loop-i : goal.invariant-loop-i
invariant-loop-i l = l.out ≡ sets l.initial.out l.at (numbers_bytes l.xs l.i)
