-- The numbers of a line that ends at a depth: how many bytes they take, and where they fit. Assumes nothing.
use Rattle.std.specs.Prelude.{◌≡◌, List, ℕ, ◌+◌, ◌*◌, ◌≤◌, length}
use Rattle.std.proofs.Common.{arith}
use Rattle.std.proofs.lemmas.List.{length-map}
use Rattle.modes.specs.FourModes.{Amounts}
use Rattle.hill.specs.Log.{Record}
use Rattle.chunk.specs.Chunk.{IsWellFormed}
use Rattle.log_records.specs.Numbers.{number_at}
use Rattle.log_records.specs.Line.{line_places, line_numbers, number_bytes}
use Rattle.log_records.proofs.CallLaws.{bytes-length}
use Rattle.heaviest_line.specs.Search.{IsEnd}
use Rattle.heaviest_line.specs.Promised.{LineFits}

pub line-total : {xs : List (Record Amounts)} {upto depth : ℕ} → IsEnd xs upto depth → 4 * depth + 4 ≡ length (number_bytes (line_numbers xs))
line-total {xs} e = omega (arith, bytes-length (line_numbers xs), length-map (line_places xs) (number_at xs), e.long)

pub line-fits : {log : List ℕ} {upto depth room : ℕ} → (w : (xs : List (Record Amounts)) × IsWellFormed log xs) → ((xs : List (Record Amounts)) → IsWellFormed log xs → IsEnd xs upto depth) → 4 * depth + 4 ≤ room → LineFits log upto depth room
line-fits w e h = record { records = w.0; is = w.1; found = e w.0 w.1; fits = h }
