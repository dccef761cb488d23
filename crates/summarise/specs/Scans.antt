-- What the functions of a pass over a chunk ask and leave. Definitions only.
use Rattle.std.specs.Prelude.{◌≡◌, List, ℕ, ◌+◌, ◌*◌, ◌≤◌, Option, None, Result, Ok, Err}
use Rattle.gate.specs.Outcome.{refused, granted}
use Rattle.gate.specs.Answers.{number_of}
use Rattle.gate.specs.declared.Refusal.{Refusal}
use Rattle.record.specs.Record.{is_open, records_of}
use Rattle.record.specs.declared.Fields.{Fields}
use Rattle.hill.specs.Log.{Record, opened_of}
use Rattle.hill.specs.Building.{step, hill_of}
use Rattle.hill.specs.Valid.{AllReadable}
use Rattle.modes.specs.FourModes.{Amounts}
use Rattle.figure.specs.Mode.{Mode}
use Rattle.figure.specs.Stored.{amounts}
use Rattle.slopes.specs.declared.Counts.{Counts}
use Rattle.slopes.specs.Arrays.{Arrays, slopes_of, weight_of, Able, StandsFor}
use Rattle.slopes.specs.Actions.{Room, cost}
use Rattle.chunk.specs.Chunk.{record_of, chunk_of}
use Rattle.whole_log.specs.declared.Tally.{Tally}
use Rattle.whole_log.specs.Tallies.{Tallied}

-- Where there is no fault, the arrays can take the record f.
pub record Grows (M : Mode) (fault : Option Refusal) (f : Fields) (A : Arrays) (c : Counts) : Type 0 where
  pub able : fault ≡ None → Able M A c
  pub room : fault ≡ None → Room (is_open f.kind) (amounts f.value f.floor f.ceiling) c

-- Where there is no fault, they have taken it.
abbrev pub Grown : Mode → Option Refusal → Fields → Arrays → Counts → Arrays → Counts → Type 0
Grown M fault f A c A' c' =
    fault ≡ None → StandsFor M A' c' (step M.algebra (slopes_of M A c) (record_of f)) (weight_of M (slopes_of M A c) + cost M (is_open f.kind))

-- What is known of the records xs: t tells of them, and where there is no fault the arrays stand for their hill.
pub record Summed (M : Mode) (A : Arrays) (c : Counts) (t : Tally) (xs : List (Record Amounts)) : Type 0 where
  pub readable : AllReadable M.algebra M.sizes xs
  pub few : opened_of xs ≤ 65536
  pub tallied : Tallied xs t
  pub hill : t.fault ≡ None → StandsFor M A c (hill_of M.algebra xs) (M.sizes.unit * opened_of xs)

-- What reading a chunk to its end says of it: "is every record readable?", and the records that were read.
abbrev pub Scanned : Mode → List ℕ → Arrays → Result (Tally × Counts) Refusal → Type 0
Scanned M s A (Err r) = records_of s ≡ refused (number_of r)
Scanned M s A (Ok read) = (fs : List Fields) × (records_of s ≡ granted fs) × Summed M A read.1 read.0 (chunk_of fs)

-- What is left in the arrays and in t is what is known of some records.
abbrev pub Concludes : Mode → Arrays → Counts → Tally → Type 0
Concludes M A c t = (xs : List (Record Amounts)) × Summed M A c t xs
