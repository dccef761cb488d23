-- What the answer of `fresh` and `send` says. Definitions only.
use Rattle.std.specs.Prelude.{Result, Ok, Err}
use Rattle.gate.specs.Answers.{number_of}
use Rattle.gate.specs.declared.Refusal.{Refusal}
use Rattle.valley_station.specs.Runs.{Told, taken, turned_away}

-- "Told only that it was taken", or the refusal.
abbrev pub taken_answer : Result (Unit {0}) Refusal → Told
taken_answer (Ok u) = taken
taken_answer (Err r) = turned_away (number_of r)
