-- A fault as a verdict. Definitions only.
use Rattle.std.specs.Prelude.{Option, Some, None}
use Rattle.hill.specs.Verdict.{Verdict, pass, refuse}
use Rattle.gate.specs.Answers.{number_of}
use Rattle.gate.specs.declared.Refusal.{Refusal}

-- The number of the question that gets a "no", or none.
abbrev pub verdict_of : Option Refusal → Verdict
verdict_of None = pass
verdict_of (Some r) = refuse (number_of r)
