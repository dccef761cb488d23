-- What is left are the closes below the level reached.
use Rattle.number.specs.Writing.{Writing}
use Rattle.day_table.specs.Table.{closes_to}
use Rattle.day_table.specs.Outcomes.{log_bytes}
use Rattle.table.proofs.records.write_closes.Given as goal

abbrev pub invariant-loop-level : goal.invariant-loop-level
invariant-loop-level l = Writing (log_bytes (closes_to l.from l.to)) l.start l.initial.out (log_bytes (closes_to l.level l.to)) l.at l.out
