-- The fit is tested before the first store.
use native.Mathlib.Omega.{arith}
use Rattle.gate.proofs.Promises.{bytes-stored, bytes-too-long}
use Rattle.day_table.specs.Table.{log_of}
use Rattle.day_table.specs.Outcomes.{table_lines, log_bytes}
use Rattle.table.specs.CallLaws.{log-total}
use Rattle.table.proofs.put_log.Goals as goal

pub returns-then-out-total : goal.returns-then-out-total
returns-then-out-total c = bytes-too-long (log_bytes (log_of (table_lines c.args.table.now))) c.args.out.now (log-total c.requires) c.if-out-total.true

pub returns : goal.returns
returns c = bytes-stored (log_bytes (log_of (table_lines c.args.table.now))) c.args.out.now (log-total c.requires) c.if-out-total.false c.write_records.ensures

pub write_records-requires-clause-table_in_bounds : goal.write_records-requires-clause-table_in_bounds
write_records-requires-clause-table_in_bounds c = omega (arith, log-total c.requires, c.if-out-total.false)
