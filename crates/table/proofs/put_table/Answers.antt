-- The fit is tested before the first store.
use Rattle.gate.proofs.Promises.{bytes-stored, bytes-too-long}
use Rattle.day_table.specs.Table.{table_of}
use Rattle.day_table.specs.Outcomes.{table_bytes}
use Rattle.table.specs.CallLaws.{table-total}
use Rattle.table.proofs.put_table.Goals as goal

pub returns-then-out-total : goal.returns-then-out-total
returns-then-out-total c xs i = let a = c in bytes-too-long (table_bytes (table_of xs)) a.args.out.now (table-total a.requires i) c.if-out-total.true

pub returns : goal.returns
returns c xs i = let a = c in bytes-stored (table_bytes (table_of xs)) a.args.out.now (table-total a.requires i) c.if-out-total.false (c.write_table.ensures xs i)
