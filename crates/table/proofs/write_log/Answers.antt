-- The questions in their order, and then the log.
use Rattle.gate.proofs.Promises.{refuses, comes-to}
use Rattle.day_table.proofs.CallLaws.{too_long, taken_is}
use Rattle.table.specs.CallLaws.{settled}
use Rattle.table.proofs.write_log.Goals as goal

pub returns-then-table-gt38220 : goal.returns-then-table-gt38220
returns-then-table-gt38220 c =
    let a = c.args in
    let p = refuses a.out.now (too_long a.table.now _ c.if-table-gt38220.true) in
    record { answer = p.0; buffer = p.1 }

pub returns-in-Some : goal.returns-in-Some
returns-in-Some c =
    let a = c.args in
    let told = settled a.table.now c.if-table-gt38220.false c.all_could_hold.ensures c.all_nested.ensures c.first_no.ensures in
    let p = refuses a.out.now (told.no _ c.in-Some.is _) in
    record { answer = p.0; buffer = p.1 }

pub put_log-requires : goal.put_log-requires
put_log-requires c =
    let a = c.args in
    (settled a.table.now c.if-table-gt38220.false c.all_could_hold.ensures c.all_nested.ensures c.first_no.ensures).yes c.in_default.is

pub returns : goal.returns
returns c =
    let a = c.args in
    let told = settled a.table.now c.if-table-gt38220.false c.all_could_hold.ensures c.all_nested.ensures c.first_no.ensures in
    let p = comes-to (taken_is a.table.now _ (told.yes c.in_default.is)) c.put_log.ensures in
    record { answer = p.0; buffer = p.1 }
