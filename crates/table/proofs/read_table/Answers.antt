-- The log is asked, then its table is written.
use Rattle.gate.proofs.Promises.{refuses, comes-to}
use Rattle.whole_log.specs.AskLaws.{log-opens, log-refused}
use Rattle.table.specs.CallLaws.{read-refused, table_is}
use Rattle.table.proofs.read_table.Goals as goal

pub returns-in-Err : goal.returns-in-Err
returns-in-Err c =
    let a = c.args in
    let p = refuses a.out.now (read-refused a.log.now _ (log-refused a.log.now c.in-Err.ensures)) in
    record { answer = p.0; buffer = p.1 }

pub put_table-requires : goal.put_table-requires
put_table-requires c = log-opens _ c.in-Ok.ensures

pub returns : goal.returns
returns c =
    let o = log-opens c.args.log.now c.in-Ok.ensures in
    let p = comes-to (table_is c.args.log.now _ o.is) (c.put_table.ensures o.records o.is.formed) in
    record { answer = p.0; buffer = p.1 }
