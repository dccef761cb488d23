-- The log is asked, then the numbers are written.
use Rattle.std.specs.Prelude.{length}
use Rattle.gate.proofs.Promises.{refuses, comes-to}
use Rattle.chunk.proofs.Laws.{log_is}
use Rattle.whole_log.specs.AskLaws.{log-opens, log-refused}
use Rattle.log_records.proofs.CallLaws.{line_refused, line-is}
use Rattle.heaviest_line.proofs.heaviest_line.Goals as goal

pub returns-in-Err : goal.returns-in-Err
returns-in-Err c =
    let a = c.args in
    let p = refuses a.out.now (line_refused a.log.now (length a.out.now) (log-refused a.log.now c.in-Err.ensures)) in
    record { answer = p.0; buffer = p.1 }

pub put_line-requires : goal.put_line-requires
put_line-requires c = let o = log-opens _ c.in-Ok.ensures in (o.records, o.is.formed)

pub returns-in-Ok : goal.returns-in-Ok
returns-in-Ok c =
    let a = c.args in
    let o = log-opens a.log.now c.in-Ok.ensures in
    let p = comes-to (line-is a.log.now (length a.out.now) (log_is o.is)) (c.put_line.ensures o.records o.is.formed) in
    record { answer = p.0; buffer = p.1 }
