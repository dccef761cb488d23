-- The log is asked, then the two numbers.
use mathlib.Core.Path.{sym, ◌∙◌}
use Rattle.chunk.proofs.Laws.{log_is}
use Rattle.whole_log.specs.AskLaws.{log-opens, log-refused}
use Rattle.common_record.proofs.CallLaws.{at-fault, let_through}
use Rattle.common.proofs.common.Goals as goal

pub returns-in-Err : goal.returns-in-Err
returns-in-Err c =
    let a = c.args in
    sym (at-fault a.log.now a.a a.b (log-refused a.log.now c.in-Err.ensures))

pub name_record-requires : goal.name_record-requires
name_record-requires c = log-opens _ c.in-Ok.ensures

pub returns : goal.returns
returns c =
    let a = c.args in
    let o = log-opens a.log.now c.in-Ok.ensures in
    c.name_record.ensures o.records o.is ∙ sym (let_through a.log.now a.a a.b (log_is o.is))
