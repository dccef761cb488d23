-- The mode and the log are asked, then the page is printed.
use Rattle.std.proofs.Common.{length, sym, ◌∙◌, arith}
use Rattle.gate.proofs.Promises.{refuses, comes-to}
use Rattle.figure.specs.Stored.{mode_small}
use Rattle.chunk.proofs.Laws.{log_is}
use Rattle.whole_log.specs.AskLaws.{log-opens, log-refused}
use Rattle.day_sheet.proofs.CallLaws.{out-of-use, at-fault, let_through}
use Rattle.sheet.proofs.sheet.Goals as goal

pub returns-then-not-in_use : goal.returns-then-not-in_use
returns-then-not-in_use c =
    let a = c.args in
    let p = refuses a.out.now (out-of-use a.log.now a.mode a.page (length a.out.now) (sym c.in_use.ensures ∙ c.if-not-in_use.true)) in
    record { answer = p.0; buffer = p.1 }

pub returns-in-Err : goal.returns-in-Err
returns-in-Err c =
    let a = c.args in
    let p = refuses a.out.now (at-fault a.log.now a.mode a.page (length a.out.now) (sym c.in_use.ensures ∙ c.if-not-in_use.false) (log-refused a.log.now c.in-Err.ensures)) in
    record { answer = p.0; buffer = p.1 }

pub overflow_cast-mode : goal.overflow_cast-mode
overflow_cast-mode c = omega (arith, mode_small c.args.mode (sym c.in_use.ensures ∙ c.if-not-in_use.false))

pub put_page-requires-clause-opens : goal.put_page-requires-clause-opens
put_page-requires-clause-opens c = log-opens _ c.in-Ok.ensures

pub returns : goal.returns
returns c =
    let a = c.args in
    let o = log-opens a.log.now c.in-Ok.ensures in
    let p = comes-to (let_through a.log.now a.mode a.page (length a.out.now) (sym c.in_use.ensures ∙ c.if-not-in_use.false) (log_is o.is)) (c.put_page.ensures o.records o.is) in
    record { answer = p.0; buffer = p.1 }
