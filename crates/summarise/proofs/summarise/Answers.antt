-- The questions in their order, and then the summary.
use Rattle.std.proofs.Common.{sym, ◌∙◌, arith}
use Rattle.std.proofs.lemmas.Result.{err_from_is_err_and}
use Rattle.gate.proofs.Promises.{refuses, comes-to}
use Rattle.figure.specs.Stored.{mode_small}
use Rattle.summary.proofs.OutcomeLaws.{summarise-is}
use Rattle.chunk.specs.Chunk.{chunk_of}
use Rattle.summarise.specs.CallLaws.{no_mode, too_many, not-readable}
use Rattle.summarise.proofs.summarise.Goals as goal

pub returns-then-not-in_use : goal.returns-then-not-in_use
returns-then-not-in_use c =
    let a = c.args in
    let p = refuses a.out.now (no_mode a.chunk.now a.mode _ (sym c.in_use.ensures ∙ c.if-not-in_use.true)) in
    record { answer = p.0; buffer = p.1 }

pub returns-then-chunk-gt65536 : goal.returns-then-chunk-gt65536
returns-then-chunk-gt65536 c =
    let a = c.args in
    let p = refuses a.out.now (too_many a.chunk.now a.mode _ (sym c.in_use.ensures ∙ c.if-not-in_use.false) c.if-chunk-gt65536.true) in
    record { answer = p.0; buffer = p.1 }

pub overflow_cast-m : goal.overflow_cast-m
overflow_cast-m c = omega (arith, mode_small c.args.mode (sym c.in_use.ensures ∙ c.if-not-in_use.false))

pub returns-in_err-t : goal.returns-in_err-t
returns-in_err-t c =
    let a = c.args in
    let p = refuses a.out.now (not-readable a.chunk.now a.mode _ (sym c.in_use.ensures ∙ c.if-not-in_use.false) c.if-chunk-gt65536.false c.in_err-t.ensures) in
    let e = err_from_is_err_and c.from_residual.result c.from_residual.ensures.1 in
    record { answer = rw (e.1, e.2) p.0; buffer = p.1 }

pub returns : goal.returns
returns c =
    let a = c.args in
    let d = c.in_ok-t.ensures in
    let p = comes-to (summarise-is a.chunk.now a.mode _ d.0 (sym c.in_use.ensures ∙ c.if-not-in_use.false) c.if-chunk-gt65536.false d.1) (c.conclude.ensures (chunk_of d.0) d.2) in
    record { answer = p.0; buffer = p.1 }
