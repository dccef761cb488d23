use Rattle.std.proofs.Common.{◌≡◌, OnOk, take, subst, arith}
use Rattle.std.specs.Io.KnownBytes.{Appends}
use Rattle.day_program.proofs.Buffers.{written}
use Rattle.outcome.specs.Day.{day_outcome}
use Rattle.outcome.specs.Line.{day_line}
use Rattle.day_program.proofs.print_day.Goals as goal

pub returns : goal.returns
returns g c =
    let line = day_line (day_outcome c.args.log.now) in
    let whole = written line _ (omega (arith, c.text-n.ensures.answer, c.text-n.ensures.fits)) in
    let same : take c.text-n.result c.text-n.new.out ≡ line = rw (c.text-n.ensures.answer, c.text-n.ensures.buffer) whole in
    record { line = subst (λ l. OnOk c.write_all.result (Appends (g.W.Write.contents c.args.output.now) (g.W.Write.contents c.write_all.new.self) l)) same c.write_all.ensures.bytes }
