-- `runs::bytes::write_run` meets its contract: three numbers, and in mode 5 a fourth.
use mathlib.Core.Path.{◌∙◌, ap, sym}
use native.Mathlib.Omega.{arith}
use lib.ListN.{length}
use lib.Seq.{length-sets}
use mir.Syntax.{w64}
use Rattle.number.specs.Word.{back}
use Rattle.outcome.proofs.RunLaws.{length-four, length-least}
use Rattle.runs.specs.BytesLaws.{fourth-written, no-fourth}
use borrow.Author.Rules.{rules}
use Rattle.runs.proofs.bytes.write_run.Goals as goal

pub write_front-requires : goal.write_front-requires
write_front-requires c = omega (arith, c.requires, length-least c.args.mode)

pub write_i64-requires : goal.write_i64-requires
write_i64-requires c =
    omega (arith, c.requires, length-four c.args.mode (sym c.has_fourth.ensures ∙ c.if-has_fourth.true), simp length-sets at (ap length c.write_front.ensures))

pub returns-then-has_fourth : goal.returns-then-has_fourth
returns-then-has_fourth c =
    let a = c.args in
    fourth-written a.out.now _ _ a.at a.mode a.run _ (sym c.has_fourth.ensures ∙ c.if-has_fourth.true) c.write_front.ensures c.write_i64.ensures (back w64 a.run.fourth (search rules))

pub returns-else-has_fourth : goal.returns-else-has_fourth
returns-else-has_fourth c =
    let a = c.args in
    no-fourth a.out.now _ a.at a.mode a.run (sym c.has_fourth.ensures ∙ c.if-has_fourth.false) c.write_front.ensures
