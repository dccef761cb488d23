-- By the three cases.
use Rattle.std.proofs.Common.{◌<◌, ◌^◌, ap, ◌∙◌, arith, rules, w64}
use Rattle.std.specs.Int.Signed.{mag}
use Rattle.number.specs.Word.{back}
use Rattle.judge.specs.Judged.{held_in}
use Rattle.summarise.specs.AnsweredLaws.{says-spoilt, rises, says-hill}
use Rattle.summarise.proofs.chunk_head.Goals as goal

pub returns-in-Some : goal.returns-in-Some
returns-in-Some c A xs s = says-spoilt c.args.mode c.if-not-total.false xs c.in-Some.is s

pub overflow_sub-result : goal.overflow_sub-result
overflow_sub-result c =
    omega (arith, (rises c.args.mode c.if-not-total.false c.in_default.is c.requires.1.0 c.requires.1.1).0)

pub returns : goal.returns
returns c A xs s =
    let a = c.args in
    let fits : mag a.c.mid < 2 ^ 63 = search rules in
    says-hill a.mode {t = a.total} {c = a.c} c.if-not-total.false c.in_default.is xs (omega arith) (c.held_in-middle.ensures ∙ ap (held_in a.mode) (back w64 a.c.mid fits)) s
