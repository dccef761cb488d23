-- By the three cases: blank, spoilt where there is a fault, else a hill.
use Rattle.std.proofs.Common.{ap, ◌∙◌, ◌<◌, ◌^◌, rules, w64}
use Rattle.std.specs.Int.Signed.{mag}
use Rattle.number.specs.Word.{back}
use Rattle.judge.specs.Judged.{held_in}
use Rattle.merging.specs.SayLaws.{part-said}
use Rattle.merging.specs.KeptLaws.{says-hill}
use Rattle.merging.proofs.Merged.head.Goals as goal

pub returns : goal.returns
returns c s k =
    let m = c.args.mode in
    let a = c.args.self.now in
    let fits : mag a.counts.mid < 2 ^ 63 = search rules in
    says-hill m k (part-said m s a.side k.says c.in-Some.is) (search rules) (c.held_in.ensures ∙ ap (held_in m) (back w64 a.counts.mid fits))
