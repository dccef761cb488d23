use Rattle.std.proofs.Common.{◌≡◌, true, to_z-of_z, w64, rules}
use Rattle.number.specs.Word.{back}
use Rattle.run_back.specs.Decide.{near}
use Rattle.run_back.specs.Backwards.{inner_of}
use Rattle.backwards.proofs.back_net.Goals as goal

pub returns : goal.returns
unfolding inner_of
returns c =
    let e : near c.args.y ≡ true = search rules in
    simp (to_z-of_z c.ranges.y, back w64 c.args.k.first (search rules), e) (search rules)
