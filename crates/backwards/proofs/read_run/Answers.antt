-- Where there is no fourth number, 0 stands past the end of the bytes.
use Rattle.std.proofs.Common.{◌≡◌, pos, arith, rules}
use Rattle.std.proofs.lemmas.Bool.Decides.{nat_tests}
use Rattle.number.specs.Bytes.{i64_at}
use Rattle.outcome.specs.Outcomes.{run_length}
use Rattle.backwards.specs.Laws.{fourth_past}
use Rattle.backwards.proofs.read_run.Goals as goal

pub returns-else-has_fourth : goal.returns-else-has_fourth
unfolding run_length
returns-else-has_fourth c =
    let e : pos 0 ≡ i64_at c.args.b.now 30 = fourth_past c.args.b.now (grind (arith, nat_tests)) in
    rw (← e) (search rules)
