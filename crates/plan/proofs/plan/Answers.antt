-- The row is opened, then the lines are written: specs/PlanLaws.antt.
use Rattle.std.proofs.Common.{arith}
use Rattle.row_plan.specs.RowLaws.{plan-room}
use Rattle.plan.specs.PlanLaws.{plan-not, plan-short, plan-answered}
use Rattle.plan.proofs.plan.Goals as goal

pub returns-in-Err : goal.returns-in-Err
returns-in-Err c =
    let r = plan-not c.args.row.now c.args.out.now _ c.in-Err.ensures.found in
    record { answer = r.0; buffer = r.1 }

pub scan-n-requires-clause-count_len_bound : goal.scan-n-requires-clause-count_len_bound
scan-n-requires-clause-count_len_bound c = plan-room c.in-Ok.ensures.found

pub returns-then-out-total : goal.returns-then-out-total
returns-then-out-total c = let r = plan-short c.in-Ok.ensures.found c.scan-n.ensures c.args.out.now (omega arith) in record { answer = r.0; buffer = r.1 }

pub returns : goal.returns
returns c = let r = plan-answered c.in-Ok.ensures.found c.scan-n.ensures c.args.out.now _ (omega arith) c.write_lines.ensures in record { answer = r.0; buffer = r.1 }
