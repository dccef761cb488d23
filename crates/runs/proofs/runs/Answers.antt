-- The row is opened, then the runs are written: specs/CallLaws.antt.
use Rattle.std.proofs.Common.{arith}
use Rattle.row_plan.specs.RowLaws.{plan-room}
use Rattle.runs.specs.CallLaws.{runs-not, all_lines, runs-few, runs-short, runs-answered}
use Rattle.runs.proofs.runs.Goals as goal

pub returns-in-Err : goal.returns-in-Err
returns-in-Err c =
    let r = runs-not c.args.row.now c.args.out.now _ c.in-Err.ensures.found in
    record { answer = r.0; buffer = r.1 }

pub scan-n-requires-clause-count_len_bound : goal.scan-n-requires-clause-count_len_bound
scan-n-requires-clause-count_len_bound c = plan-room c.in-Ok.ensures.found

pub overflow_mul-total : goal.overflow_mul-total
overflow_mul-total c = record { fits = omega (arith, runs-few c.in-Ok.ensures.found c.scan-n.ensures _ c.run_length.ensures) }

pub returns-then-out-total : goal.returns-then-out-total
returns-then-out-total c = let r = runs-short c.in-Ok.ensures.found c.scan-n.ensures _ c.run_length.ensures c.args.out.now (omega arith) in record { answer = r.0; buffer = r.1 }

pub write_each-requires-clause-lines : goal.write_each-requires-clause-lines
write_each-requires-clause-lines c = all_lines c.in-Ok.ensures.found c.scan-n.ensures c.begin_pieces.ensures

pub returns : goal.returns
returns c = let r = runs-answered c.in-Ok.ensures.found c.scan-n.ensures _ c.run_length.ensures c.args.out.now _ (omega arith) c.write_each.ensures in record { answer = r.0; buffer = r.1 }
