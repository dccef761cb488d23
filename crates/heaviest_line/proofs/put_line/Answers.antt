-- The fit is tested before the first store.
use native.Mathlib.Omega.{arith}
use Rattle.gate.proofs.Promises.{answer-fits, bytes-too-long}
use Rattle.log_records.specs.Line.{line_numbers, number_bytes}
use Rattle.heaviest_line.specs.CallLaws.{line-total, line-fits}
use Rattle.heaviest_line.proofs.put_line.Goals as goal

pub returns-then-out-total : goal.returns-then-out-total
returns-then-out-total c xs i = let a = c in bytes-too-long (number_bytes (line_numbers xs)) a.args.out.now (line-total (c.find_end-end.ensures xs i)) c.if-out-total.true

pub write_numbers-requires : goal.write_numbers-requires
write_numbers-requires c = line-fits c.requires c.find_end-end.ensures c.if-out-total.false

pub returns : goal.returns
returns c xs i = let a = c in answer-fits (number_bytes (line_numbers xs)) a.args.out.now
    (omega (arith, line-total (c.find_end-end.ensures xs i), c.if-out-total.false)) (line-total (c.find_end-end.ensures xs i)) (c.write_numbers.ensures xs i)
