-- The fit is tested before the first store.
use Rattle.std.proofs.Common.{arith}
use Rattle.gate.proofs.Promises.{bytes-stored, bytes-too-long}
use Rattle.hill.specs.Row.{joined}
use Rattle.day_list.specs.Days.{small_days}
use Rattle.small_days.specs.CallLaws.{small, total-is}
use Rattle.small_days.proofs.put_days.Goals as goal

pub returns-then-out-total : goal.returns-then-out-total
returns-then-out-total c =
    let r = c.requires in
    bytes-too-long (joined (small_days c.args.n)) c.args.out.now (total-is c.args.n r.some r.few c.opening_ways-count.ensures) c.if-out-total.true

pub write_days-requires-clause-small : goal.write_days-requires-clause-small
write_days-requires-clause-small c = small c.args.n c.requires.some c.requires.few c.opening_ways-count.ensures

pub write_days-requires-clause-room : goal.write_days-requires-clause-room
write_days-requires-clause-room c = omega (arith, total-is c.args.n c.requires.some c.requires.few c.opening_ways-count.ensures)

pub returns : goal.returns
returns c =
    let r = c.requires in
    bytes-stored (joined (small_days c.args.n)) c.args.out.now (total-is c.args.n r.some r.few c.opening_ways-count.ensures) c.if-out-total.false c.write_days.ensures
