-- `row_plan::scan::keep` meets its contract: one line more, where there is a depth.
use Rattle.std.proofs.Common.{arith}
use Rattle.row_plan.specs.ScanLaws.{keep_one, keep-none, room-one}
use Rattle.row_plan.proofs.scan.keep.Goals as goal

pub bounds-lines-n : goal.bounds-lines-n
bounds-lines-n c = room-one c.args.n c.args.i c.args.j c.args.low c.args.top c.requires.top_bound (omega arith)

pub returns-then-low-top : goal.returns-then-low-top
returns-then-low-top c =
    let a = c.args in
    keep_one a.lines.now a.n a.i a.j a.low a.top (omega arith) (omega (arith, room-one a.n a.i a.j a.low a.top c.requires.top_bound (omega arith)))

pub returns : goal.returns
returns c =
    let a = c.args in
    keep-none a.lines.now a.n a.i a.j a.low a.top (omega arith) (omega arith)
