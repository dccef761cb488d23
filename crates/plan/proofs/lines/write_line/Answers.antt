-- `plan::lines::write_line` meets its contract: six numbers of two bytes.
use Rattle.plan.specs.LinesLaws.{line-written}
use Rattle.plan.proofs.lines.write_line.Goals as goal

pub returns : goal.returns
returns c =
    let a = c.args in
    line-written a.out.now _ _ _ _ _ _ a.at a.line c.write_u16.ensures c.write_u16-2.ensures (rw c.from.ensures at c.write_u16-3.ensures) (rw c.from-2.ensures at c.write_u16-4.ensures) (rw c.from-3.ensures at c.write_u16-5.ensures) (rw c.from-4.ensures at c.write_u16-6.ensures)
