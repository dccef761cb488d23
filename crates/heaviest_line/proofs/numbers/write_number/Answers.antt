-- Three ways.
use Rattle.heaviest_line.specs.NumberingLaws.{write-close, write-deeper, write-open}
use Rattle.heaviest_line.proofs.numbers.write_number.Goals as goal

pub returns-in-Close : goal.returns-in-Close
returns-in-Close c xs before k i l e = write-close c.args.f xs before k i l e c.in-Close.is

pub returns-in-Open : goal.returns-in-Open
returns-in-Open c xs before k i l e = let a = c in write-deeper a.args.f xs before k i l e c.in-Open.is c.if-depth-f.true

pub returns-in-Open-2 : goal.returns-in-Open-2
returns-in-Open-2 c xs before k i l e =
    let a = c in
    write-open a.args.f xs before k i l e c.in-Open.is c.if-depth-f.false a.requires.1 c.write_u32.ensures
