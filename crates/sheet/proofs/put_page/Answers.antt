-- 18 and 12 are asked, then the page is printed.
use Rattle.std.proofs.Common.{refl, arith}
use Rattle.sheet.specs.CallLaws.{short, put}
use Rattle.sheet.proofs.put_page.Goals as goal

pub returns-then-out-total : goal.returns-then-out-total
returns-then-out-total c xs i = let a = c in short a.args.mode a.args.page a.requires.mode_value a.requires.opens xs i (omega arith) refl c.lines_from-lines.ensures a.args.out.now (omega arith)

pub returns : goal.returns
returns c xs i = let a = c in put a.args.mode a.args.page a.requires.mode_value a.requires.opens xs i (omega arith) refl c.lines_from-lines.ensures a.args.out.now refl (omega arith) (c.print.ensures xs i.formed)
