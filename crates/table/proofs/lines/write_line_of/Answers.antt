-- An open has a line, and a close has none.
use mathlib.Core.Path.{◌≡◌}
use lib.ListN.{length}
use borrow.Author.Rules.{rules}
use mir.Syntax.{w32}
use mir.Val.{to_z, of_z}
use Rattle.table.specs.LoopLaws.{line-fits, line-stored, close-stored}
use Rattle.table.proofs.lines.write_line_of.Goals as goal

pub write_line-requires : goal.write_line-requires
write_line-requires c = let a = c in line-fits a.args.f a.args.at (length a.args.out.now) c.in-Open.is a.requires

pub returns-in-Open : goal.returns-in-Open
returns-in-Open c =
    let a = c in
    let v : to_z w32 (of_z w32 a.args.f.value) ≡ a.args.f.value = search rules in
    let l : to_z w32 (of_z w32 a.args.f.floor) ≡ a.args.f.floor = search rules in
    let h : to_z w32 (of_z w32 a.args.f.ceiling) ≡ a.args.f.ceiling = search rules in
    line-stored a.args.f a.args.at a.args.out.now _ _ _ _ c.in-Open.is c.write_line.ensures v l h

pub returns-in-Close : goal.returns-in-Close
returns-in-Close c = close-stored c.args.f c.args.at c.args.out.now c.in-Close.is
