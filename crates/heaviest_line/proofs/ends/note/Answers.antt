-- An open goes on with the sum of its way, a close may be an end.
use Prim.Native.Nat.{◌+◌, ◌^◌, ◌<◌}
use borrow.Author.Rules.{rules}
use lib.IntN.{pos}
use lib.ListN.{get_or}
use lib.Signed.{mag}
use mir.Syntax.{w32, w64}
use Rattle.number.specs.Word.{back}
use Rattle.heaviest_line.specs.SearchLaws.{note-open, note-close}
use Rattle.heaviest_line.proofs.ends.note.Goals as goal

pub returns-in-Open : goal.returns-in-Open
returns-in-Open c xs k i l e =
    let a = c in
    let h : mag a.args.f.value < 2 ^ 31 = search rules in
    note-open a.args.f a.requires xs k i l e c.in-Open.is (back w32 a.args.f.value h) c.after_open.ensures

pub returns-in-Close : goal.returns-in-Close
returns-in-Close c xs k i l e =
    let a = c in
    let z = get_or a.args.sums.now (a.args.f.depth + 1) (pos 0) in
    note-close a.args.f a.requires xs k i l e c.in-Close.is (back w64 z c.after_close-arg-1.given) c.after_close.ensures
