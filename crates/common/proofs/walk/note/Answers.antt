-- An open gets its number, a close may leave fewer shared.
use Rattle.std.proofs.Common.{rules}
use Rattle.common.specs.WalkLaws.{note-open, note-close}
use Rattle.common.proofs.walk.note.Goals as goal

pub returns-in-Open : goal.returns-in-Open
returns-in-Open c xs k i l e = let a = c in note-open a.args.f xs k i l e c.in-Open.is a.requires.0 c.shared_after_open.ensures

pub returns-in-Close : goal.returns-in-Close
returns-in-Close c xs k i l e = let a = c in note-close a.args.f xs k i l e c.in-Close.is (search rules)
