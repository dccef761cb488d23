-- An open is put on top, a close prints its line.
use Rattle.sheet.specs.PrintingLaws.{ready-open, ready-close, noted-open, noted-close}
use Rattle.sheet.proofs.page.Open.note.Goals as goal

pub open-requires : goal.open-requires
open-requires c = ready-open c.requires

pub returns-in-Open : goal.returns-in-Open
returns-in-Open c = noted-open c.requires c.in-Open.is c.open.ensures

pub close-requires : goal.close-requires
close-requires c = ready-close c.requires c.in-Close.is

pub returns-in-Close : goal.returns-in-Close
returns-in-Close c = noted-close c.requires c.in-Close.is c.close.ensures
