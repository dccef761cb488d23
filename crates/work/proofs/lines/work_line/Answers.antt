-- `work::lines::work_line` meets its contract: the line's x, through its run.
use mir.Syntax.{w64}
use Rattle.number.specs.Word.{back}
use Rattle.work.specs.LinesLaws.{line-runs}
use Rattle.work.proofs.lines.work_line.Goals as goal

pub through_line-requires : goal.through_line-requires
through_line-requires c =
    line-runs c.requires _ _ (back w64 _ c.given-x.type_inv) c.given-x.ensures _ _ (rw c.from.ensures at c.place_of-opener.ensures) (rw c.from-2.ensures at c.place_of-closer.ensures)
