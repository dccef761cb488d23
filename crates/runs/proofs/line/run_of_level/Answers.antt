-- `runs::line::run_of_level` meets its contract: what is read is a level.
use mir.Syntax.{w32, w64}
use Rattle.number.specs.Word.{back}
use Rattle.runs.specs.LineLaws.{level-asks}
use borrow.Author.Rules.{rules}
use Rattle.runs.proofs.line.run_of_level.Goals as goal

pub level-requires : goal.level-requires
level-requires c =
    let l = c.read_level-l in
    level-asks c.args.row.now c.args.mode c.args.opener c.args.closer c.args.depth c.requires l.result _ _ _ l.ensures
    (back w32 l.result.value (search rules)) (back w64 l.result.held (search rules)) (back w64 l.result.left (search rules))
