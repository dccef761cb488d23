-- So far the first k records are written.
use borrow.Author.Rules.{rules}
use Rattle.std.specs.Int.{w32, w64}
use Rattle.number.specs.Word.{back}
use Rattle.emit.specs.WriteLaws.{records-turn}
use Rattle.emit.proofs.bytes.put_records.Goals as goal

pub loop-k-preserved : goal.loop-k-preserved
loop-k-preserved c =
    let s = c.args.slopes.now in
    let l = c.loop-k in
    records-turn c.args.out.now l.out _ c.args.at l.k s.amounts.values s.amounts.floors s.amounts.ceilings s.held _ _ _ _
    (back w32 _ (search rules)) (back w32 _ (search rules)) (back w32 _ (search rules)) (back w64 _ (search rules))
    l.invariant c.put_record.ensures
