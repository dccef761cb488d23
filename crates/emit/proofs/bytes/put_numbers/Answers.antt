-- So far the first i numbers are written.
use borrow.Author.Rules.{rules}
use Rattle.std.specs.Int.{w64}
use Rattle.number.specs.Word.{back}
use Rattle.emit.specs.WriteLaws.{numbers-turn}
use Rattle.emit.proofs.bytes.put_numbers.Goals as goal

pub loop-i-preserved : goal.loop-i-preserved
loop-i-preserved c =
    let a = c.args in
    let l = c.loop-i in
    numbers-turn a.out.now l.out _ a.at l.i a.xs.now _ (back w64 _ (search rules)) l.invariant c.write_i64.ensures
