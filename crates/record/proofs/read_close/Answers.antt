-- `record::read_close` meets its contract: the bytes are there or not; then `accept` says the rest.
use borrow.Author.Tests.{le-leb, lt-leb}
use Rattle.record.specs.Record.{whole}
use Rattle.record.proofs.read_close.Goals as goal

pub returns-then-chunk-lt6 : goal.returns-then-chunk-lt6
unfolding whole
returns-then-chunk-lt6 c = rw (lt-leb _ _ c.if-chunk-lt6.true)

pub returns : goal.returns
unfolding whole
returns c =
    rw (le-leb 6 _ c.if-chunk-lt6.false)
    (simp c.read_u16.ensures at c.accept.ensures)
