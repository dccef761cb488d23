-- `record::read_short` meets its contract: the bytes are there or not; then `accept` says the rest.
use mathlib.Core.Path.{◌∙◌}
use mir.Syntax.{w32}
use mir.Facts.{to_z-of_z}
use borrow.Author.Tests.{le-leb, lt-leb}
use Rattle.record.specs.Record.{whole}
use Rattle.record.proofs.read_short.Goals as goal

pub returns-then-chunk-lt10 : goal.returns-then-chunk-lt10
unfolding whole
returns-then-chunk-lt10 c = rw (lt-leb _ _ c.if-chunk-lt10.true)

pub returns : goal.returns
unfolding whole
returns c =
    rw (le-leb 10 _ c.if-chunk-lt10.false)
    (simp (
      c.read_u16.ensures,
      to_z-of_z {w = w32} (record { sfits = c.read_i32.type_inv }) ∙ c.read_i32.ensures,
    ) at c.accept.ensures)
