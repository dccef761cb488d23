-- `record::read_open` meets its contract: the bytes are there or not; each field is what was read, and `accept` says the rest.
use mathlib.Core.Path.{◌∙◌}
use mir.Syntax.{w32}
use mir.Facts.{to_z-of_z}
use borrow.Author.Tests.{le-leb, lt-leb}
use Rattle.record.specs.Record.{whole}
use Rattle.record.proofs.read_open.Goals as goal

pub returns-then-chunk-len : goal.returns-then-chunk-len
unfolding whole
returns-then-chunk-len c = rw (lt-leb _ _ c.if-chunk-len.true)

pub returns : goal.returns
unfolding whole
returns c =
    rw (le-leb _ _ c.if-chunk-len.false)
    (simp (
      c.read_u16.ensures,
      to_z-of_z {w = w32} (record { sfits = c.read_i32.type_inv }) ∙ c.read_i32.ensures,
      to_z-of_z {w = w32} (record { sfits = c.read_i32-2.type_inv }) ∙ c.read_i32-2.ensures,
      to_z-of_z {w = w32} (record { sfits = c.read_i32-3.type_inv }) ∙ c.read_i32-3.ensures,
      c.read_batch.ensures,
    ) at c.accept.ensures)
