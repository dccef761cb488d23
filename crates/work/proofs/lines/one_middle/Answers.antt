-- `work::lines::one_middle` meets its contract: blanks are passed, up to the first hill.
use Rattle.std.proofs.Common.{sym, subst, arith}
use mir.Syntax.{w64}
use Rattle.number.specs.Word.{back}
use Rattle.work.specs.Promised.{IsPlaceOfHill}
use Rattle.work.specs.RowLaws.{hill-place}
use Rattle.work.specs.LinesLaws.{seek-start, is-hill, seek-hill, seek-next}
use Rattle.work.proofs.lines.one_middle.Goals as goal

pub loop-k-init : goal.loop-k-init
loop-k-init c = seek-start c.requires

pub read_middle-requires : goal.read_middle-requires
read_middle-requires c =
    let l = c.loop-k in
    subst (IsPlaceOfHill c.args.hills.row.now) (sym c.place_of.ensures) (hill-place c.requires l.k (omega arith) (is-hill c.requires l.k l.invariant (omega arith) c.if-is_some.ensures))

pub returns-then-is_some : goal.returns-then-is_some
returns-then-is_some c =
    let l = c.loop-k in
    seek-hill c.requires l.k l.invariant (omega arith) c.if-is_some.ensures _ _ _ c.place_of.ensures (back w64 _ c.read_middle.type_inv) c.read_middle.ensures

pub loop-k-preserved : goal.loop-k-preserved
loop-k-preserved c = let l = c.loop-k in seek-next c.requires l.k l.invariant (omega arith) c.if-is_some.ensures
