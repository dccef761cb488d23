-- `work::line::through_line` meets its contract: each turn goes through one level, the deepest first.
use mathlib.Core.Path.{refl}
use native.Mathlib.Omega.{arith}
use mir.Syntax.{w64}
use mir.Val.{SFits, to_z, of_z}
use lib.IntN.{ℤ}
use Prim.Native.Nat.{ℕ}
use mathlib.Core.List.{List}
use Rattle.run_level.specs.declared.Place.{Place}
use mir.Facts.{to_z-of_z}
use Rattle.number.specs.Word.{back}
use Rattle.work.specs.Promised.{Runs}
use Rattle.work.specs.LineLaws.{reads-next, steps_next, going_next, going_end}
use Rattle.work.proofs.line.through_line.Goals as goal

asked : {row : List ℕ} {m : ℕ} {o c : Place} {low high : ℕ} {x : ℤ} → SFits w64 x → Runs row m o c low high x → Runs row m o c low high (to_z w64 (of_z w64 x))
asked f v = rw (to_z-of_z f) v

pub read_level-requires : goal.read_level-requires
read_level-requires c =
    let a = c.args in
    let l = c.loop-depth in
    reads-next a.row.now a.mode a.opener a.closer a.low a.high _ (asked c.ranges.x c.requires) _ l.depth l.invariant (omega arith)

pub through_level-y-requires : goal.through_level-y-requires
through_level-y-requires c =
    let a = c.args in
    let l = c.loop-depth in
    steps_next a.row.now a.mode a.opener a.closer a.low a.high _ (asked c.ranges.x c.requires) _ l.depth l.invariant (omega arith) _ _ c.read_level.ensures refl

pub loop-depth-preserved : goal.loop-depth-preserved
loop-depth-preserved c =
    let a = c.args in
    let l = c.loop-depth in
    going_next a.row.now a.mode a.opener a.closer a.low a.high _ (asked c.ranges.x c.requires) _ l.depth l.invariant (omega arith) _ _ _ _ c.read_level.ensures refl (back w64 _ c.through_level-y.type_inv) c.through_level-y.ensures

pub returns : goal.returns
returns c =
    let a = c.args in
    let l = c.loop-depth in
    rw (to_z-of_z c.ranges.x) at (going_end a.row.now a.mode a.opener a.closer a.low a.high _ (asked c.ranges.x c.requires) _ l.depth l.invariant (omega arith))
