-- `runs::line::run_of_line` meets its contract: one level more around the run at each turn.
use mathlib.Core.Path.{refl}
use Prim.Native.Nat.{◌-◌}
use native.Mathlib.Omega.{arith}
use Rattle.runs.specs.LineLaws.{first-level, pass-first, next_level, composes-next, pass-next, pass-end}
use Rattle.runs.proofs.line.run_of_line.Goals as goal

pub run_of_level-run-requires : goal.run_of_level-run-requires
run_of_level-run-requires c = let a = c.args in first-level a.row.now a.mode a.opener a.closer a.low a.high c.requires

pub loop-depth-init : goal.loop-depth-init
loop-depth-init c = let a = c.args in pass-first a.row.now a.mode a.opener a.closer a.low a.high c.requires c.run_of_level-run.result c.run_of_level-run.ensures

pub run_of_level-outer-requires : goal.run_of_level-outer-requires
run_of_level-outer-requires c =
    let a = c.args in
    let l = c.loop-depth in
    next_level a.row.now a.mode a.opener a.closer a.low a.high c.requires l.run l.depth (l.depth - 1) l.invariant c.loop-depth-test.true refl

pub compose-run-requires : goal.compose-run-requires
compose-run-requires c =
    let a = c.args in
    let l = c.loop-depth in
    composes-next a.row.now a.mode a.opener a.closer a.low a.high c.requires l.run l.depth (l.depth - 1) l.invariant c.loop-depth-test.true refl c.run_of_level-outer.result c.run_of_level-outer.ensures

pub loop-depth-preserved : goal.loop-depth-preserved
loop-depth-preserved c =
    let a = c.args in
    let l = c.loop-depth in
    pass-next a.row.now a.mode a.opener a.closer a.low a.high c.requires l.run l.depth (l.depth - 1) l.invariant c.loop-depth-test.true refl c.run_of_level-outer.result c.compose-run.result c.run_of_level-outer.ensures c.compose-run.ensures

pub returns : goal.returns
returns c =
    let a = c.args in
    let l = c.loop-depth in
    pass-end a.row.now a.mode a.opener a.closer a.low a.high c.requires l.run l.depth l.invariant (omega (arith, c.loop-depth-test.false))
