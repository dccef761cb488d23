-- `row_plan::scan::lines_to` meets its contract: what is kept, with the lines still to come, stays the same.
use Rattle.std.proofs.Common.{◌≡◌, ◌-◌, min, arith}
use Rattle.row_plan.specs.declared.scan.OpenDepths.{OpenDepths}
use Rattle.row_plan.specs.Arrays.{depths_at}
use Rattle.row_plan.specs.ScanLaws.{lines-none, walk_start, walk-depths-room, walk-depths, walk-above, walk_end, walk-done, whole-room}
use Rattle.row_plan.proofs.scan.lines_to.Goals as goal

pub returns-in_default : goal.returns-in_default
returns-in_default c = let a = c.args in lines-none a.notes.now a.j a.lines.now a.n c.in_default.ensures (omega arith)

pub loop-i-init : goal.loop-i-init
loop-i-init c = let a = c.args in (walk_start a.notes.now a.j a.lines.now a.n c.in-Some.hill c.in-Some.ensures (omega arith), omega arith)

pub returns-then-passed-hill : goal.returns-then-passed-hill
returns-then-passed-hill c =
    let a = c.args in
    let l = c.loop-i in
    let q : OpenDepths = depths_at a.depths.now (l.i - 1) in
    let e : min q.peak l.m ≡ q.peak = omega arith in
    walk-done a.notes.now a.j a.n a.lines.now c.keep-k.new.lines c.in-Some.hill.peak q.peak (l.i - 1) c.keep-k.result
    (rw e at (walk-depths a.notes.now a.j _ l.lines c.in-Some.hill.peak l.m l.i (l.i - 1) l.k l.invariant.0 (omega arith) q (c.requires.noted.each (l.i - 1) (omega arith)) (omega arith) c.keep-k.result c.keep-k.new.lines (rw (c.max.ensures, c.min.ensures) at c.keep-k.ensures)))
    (omega arith)

pub keep-k-requires-clause-top_bound : goal.keep-k-requires-clause-top_bound
keep-k-requires-clause-top_bound c =
    let a = c.args in
    let l = c.loop-i in
    let q : OpenDepths = depths_at a.depths.now (l.i - 1) in
    rw (c.max.ensures, c.min.ensures)
    (walk-depths-room a.notes.now a.j _ l.lines c.in-Some.hill.peak l.m l.i (l.i - 1) l.k l.invariant.0 (omega arith) q (c.requires.noted.each (l.i - 1) (omega arith)) (whole-room a.notes.now a.j a.lines.now a.n (omega arith) c.requires.n_bound))

pub loop-i-preserved-then-m-passed : goal.loop-i-preserved-then-m-passed
loop-i-preserved-then-m-passed c =
    let a = c.args in
    let l = c.loop-i in
    (walk-above a.notes.now a.j _ l.lines c.in-Some.hill.peak l.m l.i (l.i - 1) l.k l.invariant.0 (omega arith) (depths_at a.depths.now (l.i - 1)) (c.requires.noted.each (l.i - 1) (omega arith)) (omega arith) (omega arith), omega arith)

pub loop-i-preserved : goal.loop-i-preserved
loop-i-preserved c =
    let a = c.args in
    let l = c.loop-i in
    let q : OpenDepths = depths_at a.depths.now (l.i - 1) in
    let e : min q.peak l.m ≡ q.peak = omega arith in
    (rw e at (walk-depths a.notes.now a.j _ l.lines c.in-Some.hill.peak l.m l.i (l.i - 1) l.k l.invariant.0 (omega arith) q (c.requires.noted.each (l.i - 1) (omega arith)) (omega arith) c.keep-k.result c.keep-k.new.lines (rw (c.max.ensures, c.min.ensures) at c.keep-k.ensures)), omega arith)

pub returns : goal.returns
returns c =
    let a = c.args in
    let l = c.loop-i in
    walk_end a.notes.now a.j a.n a.lines.now l.lines c.in-Some.hill.peak l.m l.i l.k l.invariant.0 (omega arith)
