-- By the layout, in which the bytes have room for the numbers of their mode.
use Rattle.std.proofs.Common.{sym}
use Rattle.backwards.specs.Laws.{too_short, laid, bad-layout, good-layout}
use Rattle.backwards.proofs.is_run.Goals as goal

pub returns-then-b-lt6 : goal.returns-then-b-lt6
returns-then-b-lt6 c = sym (too_short _ c.if-b-lt6.true)

pub returns-then-not-layout_fits : goal.returns-then-not-layout_fits
returns-then-not-layout_fits c = sym (bad-layout _ (cc))

pub read_run-requires : goal.read_run-requires
read_run-requires c = let e = laid c.args.b.now (cc) in cc

pub returns : goal.returns
returns c = let e = good-layout c.args.b.now (cc) in cc
