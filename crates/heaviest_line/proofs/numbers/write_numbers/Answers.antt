-- The reader cannot refuse, and the end of the line is met.
use mathlib.Core.Path.{sym}
use native.Mathlib.Omega.{arith}
use lib.ListN.{length-drop}
use Rattle.number.specs.Laws.{part-rest}
use Rattle.record.proofs.Laws.{sound}
use Rattle.whole_log.specs.Second as second
use Rattle.heaviest_line.specs.NumberingLaws.{numbering-begin, some_left, numbering-next, numbered}
use Rattle.heaviest_line.proofs.numbers.write_numbers.Goals as goal

pub loop-number-init : goal.loop-number-init
loop-number-init c = numbering-begin c.requires

pub returns-in_default : goal.returns-in_default
returns-in_default c xs i =
    let l = c.loop-number in
    absurd (second.not-refused l.invariant.second (some_left l.invariant c.loop-number-test.true) (sym c.in_default.ensures))

pub slice_bounds-rest-count : goal.slice_bounds-rest-count
slice_bounds-rest-count c = (sound _ _ (sym c.in-Some.ensures)).inside

pub slice_bounds-rest-start : goal.slice_bounds-rest-start
slice_bounds-rest-start c = (sound _ _ (sym c.in-Some.ensures)).inside

pub loop-number-smaller : goal.loop-number-smaller
loop-number-smaller c =
    let l = c.loop-number in
    let f = c.in-Some.f in
    rw (part-rest f.length l.rest.now) (omega (arith, length-drop f.length l.rest.now, sound _ _ (sym c.in-Some.ensures)))

pub loop-number-preserved : goal.loop-number-preserved
loop-number-preserved c =
    let l = c.loop-number in
    numbering-next l.invariant c.loop-number-test.true (sym c.in-Some.ensures) c.write_number-number.ensures

pub returns : goal.returns
returns c xs i = let l = c.loop-number in numbered l.invariant c.loop-number-test.false xs i
