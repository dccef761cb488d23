use mathlib.Core.Path.{◌≡◌, refl}
use lib.ListN.{take}
use Rattle.gate.specs.Outcome.{refused, granted}
use Rattle.farms.specs.Promised.{asked21}
use Rattle.farms.specs.CallLaws.{draws-some, settle-21, settle-yes, slot-put}
use Rattle.farms.proofs.settle.Goals as goal

pub overflow_sub-all : goal.overflow_sub-all
overflow_sub-all c =
    let a = c in
    draws-some a.args.state.now (take a.args.n a.args.slot.now) a.args.farm _ _ 0 a.requires.state_len.1 c.excess-all.ensures.0 c.drawn_at-before.ensures.0

pub returns : goal.returns
returns c =
    let a = c in
    let e : asked21 a.args.state.now a.args.farm (take a.args.n a.args.slot.now) ≡ granted (take a.args.n a.args.slot.now) =
    settle-yes a.args.state.now (take a.args.n a.args.slot.now) a.args.farm _ _ _ a.requires.state_len.1 c.excess-all.ensures.0 c.drawn_at-before.ensures.0 c.drawn_by-after.ensures.0 c.if-all-before-gt-IN_COMMON.false in
    rw e record { answer = refl; state = slot-put a.args.state.now _ a.args.slot.now a.args.farm a.args.n a.requires.slot c.write_slot.ensures }

pub returns-then-all-before-gt-IN_COMMON : goal.returns-then-all-before-gt-IN_COMMON
returns-then-all-before-gt-IN_COMMON c =
    let a = c.args in
    let e : asked21 a.state.now a.farm (take a.n a.slot.now) ≡ refused 21 =
    settle-21 a.state.now (take a.n a.slot.now) a.farm _ _ _ c.requires.state_len.1 c.excess-all.ensures.0 c.drawn_at-before.ensures.0 c.drawn_by-after.ensures.0 c.if-all-before-gt-IN_COMMON.true in
    rw e record { answer = refl; state = refl }
