use mathlib.Core.Path.{sym, ◌∙◌}
use native.Mathlib.Omega.{arith}
use Rattle.figure.specs.Stored.{mode_small}
use Rattle.farms.specs.CallLaws.{fresh-yes, fresh-no}
use Rattle.farms.proofs.fresh.Goals as goal

pub overflow_cast-mode : goal.overflow_cast-mode
overflow_cast-mode c =
    omega (arith, mode_small c.args.mode (sym c.in_use.ensures ∙ c.if-in_use.true))

pub returns-then-in_use : goal.returns-then-in_use
returns-then-in_use c =
    let a = c in
    let r = fresh-yes a.args.mode a.args.state.now _ c.in_use.ensures c.if-in_use.true c.make_all_blank.ensures in
    record { answer = r.0; state = r.1 }

pub returns : goal.returns
returns c =
    let r = fresh-no c.args.mode _ c.in_use.ensures c.if-in_use.false in
    record { answer = r.0; state = r.1 }
