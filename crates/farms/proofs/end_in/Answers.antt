use Rattle.std.proofs.Common.{◌≡◌, refl, ap, length}
use Rattle.std.proofs.lemmas.Result.{err_from_is_err_and}
use Rattle.gate.specs.Outcome.{refused}
use Rattle.judge.specs.Laws.{judges, judges-not}
use Rattle.judge.specs.declared.Piece.{Piece}
use Rattle.valley_station.specs.Station.{end_outcome}
use Rattle.valley_station.specs.State.{station_of}
use Rattle.farms.specs.SlotLaws.{held-part}
use Rattle.farms.specs.CallLaws.{end-20, end-5, end-12, end-yes}
use Rattle.farms.proofs.end_in.Goals as goal

pub returns-then-farm-gt7 : goal.returns-then-farm-gt7
returns-then-farm-gt7 c =
    let a = c in
    let e : end_outcome (station_of a.args.state.now) a.args.farm (length a.args.out.now) ≡ refused 20 = end-20 a.args.state.now a.args.farm (length a.args.out.now) c.if-farm-gt7.true in
    rw e record { answer = refl; buffer = refl; state = refl }

pub returns-in-Err : goal.returns-in-Err
returns-in-Err c =
    let a = c in
    let n = judges-not _ _ c.judge.ensures _ c.in-Err.is in
    let r = end-5 a.args.state.now _ a.args.farm (length a.args.out.now) c.if-farm-gt7.false (held-part a.args.state.now _ _ c.held_end-end.ensures) n.0 in
    rw r record { answer = ap (λ k. refused k) n.1; buffer = refl; state = refl }

pub returns-in_err-length : goal.returns-in_err-length
returns-in_err-length c =
    let a = c in
    let j = judges _ c.judge.result c.judge.ensures _ c.in-Ok.is in
    let e = err_from_is_err_and c.from_residual.result c.from_residual.ensures.1 in
    let r = end-12 a.args.state.now _ a.args.farm (length a.args.out.now) c.if-farm-gt7.false (held-part a.args.state.now _ _ c.held_end-end.ensures) j.test _ a.args.out.now _ c.hand_out.ensures _ c.in_err-length.was in
    rw (e.1, e.2, r.1.0, r.0) record { answer = refl; buffer = r.1.1; state = refl }

pub returns : goal.returns
returns c =
    let a = c in
    let j = judges _ c.judge.result c.judge.ensures _ c.in-Ok.is in
    let r = end-yes a.args.state.now _ a.args.farm (length a.args.out.now) c.if-farm-gt7.false (held-part a.args.state.now _ _ c.held_end-end.ensures) j.test _ a.args.out.now _ c.hand_out.ensures _ c.in_ok-length.was _ _ (ap (λ (x : Piece). x.mode) j.piece) c.make_blank.ensures in
    record { answer = r.0; buffer = r.1.0; state = r.1.1 }
