use Rattle.std.proofs.Common.{◌≡◌, refl}
use Rattle.gate.specs.Outcome.{refused}
use Rattle.valley_station.specs.Station.{send_outcome}
use Rattle.valley_station.specs.State.{station_of}
use Rattle.farms.specs.SlotLaws.{held-part}
use Rattle.farms.specs.CallLaws.{send-20, sent-slot, sent, not-sent}
use Rattle.farms.proofs.send_in.Goals as goal

pub returns-then-farm-gt7 : goal.returns-then-farm-gt7
returns-then-farm-gt7 c =
    let a = c in
    let e : send_outcome (station_of a.args.state.now) a.args.farm a.args.summary.now ≡ refused 20 = send-20 a.args.state.now a.args.farm a.args.summary.now c.if-farm-gt7.true in
    rw e record { answer = refl; state = refl }

pub settle-requires : goal.settle-requires
settle-requires c =
    let a = c in
    record { state_len = (a.requires, c.if-farm-gt7.false); slot = sent-slot a.args.state.now _ a.args.summary.now a.args.farm c.if-farm-gt7.false (held-part a.args.state.now _ _ c.held_end-end.ensures) _ _ c.merge.ensures.answer c.merge.ensures.buffer c.in-Ok.is }

pub returns-in-Ok : goal.returns-in-Ok
returns-in-Ok c =
    let a = c in
    let r = sent a.args.state.now _ a.args.summary.now a.args.farm c.if-farm-gt7.false (held-part a.args.state.now _ _ c.held_end-end.ensures) _ _ c.merge.ensures.answer c.merge.ensures.buffer _ _ c.in-Ok.is c.settle.ensures.answer c.settle.ensures.state in
    record { answer = r.0; state = r.1 }

pub returns-in-Err : goal.returns-in-Err
returns-in-Err c =
    let a = c in
    let n = not-sent a.args.state.now _ a.args.summary.now a.args.farm c.if-farm-gt7.false (held-part a.args.state.now _ _ c.held_end-end.ensures) _ _ c.merge.ensures.answer c.merge.ensures.buffer c.in-Err.is in
    rw n record { answer = refl; state = refl }
