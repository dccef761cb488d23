-- Records are closed as long as there are both, the outcome joins the level below, and the rest goes down.
use Rattle.std.proofs.Common.{◌<◌, ◌^◌, arith, rules, w64}
use Rattle.std.specs.Int.Signed.{mag}
use Rattle.number.specs.Word.{back}
use Rattle.slopes.specs.Kept.{arrays_of}
use Rattle.codec.specs.CloseLaws.{falls, below-adds, sunk-down}
use Rattle.codec.proofs.sink_all.Goals as goal

pub close_down-deeper-requires : goal.close_down-deeper-requires
close_down-deeper-requires c = falls c.requires c.min-both.ensures

pub add-mid-requires : goal.add-mid-requires
add-mid-requires c =
    let m : mag c.args.start.mid < 2 ^ 63 = search rules in
    let r = c.close_down-deeper in
    rw (back w64 c.args.start.mid m, back w64 r.result r.type_inv) (below-adds c.requires c.min-both.ensures r.ensures)

pub leave_rest-requires : goal.leave_rest-requires
leave_rest-requires c =
    let m : mag c.args.start.mid < 2 ^ 63 = search rules in
    let d = c.add-mid in
    let r = c.close_down-deeper in
    record {
      within = omega arith;
      closed = λ l. omega arith;
      from = arrays_of c.args.slopes.now;
      counted = c.args.start;
      asked = c.requires;
      sunk = sunk-down c.requires c.min-both.ensures r.ensures (rw (back w64 d.result d.type_inv) (rw (back w64 c.args.start.mid m, back w64 r.result r.type_inv) at d.ensures));
    }

pub returns : goal.returns
returns c =
    let m : mag c.args.start.mid < 2 ^ 63 = search rules in
    let d = c.add-mid in
    let r = c.close_down-deeper in
    c.leave_rest.ensures (arrays_of c.args.slopes.now) c.args.start c.requires
    (sunk-down c.requires c.min-both.ensures r.ensures (rw (back w64 d.result d.type_inv) (rw (back w64 c.args.start.mid m, back w64 r.result r.type_inv) at d.ensures)))
