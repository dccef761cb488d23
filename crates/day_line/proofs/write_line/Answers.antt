-- The four items, one after the other, are the line.
use Rattle.std.proofs.Common.{◌≡◌, [], refl, arith, rules, w64, to_z, of_z}
use Rattle.day_line.proofs.Wrote.{Wrote, next, four, short}
use Rattle.day_line.proofs.write_line.Goals as goal

pub returns : goal.returns
returns c =
    let f = c.args.figures in
    let net : to_z w64 (of_z w64 f.net) ≡ f.net = search rules in
    let heaviest : to_z w64 (of_z w64 f.heaviest) ≡ f.heaviest = search rules in
    let eaten : to_z w64 (of_z w64 f.eaten) ≡ f.eaten = search rules in
    let stamp : to_z w64 (of_z w64 f.stamp) ≡ f.stamp = search rules in
    let none : Wrote c.args.out.now [] c.args.out.now 0 = record { is = refl; end = refl } in
    let one = next 32 none net c.write_item-at.ensures.answer c.write_item-at.ensures.buffer in
    let two = next 32 one heaviest c.write_item-at-2.ensures.answer c.write_item-at-2.ensures.buffer in
    let three = next 32 two eaten c.write_item-at-3.ensures.answer c.write_item-at-3.ensures.buffer in
    let w = next 10 three stamp c.write_item.ensures.answer c.write_item.ensures.buffer in
    record { answer = rw (← four f) w.end; buffer = rw (← four f) w.is; fits = omega (arith, short) }
