-- Nothing after a fault, else an open or a close in each mode.
use Rattle.std.proofs.Common.{◌≡◌, ◌<◌, ◌^◌, None, rules, w64}
use Rattle.std.specs.Int.Signed.{mag}
use Rattle.number.specs.Word.{back}
use Rattle.day.specs.Pass.{applied-open, asks-net, asks-heaviest, asks-eaten, asks-stamp, applied-close}
use Rattle.day.proofs.apply.Goals as goal

pub returns-in-Open : goal.returns-in-Open
returns-in-Open c =
    let none : c.args.fault ≡ None = search rules in
    applied-open c.requires none c.in-Open.is c.open.ensures

-- the middle values, as the code reads them
pub close_top-net-requires : goal.close_top-net-requires
close_top-net-requires c =
    let none : c.args.fault ≡ None = search rules in
    let m : mag c.args.mid.net < 2 ^ 63 = search rules in
    asks-net c.requires none c.in-Close.is (back w64 c.args.mid.net m)

pub close_top-heaviest-requires : goal.close_top-heaviest-requires
close_top-heaviest-requires c =
    let none : c.args.fault ≡ None = search rules in
    let m : mag c.args.mid.heaviest < 2 ^ 63 = search rules in
    asks-heaviest c.requires none c.in-Close.is (back w64 c.args.mid.heaviest m)

pub close_top-eaten-requires : goal.close_top-eaten-requires
close_top-eaten-requires c =
    let none : c.args.fault ≡ None = search rules in
    let m : mag c.args.mid.eaten < 2 ^ 63 = search rules in
    asks-eaten c.requires none c.in-Close.is (back w64 c.args.mid.eaten m)

pub close_top-stamp-requires : goal.close_top-stamp-requires
close_top-stamp-requires c =
    let none : c.args.fault ≡ None = search rules in
    let m : mag c.args.mid.stamp < 2 ^ 63 = search rules in
    asks-stamp c.requires none c.in-Close.is (back w64 c.args.mid.stamp m)

pub returns-in-Close : goal.returns-in-Close
returns-in-Close c =
    let m = c.args.mid in
    let none : c.args.fault ≡ None = search rules in
    let n : mag m.net < 2 ^ 63 = search rules in
    let h : mag m.heaviest < 2 ^ 63 = search rules in
    let e : mag m.eaten < 2 ^ 63 = search rules in
    let s : mag m.stamp < 2 ^ 63 = search rules in
    applied-close c.requires none c.in-Close.is
    (back w64 m.net n) (back w64 c.close_top-net.result c.close_top-net.type_inv) c.close_top-net.ensures
    (back w64 m.heaviest h) (back w64 c.close_top-heaviest.result c.close_top-heaviest.type_inv) c.close_top-heaviest.ensures
    (back w64 m.eaten e) (back w64 c.close_top-eaten.result c.close_top-eaten.type_inv) c.close_top-eaten.ensures
    (back w64 m.stamp s) (back w64 c.close_top-stamp.result c.close_top-stamp.type_inv) c.close_top-stamp.ensures
