-- What the code reads is what stands in the bytes and in the arrays, and one turn closes one record more.
use Rattle.std.proofs.Common.{◌∙◌, refl, ◌-◌, ◌<◌, ◌^◌, arith, rules, w32, w64}
use Rattle.std.specs.Int.Signed.{mag}
use Rattle.number.specs.Word.{back}
use Rattle.slopes.specs.Arrays.{at}
use Rattle.codec.specs.CloseLaws.{none-carried, held-combines, here-combines, all-passes, next-carried}
use Rattle.codec.proofs.close_down.Goals as goal

pub loop-i-init : goal.loop-i-init
loop-i-init c = none-carried c.requires (back w64 c.nothing-deeper.result c.nothing-deeper.type_inv ∙ c.nothing-deeper.ensures)

pub combine-here-requires : goal.combine-here-requires
combine-here-requires c =
    let top = c.args.n - 1 - c.loop-i.i in
    let h : mag (at c.args.held.now top) < 2 ^ 63 = search rules in
    let x = back w64 c.read_i64-x.result c.read_i64-x.type_inv ∙ c.read_i64-x.ensures in
    rw (back w64 (at c.args.held.now top) h) (held-combines c.requires (omega arith) refl c.loop-i.invariant x)

pub combine-all-requires : goal.combine-all-requires
combine-all-requires c =
    let top = c.args.n - 1 - c.loop-i.i in
    let h : mag (at c.args.held.now top) < 2 ^ 63 = search rules in
    let x = back w64 c.read_i64-x.result c.read_i64-x.type_inv ∙ c.read_i64-x.ensures in
    let here = back w64 c.combine-here.result c.combine-here.type_inv ∙ rw (back w64 (at c.args.held.now top) h, x) at c.combine-here.ensures in
    here-combines c.requires (omega arith) refl c.loop-i.invariant here

pub through-deeper-requires : goal.through-deeper-requires
through-deeper-requires c =
    let top = c.args.n - 1 - c.loop-i.i in
    let h : mag (at c.args.held.now top) < 2 ^ 63 = search rules in
    let v : mag (at c.args.amounts.now.values top) < 2 ^ 31 = search rules in
    let x = back w64 c.read_i64-x.result c.read_i64-x.type_inv ∙ c.read_i64-x.ensures in
    let here = back w64 c.combine-here.result c.combine-here.type_inv ∙ rw (back w64 (at c.args.held.now top) h, x) at c.combine-here.ensures in
    let all = back w64 c.combine-all.result c.combine-all.type_inv ∙ c.combine-all.ensures in
    rw (back w32 (at c.args.amounts.now.values top) v) (all-passes c.requires (omega arith) refl c.loop-i.invariant here all)

pub loop-i-preserved : goal.loop-i-preserved
loop-i-preserved c =
    let top = c.args.n - 1 - c.loop-i.i in
    let h : mag (at c.args.held.now top) < 2 ^ 63 = search rules in
    let v : mag (at c.args.amounts.now.values top) < 2 ^ 31 = search rules in
    let f : mag (at c.args.amounts.now.floors top) < 2 ^ 31 = search rules in
    let g : mag (at c.args.amounts.now.ceilings top) < 2 ^ 31 = search rules in
    let x = back w64 c.read_i64-x.result c.read_i64-x.type_inv ∙ c.read_i64-x.ensures in
    let here = back w64 c.combine-here.result c.combine-here.type_inv ∙ rw (back w64 (at c.args.held.now top) h, x) at c.combine-here.ensures in
    let all = back w64 c.combine-all.result c.combine-all.type_inv ∙ c.combine-all.ensures in
    let d = c.through-deeper in
    next-carried c.requires (omega arith) refl c.loop-i.invariant here all (back w64 d.result d.type_inv
    ∙ rw (back w32 (at c.args.amounts.now.values top) v, back w32 (at c.args.amounts.now.floors top) f, back w32 (at c.args.amounts.now.ceilings top) g) at d.ensures)
