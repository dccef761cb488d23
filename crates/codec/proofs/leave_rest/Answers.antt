-- So far the left values up to i have gone down; where no record is open, the next one leaves its level.
use Rattle.std.proofs.Common.{◌≡◌, ◌∙◌, refl, arith, w64}
use Rattle.number.specs.Word.{back}
use Rattle.codec.specs.LoadLaws.{leaves-fit, leaves-combine, next-leaves}
use Rattle.codec.proofs.leave_rest.Goals as goal

pub combine-requires : goal.combine-requires
combine-requires c =
    let p = c.requires in
    let closed = p.closed (omega arith) in
    let sunk = c.loop-i.invariant p.from p.counted p.asked p.sunk in
    let x = back w64 c.read_i64-x.result c.read_i64-x.type_inv ∙ c.read_i64-x.ensures in
    leaves-combine p.asked (omega arith) sunk closed x refl

pub bounds-slopes-nl : goal.bounds-slopes-nl
bounds-slopes-nl c =
    let p = c.requires in
    let closed = p.closed (omega arith) in
    let sunk = c.loop-i.invariant p.from p.counted p.asked p.sunk in
    let x = back w64 c.read_i64-x.result c.read_i64-x.type_inv ∙ c.read_i64-x.ensures in
    leaves-fit p.asked (omega arith) sunk closed x

pub loop-i-preserved : goal.loop-i-preserved
loop-i-preserved c =
    let t = c.combine in
    let closed = c.requires.closed (omega arith) in
    let x = back w64 c.read_i64-x.result c.read_i64-x.type_inv ∙ c.read_i64-x.ensures in
    λ A n p s. next-leaves p (omega arith) (c.loop-i.invariant A n p s)
    closed x (back w64 t.result t.type_inv ∙ t.ensures) (back w64 c.nothing-mid.result c.nothing-mid.type_inv ∙ c.nothing-mid.ensures)

pub returns : goal.returns
returns c =
    let e : c.loop-i.i ≡ c.args.k = omega arith in
    λ A n p s. rw e at (c.loop-i.invariant A n p s)
