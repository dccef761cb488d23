-- `work::given::outcomes` meets its contract: one line more at each turn.
use Rattle.std.proofs.Common.{refl, ◌^◌, ◌<◌, get_or, pos, arith, rules}
use lib.Signed.{mag}
use mir.Syntax.{w64}
use Rattle.number.specs.Word.{back}
use Rattle.work.specs.GivenLaws.{collect-start, joins-next, collect-next}
use Rattle.work.proofs.given.outcomes.Goals as goal

pub loop-k-init : goal.loop-k-init
loop-k-init c = collect-start _ c.args.lines.now c.args.outs.now c.args.i c.args.j c.args.level c.requires _ _ (back w64 _ c.nothing-acc.type_inv) c.nothing-acc.ensures

pub add_outcome-acc-requires : goal.add_outcome-acc-requires
add_outcome-acc-requires c =
    let a = c.args in
    let l = c.loop-k in
    let h : mag (get_or a.outs.now l.k (pos 0)) < 2 ^ 63 = search rules in
    joins-next _ a.lines.now a.outs.now a.i a.j a.level c.requires _ l.k l.invariant (omega arith) _ _ (back w64 (get_or a.outs.now l.k (pos 0)) h) refl

pub loop-k-preserved : goal.loop-k-preserved
loop-k-preserved c =
    let a = c.args in
    let l = c.loop-k in
    let h : mag (get_or a.outs.now l.k (pos 0)) < 2 ^ 63 = search rules in
    collect-next _ a.lines.now a.outs.now a.i a.j a.level c.requires _ l.k l.invariant (omega arith) _ _ _ _ _ refl (back w64 (get_or a.outs.now l.k (pos 0)) h) refl (back w64 _ c.add_outcome-acc.type_inv) c.add_outcome-acc.ensures
