-- `work::given::middles` meets its contract: one piece more at each turn.
use Rattle.std.proofs.Common.{refl, sym, arith}
use mir.Syntax.{w64}
use Rattle.number.specs.Word.{back}
use Rattle.work.specs.GivenLaws.{between_start, adds-next, between_next, between_skip}
use Rattle.work.proofs.given.middles.Goals as goal

pub loop-k-init : goal.loop-k-init
loop-k-init c = rw c.from-k.ensures (between_start c.requires _ _ (back w64 _ c.nothing-acc.type_inv) c.nothing-acc.ensures)

pub add_middle-acc-requires : goal.add_middle-acc-requires
add_middle-acc-requires c =
    let l = c.loop-k in
    adds-next c.requires _ l.k l.invariant (omega (arith, c.from-k-end.ensures)) _ _ c.place_of.ensures refl

pub loop-k-preserved-then-not-has_peak : goal.loop-k-preserved-then-not-has_peak
loop-k-preserved-then-not-has_peak c =
    let l = c.loop-k in
    between_skip c.requires _ l.k l.invariant (omega (arith, c.from-k-end.ensures)) (sym c.if-not-has_peak.ensures)

pub loop-k-preserved : goal.loop-k-preserved
loop-k-preserved c =
    let l = c.loop-k in
    between_next c.requires _ l.k l.invariant (omega (arith, c.from-k-end.ensures)) _ _ _ _ c.place_of.ensures refl (back w64 _ c.add_middle-acc.type_inv) c.add_middle-acc.ensures
