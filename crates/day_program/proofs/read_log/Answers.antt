use Rattle.std.proofs.Common.{◌-◌, ◌∙◌, length-take, drop, subst, sym, arith}
use Rattle.std.proofs.KnownBytes.{Consumes-trans}
use Rattle.std.specs.Io.KnownBytes.{Consumes}
use borrow.Rule.Slice.PartMut.{same_len_mid}
use Rattle.day_program.proofs.Buffers.{filled}
use Rattle.day_program.proofs.read_log.Goals as goal

pub loop-at-preserved : goal.loop-at-preserved
loop-at-preserved g c =
    let at = c.loop-at.at in
    let left = length-take (65537 - at) (drop at c.loop-at.log) in
    let now = filled at (65537 - at) c.in_ok-n.n c.loop-at.log c.read.new.buf (omega (arith, c.loop-at.invariant.0, c.loop-at.invariant.1)) c.in_ok-n.ensures.bound.0 in (
      same_len_mid at (65537 - at) c.loop-at.log c.read.new.buf c.read.auto.buf ∙ c.loop-at.invariant.0,
      omega (arith, c.in_ok-n.ensures.bound.0, c.read.auto.buf, left, c.loop-at.invariant.1),
      subst (Consumes _ _) (sym now) (Consumes-trans _ _ _ _ _ c.loop-at.invariant.2 c.in_ok-n.ensures.bytes.0),
    )
