-- What the record holds beside the inner part is the greater of both sides; its line and what it moves to follow.
use Rattle.std.proofs.Common.{◌≡◌, ◌+◌, ◌^◌, ◌<◌, pos, ap, ◌∙◌, arith, to_z-of_z, w64, unsigned_abs, ℤ}
use Rattle.number.specs.Integer.{max_z}
use Rattle.number.specs.Word.{back, widened}
use Rattle.modes.specs.FourModes.{lift, line_of, read_held, store_held}
use Rattle.modes.specs.Runs.{moved}
use Rattle.modes.specs.Bound.{size_held}
use Rattle.modes.proofs.Bound.{size-lift, max-sum}
use Rattle.figure.specs.Mode.{mode_of}
use Rattle.figure.specs.Stored.{size_of, combined, level_run, combined-read, Levels}
use Rattle.modes.specs.declared.Held.{Held}
use Rattle.figure.proofs.runs.level_heaviest.Goals as goal

both-room : (v b a : ℤ) → Levels (mode_of 2) v b a → size_of (mode_of 2) b + size_of (mode_of 2) a < 2 ^ 63
both-room v b a h = omega (arith, h.room)

-- both sides, read back
other-is : (v b a r : ℤ) (h : Held) → Levels (mode_of 2) v b a → h ≡ read_held r → r ≡ combined (mode_of 2) b a → h ≡ lift max_z (read_held b) (read_held a)
unfolding mode_of
other-is v b a r h l e k = e ∙ ap read_held k ∙ combined-read (mode_of 2) b a (both-room v b a l)

room : (v b a : ℤ) (h : Held) → Levels (mode_of 2) v b a → h ≡ lift max_z (read_held b) (read_held a) → size_held h + unsigned_abs v < 2 ^ 63
unfolding size_of mode_of
room v b a h l e = omega (arith, l.room, ap size_held e, size-lift max_z max-sum (read_held b) (read_held a))

pub line-z-requires : goal.line-z-requires
line-z-requires c =
    let v = widened c.from-v.result c.args.value c.from-v.type_inv c.from-v.ensures c.ranges.value in
    let o = other-is c.args.value c.args.before c.args.behind _ c.read_held-other.result c.requires c.read_held-other.ensures
    (back w64 c.combine_heaviest.result c.combine_heaviest.type_inv ∙ (simp (to_z-of_z c.ranges.before, to_z-of_z c.ranges.behind) at c.combine_heaviest.ensures)) in
    simp v (omega (arith, room _ _ _ _ c.requires o))

pub moved_by-requires : goal.moved_by-requires
moved_by-requires c =
    let v = widened c.from-v.result c.args.value c.from-v.type_inv c.from-v.ensures c.ranges.value in
    let o = other-is c.args.value c.args.before c.args.behind _ c.read_held-other.result c.requires c.read_held-other.ensures
    (back w64 c.combine_heaviest.result c.combine_heaviest.type_inv ∙ (simp (to_z-of_z c.ranges.before, to_z-of_z c.ranges.behind) at c.combine_heaviest.ensures)) in
    simp v (omega (arith, room _ _ _ _ c.requires o))

pub returns : goal.returns
unfolding level_run mode_of
returns c =
    let v = widened c.from-v.result c.args.value c.from-v.type_inv c.from-v.ensures c.ranges.value in
    let o = other-is c.args.value c.args.before c.args.behind _ c.read_held-other.result c.requires c.read_held-other.ensures
    (back w64 c.combine_heaviest.result c.combine_heaviest.type_inv ∙ (simp (to_z-of_z c.ranges.before, to_z-of_z c.ranges.behind) at c.combine_heaviest.ensures)) in
    let z = back w64 c.line-z.result c.line-z.type_inv ∙ (simp v at c.line-z.ensures) ∙ ap (line_of c.args.value) o in
    let a = back w64 c.store_held-a.result c.store_held-a.type_inv ∙ c.store_held-a.ensures
    ∙ ap store_held ((simp v at c.moved_by.ensures) ∙ ap (λ h. moved h c.args.value) o) in
    λ i. record { first = z i; second = a i; third = v i; fourth = pos 0 }
