-- Both sides combined are a stored stamp, and go through the record.
use Rattle.std.proofs.Common.{◌≡◌, ◌+◌, ◌^◌, ◌<◌, pos, ◌∙◌, arith, to_z-of_z, w64, to_z, of_z, ℤ}
use Rattle.number.specs.Word.{back}
use Rattle.figure.specs.Mode.{mode_of}
use Rattle.figure.specs.Stored.{size_of, combined, amounts, level_run, combined-size, combined-stored, Levels}
use Rattle.figure.proofs.Rooms.{passed-combined}
use Rattle.figure.proofs.runs.level_stamp.Goals as goal

both-room : (v b a : ℤ) → Levels (mode_of 4) v b a → size_of (mode_of 4) b + size_of (mode_of 4) a < 2 ^ 63
both-room v b a h = omega (arith, h.room)

pub through_stamp-q-requires : goal.through_stamp-q-requires
through_stamp-q-requires c =
    let h = both-room _ _ _ c.requires in
    let b : to_z w64 (of_z w64 c.combine_stamps.result) ≡ combined (mode_of 4) c.args.before c.args.behind =
    back w64 c.combine_stamps.result c.combine_stamps.type_inv ∙ (simp (to_z-of_z c.ranges.before, to_z-of_z c.ranges.behind) at c.combine_stamps.ensures) in
    simp (to_z-of_z c.ranges.value, b)
    (record {
      stored = combined-stored (mode_of 4) c.args.before c.args.behind h;
      room = omega (arith, combined-size (mode_of 4) c.args.before c.args.behind h, c.requires.room);
    })

pub returns : goal.returns
unfolding level_run mode_of
returns c =
    let b : to_z w64 (of_z w64 c.combine_stamps.result) ≡ combined (mode_of 4) c.args.before c.args.behind =
    back w64 c.combine_stamps.result c.combine_stamps.type_inv ∙ (simp (to_z-of_z c.ranges.before, to_z-of_z c.ranges.behind) at c.combine_stamps.ensures) in
    let q = back w64 c.through_stamp-q.result c.through_stamp-q.type_inv
    ∙ (simp (to_z-of_z c.ranges.value, to_z-of_z c.ranges.floor, to_z-of_z c.ranges.ceiling, b) at c.through_stamp-q.ensures)
    ∙ passed-combined (mode_of 4) (amounts c.args.value c.args.floor c.args.ceiling) c.args.before c.args.behind (both-room _ _ _ c.requires) in
    λ i. record { first = pos 31; second = q i; third = pos 0; fourth = pos 0 }
