-- The inner run's numbers moved by what the outer one adds, and the greater of its figure and the outer one's.
use Rattle.std.proofs.Common.{◌≡◌, pos, ◌+ℤ◌, sym, ap, ◌∙◌, arith, w64, to_z, of_z, rules}
use Rattle.number.specs.Integer.{max_z}
use Rattle.number.specs.IntegerLaws.{abs-+, sfits-abs}
use Rattle.number.specs.Word.{back}
use Rattle.modes.specs.FourModes.{lift, read_held, store_held}
use Rattle.modes.specs.Runs.{moved}
use Rattle.modes.specs.Bound.{size_held}
use Rattle.modes.proofs.Bound.{size-moved}
use Rattle.modes.proofs.StoreLaws.{held_back, at-least-max}
use Rattle.figure.specs.Mode.{mode_of}
use Rattle.figure.specs.Stored.{combined, run_after}
use Rattle.figure.proofs.Rooms.{Back, fields_back, heaviest-room}
use Rattle.figure.proofs.runs.compose_heaviest.Goals as goal

pub sum-requires : goal.sum-requires
sum-requires c =
    let f : Back c.args.outer = fields_back c.args.outer (search rules) (search rules) (search rules) (search rules) in
    let g : Back c.args.inner = fields_back c.args.inner (search rules) (search rules) (search rules) (search rules) in
    simp (f.third_back, g.first_back) (heaviest-room c.args.outer c.args.inner c.requires).empty

pub moved_by-requires : goal.moved_by-requires
moved_by-requires c =
    let f : Back c.args.outer = fields_back c.args.outer (search rules) (search rules) (search rules) (search rules) in
    let g : Back c.args.inner = fields_back c.args.inner (search rules) (search rules) (search rules) (search rules) in
    let b = c.read_held.ensures ∙ ap read_held g.second_back in
    simp f.third_back (omega (arith, ap size_held b, (heaviest-room c.args.outer c.args.inner c.requires).other))

pub sum-third-requires : goal.sum-third-requires
sum-third-requires c =
    let f : Back c.args.outer = fields_back c.args.outer (search rules) (search rules) (search rules) (search rules) in
    let g : Back c.args.inner = fields_back c.args.inner (search rules) (search rules) (search rules) (search rules) in
    simp (f.third_back, g.third_back) (heaviest-room c.args.outer c.args.inner c.requires).add

pub returns : goal.returns
unfolding run_after mode_of combined
returns c =
    let f : Back c.args.outer = fields_back c.args.outer (search rules) (search rules) (search rules) (search rules) in
    let g : Back c.args.inner = fields_back c.args.inner (search rules) (search rules) (search rules) (search rules) in
    let v = c.args.outer.third in
    let r = heaviest-room c.args.outer c.args.inner c.requires in
    let b = c.read_held.ensures ∙ ap read_held g.second_back in
    let moved-is : to_z w64 (of_z w64 c.store_held.result) ≡ store_held (moved (read_held c.args.inner.second) v) =
    back w64 c.store_held.result c.store_held.type_inv ∙ c.store_held.ensures
    ∙ ap store_held ((simp f.third_back at c.moved_by.ensures) ∙ ap (λ h. moved h v) b) in
    let first = back w64 c.max-first.result c.max-first.type_inv
    ∙ (simp (f.second_back, back w64 c.sum.result c.sum.type_inv) at c.max-first.ensures)
    ∙ ap (max_z c.args.outer.second) (simp (f.third_back, g.first_back) at c.sum.ensures)
    ∙ sym (at-least-max c.args.outer.second (c.args.inner.first +ℤ v) (sfits-abs w64 (c.args.inner.first +ℤ v) (omega (arith, abs-+ c.args.inner.first v, r.empty)))) in
    let h = moved (read_held c.args.inner.second) v in
    let second = back w64 c.combine_heaviest-second.result c.combine_heaviest-second.type_inv
    ∙ (simp (f.second_back, moved-is) at c.combine_heaviest-second.ensures)
    ∙ ap (λ k. store_held (lift max_z (read_held c.args.outer.second) k)) (held_back h (omega (arith, size-moved (read_held c.args.inner.second) v, r.other))) in
    let third = back w64 c.sum-third.result c.sum-third.type_inv ∙ (simp (f.third_back, g.third_back) at c.sum-third.ensures) in
    λ i. record { first = first i; second = second i; third = third i; fourth = pos 0 }
