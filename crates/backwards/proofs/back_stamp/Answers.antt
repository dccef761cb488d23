-- The three numbers are stamps, and the machine's wrapping is the definition's remainder.
use Rattle.std.proofs.Common.{◌≡◌, Bool, true, ℤ, sym, refl, ap, ◌∙◌, to_z-of_z, w64, rules}
use Rattle.gate.specs.Outcome.{granted}
use Rattle.number.specs.Word.{back}
use Rattle.modes.specs.FourModes.{is_stamp}
use Rattle.figure.specs.Mode.{mode_of}
use Rattle.backwards.specs.Laws.{back-stamp-wrapped, stamp_range, stamp-as}
use Rattle.backwards.proofs.back_stamp.Goals as goal

is-stamp-y : (y : ℤ) {b : Bool} → b ≡ (mode_of 4).is_figure y → b ≡ true → is_stamp y ≡ true
unfolding mode_of
is-stamp-y y e t = sym e ∙ t

pub to_u32-m-requires : goal.to_u32-m-requires
to_u32-m-requires c = simp (back w64 c.args.k.first (search rules)) (stamp_range c.args.k.first (c.requires.times-stamp refl))

pub to_u32-q-requires : goal.to_u32-q-requires
to_u32-q-requires c = simp (back w64 c.args.k.second (search rules)) (stamp_range c.args.k.second (c.requires.plus-stamp refl))

pub to_u32-requires : goal.to_u32-requires
to_u32-requires c = simp (to_z-of_z c.ranges.y) (stamp_range c.args.y (is-stamp-y c.args.y (c.is_figure.ensures ∙ ap (λ z. (mode_of 4).is_figure z) (to_z-of_z c.ranges.y)) c.if-not-is_figure.false))

pub returns : goal.returns
returns c =
    let k = c.args.k in
    let y = c.args.y in
    let yes = is-stamp-y y (c.is_figure.ensures ∙ ap (λ z. (mode_of 4).is_figure z) (to_z-of_z c.ranges.y)) c.if-not-is_figure.false in
    let times = stamp-as k.first _ (c.requires.times-stamp refl) (c.to_u32-m.ensures ∙ back w64 k.first (search rules)) in
    let plus = stamp-as k.second _ (c.requires.plus-stamp refl) (c.to_u32-q.ensures ∙ back w64 k.second (search rules)) in
    let outer = stamp-as y _ yes (c.to_u32.ensures ∙ to_z-of_z c.ranges.y) in
    ap granted (back w64 c.from.result c.from.type_inv ∙ c.from.ensures) ∙ back-stamp-wrapped k y yes times plus outer c.inverse_of.ensures
