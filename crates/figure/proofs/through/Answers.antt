-- Each mode by its function; a number other than 2, 4 and 5 stands for mode 1.
use Rattle.std.proofs.Common.{ℕ, sym, ap, ◌∙◌, subst, to_z-of_z, w64, rules}
use Rattle.number.specs.Word.{back}
use Rattle.modes.specs.FourModes.{eaten_of, store_held}
use Rattle.figure.specs.Mode.{Mode, mode_of}
use Rattle.figure.specs.Stored.{passed, amounts, Passes}
use Rattle.figure.proofs.Modes.{other-mode}
use Rattle.figure.proofs.through.Goals as goal

pub through_net-requires : goal.through_net-requires
through_net-requires c =
    let s = c in
    simp (to_z-of_z s.ranges.value, to_z-of_z s.ranges.held) (subst (λ (M : Mode). Passes M s.args.value s.args.held) (other-mode s.args.mode (search rules) (search rules) (search rules)) s.requires)

pub returns-in-2 : goal.returns-in-2
unfolding passed mode_of store_held
returns-in-2 c =
    let s = c in
    back w64 c.through_heaviest.result c.through_heaviest.type_inv ∙ (simp (to_z-of_z s.ranges.value, to_z-of_z s.ranges.held) at c.through_heaviest.ensures)
    ∙ sym (ap (λ (m : ℕ). passed (mode_of m) (amounts s.args.value s.args.floor s.args.ceiling) s.args.held) c.in-2.is)

pub returns-in-5 : goal.returns-in-5
unfolding passed mode_of eaten_of store_held
returns-in-5 c =
    let s = c in
    back w64 c.through_eaten.result c.through_eaten.type_inv ∙ (simp (to_z-of_z s.ranges.value, to_z-of_z s.ranges.floor, to_z-of_z s.ranges.ceiling, to_z-of_z s.ranges.held) at c.through_eaten.ensures)
    ∙ sym (ap (λ (m : ℕ). passed (mode_of m) (amounts s.args.value s.args.floor s.args.ceiling) s.args.held) c.in-5.is)

pub returns-in_default : goal.returns-in_default
unfolding passed mode_of
returns-in_default c =
    let s = c in
    back w64 c.through_net.result c.through_net.type_inv ∙ (simp (to_z-of_z s.ranges.value, to_z-of_z s.ranges.held) at c.through_net.ensures)
    ∙ sym (ap (λ (M : Mode). passed M (amounts s.args.value s.args.floor s.args.ceiling) s.args.held) (other-mode s.args.mode (search rules) (search rules) (search rules)))
