-- An open is put on top; a close closes.
use Rattle.std.proofs.Common.{◌≡◌, ◌∙◌, Bool, true, ℕ, ◌+◌, ◌<◌, ◌^◌, add-one, rules, w64, to_z-of_z}
use Rattle.std.specs.Int.Signed.{mag}
use Rattle.number.specs.Word.{back}
use Rattle.hill.specs.Log.{opening}
use Rattle.hill.specs.Summary.{Hill}
use Rattle.hill.specs.Building.{step}
use Rattle.modes.specs.FourModes.{Amounts}
use Rattle.figure.specs.Mode.{Mode, mode_of}
use Rattle.figure.specs.Stored.{amounts}
use Rattle.slopes.specs.declared.Counts.{Counts}
use Rattle.slopes.specs.Arrays.{Arrays, Fig, slopes_of, weight_of, StandsFor}
use Rattle.slopes.specs.Kept.{arrays_of}
use Rattle.slopes.specs.Actions.{entry, cost}
use Rattle.slopes.specs.Laws.{opened}
use Rattle.slopes.proofs.Slopes.apply.Goals as goal

open-way : {M : Mode} {A : Arrays} {c : Counts} (h : Hill (Fig M) Amounts) (d : ℕ) (r : Amounts) {o : Bool} → o ≡ true
    → StandsFor M A c (step M.algebra h (opening d r)) (weight_of M h + M.sizes.unit)
    → StandsFor M A c (step M.algebra h (entry o d r)) (weight_of M h + cost M o)
open-way h d r e s = rw e s

pub returns-then-opens : goal.returns-then-opens
returns-then-opens c depth =
    let o = c.if-opens.true in
    let m : mag c.args.c.mid < 2 ^ 63 = search rules in
    let z = back w64 c.nothing.result c.nothing.type_inv in
    let room = c.requires.room.up o in
    let M = mode_of c.args.mode in
    let A = arrays_of c.args.self.now in
    let r = amounts c.args.value c.args.floor c.args.ceiling in
    rw c.push.ensures.left
    (open-way (slopes_of M A c.args.c) depth r o
    (opened {M = M} {A = A} c.requires.able depth r room.0 room.1 (z ∙ c.nothing.ensures) (add-one _) (back w64 c.args.c.mid m)
    (rw (to_z-of_z c.ranges.value, to_z-of_z c.ranges.floor, to_z-of_z c.ranges.ceiling) at c.push.ensures.on-top)))
