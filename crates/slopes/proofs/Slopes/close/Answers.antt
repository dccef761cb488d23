-- The level is left, or the deepest record's figure joins the one below.
use Rattle.std.proofs.Common.{◌≡◌, ◌∙◌, suc, ◌-◌, ◌<◌, ◌^◌, arith, add-one, rules, w64}
use Rattle.std.specs.Int.Signed.{mag}
use Rattle.number.specs.Word.{back}
use Rattle.figure.specs.Mode.{mode_of}
use Rattle.slopes.specs.Kept.{arrays_of}
use Rattle.slopes.specs.Laws.{close-left, close-top}
use Rattle.slopes.proofs.Slopes.close.Goals as goal

pub returns-then-c-eq0 : goal.returns-then-c-eq0
returns-then-c-eq0 c =
    let m : mag c.args.c.mid < 2 ^ 63 = search rules in
    close-left {M = mode_of c.args.mode} {A = arrays_of c.args.self.now}
    c.requires.able c.if-c-eq0.true c.requires.can_close (add-one _) (back w64 c.args.c.mid m) (back w64 c.nothing.result c.nothing.type_inv ∙ c.nothing.ensures)

pub returns : goal.returns
returns c =
    let m : mag c.args.c.mid < 2 ^ 63 = search rules in
    let some : c.args.c.n ≡ suc (c.args.c.n - 1) = omega arith in
    close-top {M = mode_of c.args.mode} {A = arrays_of c.args.self.now}
    c.requires.able _ some (rw (back w64 c.close_top-mid.result c.close_top-mid.type_inv) (rw (back w64 c.args.c.mid m) at c.close_top-mid.ensures))
