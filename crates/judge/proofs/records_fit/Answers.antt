-- Each turn judges one record's amounts; its depth fits, as the levels do.
use mathlib.Core.Path.{◌≡◌, sym, ap, ◌∙◌}
use Prim.Native.Nat.{ℕ, ◌+◌, ◌*◌, ◌≤◌}
use native.Mathlib.Omega.{arith}
use Rattle.record.specs.Record.{in_range}
use Rattle.record.proofs.RangeLaws.{depth-fits}
use Rattle.summary.specs.Judge.{peak_at, record_at, value_at, floor_at, ceiling_at}
use Rattle.summary.specs.Decide.{all_to, records_fit}
use Rattle.judge.specs.Laid.{record_in}
use Rattle.judge.proofs.Loops.{all_start, all-next, all_end}
use Rattle.judge.proofs.records_fit.Goals as goal

pub loop-j-init : goal.loop-j-init
loop-j-init c = all_start _ _

pub loop-j-preserved : goal.loop-j-preserved
loop-j-preserved c =
    let b = c.args.b.now in
    let j = c.loop-j.j in
    let first : 24 + 8 * c.rise.result + 20 * j ≡ record_at b j = ap (λ (x : ℕ). 24 + 8 * x + 20 * j) c.rise.ensures in
    let depth : peak_at b + j ≤ 63 = omega arith in
    all-next _ _ j c.loop-j.invariant c.loop-j-test.true (c.record_fits-all.ensures ∙ ap (record_in b) first ∙ sym (depth-fits (peak_at b + j) (value_at b j) (floor_at b j) (ceiling_at b j) depth))

pub returns : goal.returns
unfolding records_fit
returns c =
    let b = c.args.b.now in
    all_end _ _ c.loop-j.j c.loop-j.invariant c.loop-j-test.false ∙ ap (λ (n : ℕ). all_to n (λ j. in_range (peak_at b + j) (value_at b j) (floor_at b j) (ceiling_at b j))) c.fall-n.ensures
