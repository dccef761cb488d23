-- Each turn passes the first piece of what is left.
use Rattle.std.proofs.Common.{◌≡◌, suc, ◌+◌, ◌-◌, sym, subst, drop, arith}
use Rattle.row.specs.Laws.{first-inside, end_of, end_none, end_step}
use Rattle.row.proofs.end_of.Goals as goal

pub overflow_add-at : goal.overflow_add-at
overflow_add-at c =
    let i = first-inside c.args.row.now c.loop.at c.first_length-at.result c.first_length-at.ensures c.loop.invariant.within in
    omega arith

pub loop-preserved : goal.loop-preserved
loop-preserved c =
    let row = c.args.row.now in
    let n = c.args.n in
    let at = c.loop.at in
    let k = c.loop.counter in
    let first = c.first_length-at.result in
    let e : n - k ≡ suc (n - (k + 1)) = omega arith in
    record {
      passed = end_step row at first (n - (k + 1)) (end_of n row) c.first_length-at.ensures (subst (λ m. at + end_of m (drop at row) ≡ end_of n row) e c.loop.invariant.passed);
      within = first-inside row at first c.first_length-at.ensures c.loop.invariant.within;
    }

pub returns : goal.returns
unfolding end_of
returns c =
    let left = drop c.loop.at c.args.row.now in
    let e : c.args.n - c.loop.counter ≡ 0 = omega arith in
    let z : end_of (c.args.n - c.loop.counter) left ≡ 0 = subst (λ m. end_of m left ≡ 0) (sym e) (end_none left) in
    omega (arith, c.loop.invariant.passed, z)
