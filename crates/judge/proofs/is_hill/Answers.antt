-- The levels and the layout first, so that the other bytes are there; then the opened records, so that sums fit.
use mathlib.Core.Path.{◌≡◌, ap₂, sym, ◌∙◌}
use mathlib.Core.Bool.{Bool}
use mathlib.Core.List.{List}
use Rattle.summary.specs.Judge.{rise_at, fall_at}
use Prim.Native.Nat.{ℕ, ◌+◌, ◌*◌}
use native.Mathlib.Omega.{arith}
use Rattle.summary.specs.Decide.{layout_fits}
use Rattle.judge.specs.Laid.{hill_length}
use Rattle.judge.proofs.Parts.{short-hill, levels-of, laid_of, few-of, bad-levels, bad-opened, hill-tests}
use Rattle.judge.proofs.is_hill.Goals as goal

layout : (b : List ℕ) (x y : ℕ) (r : Bool) → r ≡ layout_fits b 18 (24 + 8 * x + 20 * y) → x ≡ rise_at b → y ≡ fall_at b → layout_fits b 18 (hill_length b) ≡ r
layout b x y r e p q = sym (e ∙ ap₂ (λ (k l : ℕ). layout_fits b 18 (24 + 8 * k + 20 * l)) p q)

pub returns-then-b-lt24 : goal.returns-then-b-lt24
returns-then-b-lt24 c = sym (short-hill _ c.if-b-lt24.true)

pub returns-then-not-levels_fit : goal.returns-then-not-levels_fit
returns-then-not-levels_fit c = sym (bad-levels _ (sym c.levels_fit.ensures ∙ c.if-not-levels_fit.true))

pub rise-requires : goal.rise-requires
rise-requires c = levels-of _ (omega arith) (sym c.levels_fit.ensures ∙ c.if-not-levels_fit.false)

pub overflow_mul-rise : goal.overflow_mul-rise
overflow_mul-rise c = let l = levels-of _ (omega arith) (sym c.levels_fit.ensures ∙ c.if-not-levels_fit.false) in omega arith

pub overflow_add-rise : goal.overflow_add-rise
overflow_add-rise c = let l = levels-of _ (omega arith) (sym c.levels_fit.ensures ∙ c.if-not-levels_fit.false) in omega arith

pub fall-requires : goal.fall-requires
fall-requires c = levels-of _ (omega arith) (sym c.levels_fit.ensures ∙ c.if-not-levels_fit.false)

pub overflow_mul-fall : goal.overflow_mul-fall
overflow_mul-fall c = let l = levels-of _ (omega arith) (sym c.levels_fit.ensures ∙ c.if-not-levels_fit.false) in omega arith

pub overflow_add-rise-2 : goal.overflow_add-rise-2
overflow_add-rise-2 c = let l = levels-of _ (omega arith) (sym c.levels_fit.ensures ∙ c.if-not-levels_fit.false) in omega arith

pub returns-then-not-opened_fits : goal.returns-then-not-opened_fits
returns-then-not-opened_fits c = sym (bad-opened _ (sym c.opened_fits.ensures ∙ c.if-not-opened_fits.true))

pub middle_fits-requires : goal.middle_fits-requires
middle_fits-requires c =
    let l = levels-of _ (omega arith) (sym c.levels_fit.ensures ∙ c.if-not-levels_fit.false) in
    let w = laid_of _ l (layout _ _ _ _ c.layout_fits.ensures c.rise.ensures c.fall.ensures ∙ c.if-not-layout_fits.false) in
    w

pub records_fit-requires : goal.records_fit-requires
records_fit-requires c =
    let l = levels-of _ (omega arith) (sym c.levels_fit.ensures ∙ c.if-not-levels_fit.false) in
    let w = laid_of _ l (layout _ _ _ _ c.layout_fits.ensures c.rise.ensures c.fall.ensures ∙ c.if-not-layout_fits.false) in
    w

pub values_fit-requires : goal.values_fit-requires
values_fit-requires c =
    let l = levels-of _ (omega arith) (sym c.levels_fit.ensures ∙ c.if-not-levels_fit.false) in
    let w = laid_of _ l (layout _ _ _ _ c.layout_fits.ensures c.rise.ensures c.fall.ensures ∙ c.if-not-layout_fits.false) in
    few-of _ w (sym c.opened_fits.ensures ∙ c.if-not-opened_fits.false)

pub returns : goal.returns
returns c =
    hill-tests _ _ _ _ (sym c.levels_fit.ensures ∙ c.if-not-levels_fit.false)
    (layout _ _ _ _ c.layout_fits.ensures c.rise.ensures c.fall.ensures ∙ c.if-not-layout_fits.false)
    (sym c.opened_fits.ensures ∙ c.if-not-opened_fits.false)
    c.middle_fits.ensures c.records_fit.ensures c.values_fit.ensures
