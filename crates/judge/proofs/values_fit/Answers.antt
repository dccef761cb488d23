-- By the mode.
use mathlib.Core.Path.{ap, sym, ◌∙◌}
use Prim.Native.Nat.{ℕ}
use Rattle.judge.specs.Laid.{sizes_fit}
use Rattle.judge.proofs.Values.{values-stamps, values-sizes}
use Rattle.judge.proofs.values_fit.Goals as goal

pub returns-then-mode-eq4 : goal.returns-then-mode-eq4
returns-then-mode-eq4 c = c.stamps_fit.ensures ∙ values-stamps _ (sym c.read_u16-mode.ensures ∙ c.if-mode-eq4.true)

pub returns : goal.returns
returns c =
    let b = c.args.b.now in
    let m = c.read_u16-mode in
    c.sizes_fit.ensures ∙ ap (λ (k : ℕ). sizes_fit k b) m.ensures ∙ values-sizes b (λ e. c.if-mode-eq4.false (m.ensures ∙ e))
