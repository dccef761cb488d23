-- by the test
use Rattle.std.proofs.Common.{◌≡◌, ℕ, Bool, true, false, cond, T, ℤ, nat_abs, sym, ap, ◌∙◌, subst, to_z-of_z, rules}
use Rattle.modes.specs.FourModes.{read_held}
use Rattle.modes.specs.Bound.{size_held}
use Rattle.figure.specs.Mode.{stores_nothing, mode_of}
use Rattle.figure.specs.Stored.{size_of, size_is}
use Rattle.figure.proofs.size.Goals as goal

size-by : (m : ℕ) (z : ℤ) (t : Bool) → stores_nothing m ≡ t → (m ≡ 4 → ⊥) → cond t (size_held (read_held z)) (nat_abs z) ≡ size_of (mode_of m) z
size-by m z t e n = sym (size_is m n z ∙ ap (λ (s : Bool). cond s (size_held (read_held z)) (nat_abs z)) e)

not-4 : (m : ℕ) → stores_nothing m ≡ true → m ≡ 4 → ⊥
not-4 m e q = subst T (sym e ∙ ap stores_nothing q) tt

pub returns-then-stores_nothing : goal.returns-then-stores_nothing
returns-then-stores_nothing c =
    let s = c in
    let t = sym c.stores_nothing.ensures ∙ c.if-stores_nothing.true in
    c.size_held.ensures ∙ ap size_held (c.read_held.ensures ∙ ap read_held (to_z-of_z s.ranges.x)) ∙ size-by s.args.mode s.args.x true t (not-4 s.args.mode t)

pub returns-in-4 : goal.returns-in-4
unfolding size_of mode_of
returns-in-4 c =
    let s = c in
    sym (ap (λ (m : ℕ). size_of (mode_of m) s.args.x) c.in-4.is)

pub returns-in_default : goal.returns-in_default
returns-in_default c =
    let s = c in
    let t = sym c.stores_nothing.ensures ∙ c.if-stores_nothing.false in
    c.unsigned_abs.ensures.value ∙ ap nat_abs (to_z-of_z s.ranges.x) ∙ size-by s.args.mode s.args.x false t (search rules)
