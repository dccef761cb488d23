-- `record::accept` meets its contract, in the two ways of the test: the machine reads the signed fields back from their bits.
use mathlib.Core.Path.{◌≡◌, sym, ◌∙◌}
use mir.Syntax.{w32}
use mir.Val.{to_z, of_z}
use Rattle.record.specs.Record.{accepted}
use borrow.Author.Rules.{rules}
use Rattle.record.proofs.accept.Goals as goal

pub returns-then-in_range : goal.returns-then-in_range
unfolding accepted
returns-then-in_range c =
    let f = c.args.f in
    let v : to_z w32 (of_z w32 f.value) ≡ f.value = search rules in
    let l : to_z w32 (of_z w32 f.floor) ≡ f.floor = search rules in
    let h : to_z w32 (of_z w32 f.ceiling) ≡ f.ceiling = search rules in
    rw (sym (simp (v, l, h) at c.in_range.ensures) ∙ c.if-in_range.true)

pub returns-else-in_range : goal.returns-else-in_range
unfolding accepted
returns-else-in_range c =
    let f = c.args.f in
    let v : to_z w32 (of_z w32 f.value) ≡ f.value = search rules in
    let l : to_z w32 (of_z w32 f.floor) ≡ f.floor = search rules in
    let h : to_z w32 (of_z w32 f.ceiling) ≡ f.ceiling = search rules in
    rw (sym (simp (v, l, h) at c.in_range.ensures) ∙ c.if-in_range.false)
