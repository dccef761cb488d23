-- In each arm the kind and the length are put into `by_shape`.
use Rattle.std.proofs.Common.{◌≡◌, ◌⊎◌, inl, inr, List, ℕ, sym, ◌∙◌, arith, ne_eqb}
use Rattle.gate.specs.Outcome.{Outcome}
use Rattle.record.specs.Record.{open_of, whole, read_of, by_shape}
use Rattle.record.specs.declared.Fields.{Fields}
use Rattle.record.proofs.Laws.{read_short}
use Rattle.record.proofs.read_first.Goals as goal

pub returns-then-chunk-lt4 : goal.returns-then-chunk-lt4
unfolding read_of by_shape
returns-then-chunk-lt4 c = sym (read_short _ (omega arith))

by_length : (k n : ℕ) (s : List ℕ) {r : Outcome Fields} → k ≡ 1 → (n ≡ 18) ⊎ (n ≡ 22) → r ≡ whole s (open_of n s) → r ≡ by_shape k n s
unfolding by_shape
by_length k n s ek (inl e) h = rw (ek, e) (rw e at h)
by_length k n s ek (inr e) h = rw (ek, e) (rw e at h)

pub returns-in-1-eq18 : goal.returns-in-1-eq18
unfolding read_of
returns-in-1-eq18 c =
    rw (← c.read_u16-kind.ensures, ← c.read_u16-length.ensures)
    (by_length _ _ _ c.in-1-eq18.is-0 c.in-1-eq18.is-1 c.read_open.ensures)

pub returns-in-1-eq10 : goal.returns-in-1-eq10
unfolding read_of by_shape
returns-in-1-eq10 c = rw (sym c.read_u16-kind.ensures ∙ c.in-1-eq10.is-0, sym c.read_u16-length.ensures ∙ c.in-1-eq10.is-1) c.read_short.ensures

pub returns-in-2-eq6 : goal.returns-in-2-eq6
unfolding read_of by_shape
returns-in-2-eq6 c = rw (sym c.read_u16-kind.ensures ∙ c.in-2-eq6.is-0, sym c.read_u16-length.ensures ∙ c.in-2-eq6.is-1) c.read_close.ensures

-- the lengths that suit no open record, ..
pub returns-in_default : goal.returns-in_default
unfolding read_of by_shape
returns-in_default c =
    rw (
      sym c.read_u16-kind.ensures ∙ c.in_default.is-0,
      ← c.read_u16-length.ensures,
      ne_eqb c.read_u16-length.result 18 (grind arith),
      ne_eqb c.read_u16-length.result 22 (grind arith),
      ne_eqb c.read_u16-length.result 10 (omega arith),
    )

-- .. no close, ..
pub returns-in_default-2 : goal.returns-in_default-2
unfolding read_of by_shape
returns-in_default-2 c =
    rw (sym c.read_u16-kind.ensures ∙ c.in_default.is-0, ← c.read_u16-length.ensures, ne_eqb c.read_u16-length.result 6 (omega arith))

-- .. and the other kinds
pub returns-in_default-3 : goal.returns-in_default-3
unfolding read_of by_shape
returns-in_default-3 c =
    rw (← c.read_u16-kind.ensures, ne_eqb c.read_u16-kind.result 1 (omega arith), ne_eqb c.read_u16-kind.result 2 (omega arith))
