-- What question 5 counts and takes of a stored number is what the mode says of it. Assumes nothing.
use Rattle.std.specs.Prelude.{◌≡◌, refl, ◌≢◌, Bool, true, false, cond, ℕ, zero, suc, ℤ, nat_abs}
use Rattle.std.proofs.Common.{ap, arith}
use Rattle.number.specs.Integer.{same}
use Rattle.modes.specs.FourModes.{limit, nothing, read_held, store_held, is_stamp}
use Rattle.modes.specs.Bound.{size_held}
use Rattle.modes.proofs.StoreLaws.{read-figure, held-stored, is-stamp, stamp-is}
use Rattle.figure.specs.Mode.{Mode, mode_of, mode_in_use}
use Rattle.figure.specs.Stored.{mode_small, IsStored, size_of, none}
use Rattle.summary.specs.Judge.{nothing_in, counted}
use Rattle.summary.proofs.Tests.{Tells, tells-same, false-true}

-- Mode M has number m.
pub record Numbered (m : ℕ) (M : Mode) : Type 0 where
  pub nothing_is : none M ≡ nothing_in m
  -- modes 1, 2 and 5
  pub unit-is : m ≢ 4 → M.sizes.unit ≡ limit
  pub size_is : m ≢ 4 → (z : ℤ) → size_of M z ≡ counted m z
  pub any-stored : m ≢ 4 → (z : ℤ) → IsStored M z
  -- mode 4
  pub unit-one : m ≡ 4 → M.sizes.unit ≡ 1
  pub size_none : m ≡ 4 → (z : ℤ) → size_of M z ≡ 0
  pub stamp-stored : m ≡ 4 → (z : ℤ) → is_stamp z ≡ true → IsStored M z
  pub stored-stamp : m ≡ 4 → (z : ℤ) → IsStored M z → is_stamp z ≡ true

pub size-held : (z : ℤ) → size_held (read_held z) ≡ cond (same z nothing) 0 (nat_abs z)
unfolding size_held read_held
size-held z = go (same z nothing) (tells-same z nothing)
  where
    go : (t : Bool) → Tells (z ≡ nothing) t → size_held (read_held z) ≡ cond t 0 (nat_abs z)
    go true s = ap (λ (x : ℤ). size_held (read_held x)) (s.from refl)
    go false s = ap size_held (read-figure z (λ e. false-true (s.to e)))

pub numbered : (m : ℕ) → mode_in_use m ≡ true → Numbered m (mode_of m)
unfolding mode_of mode_in_use IsStored size_of none nothing_in counted store_held
numbered zero u = false-true u
numbered (suc zero) u = record {
  nothing_is = refl;
  unit-is = λ _. refl;
  size_is = λ _ z. refl;
  any-stored = λ _ z. refl;
  unit-one = λ e. absurd (omega arith);
  size_none = λ e. absurd (omega arith);
  stamp-stored = λ e. absurd (omega arith);
  stored-stamp = λ e. absurd (omega arith);
}
numbered (suc (suc zero)) u = record {
  nothing_is = refl;
  unit-is = λ _. refl;
  size_is = λ _ z. size-held z;
  any-stored = λ _ z. held-stored z;
  unit-one = λ e. absurd (omega arith);
  size_none = λ e. absurd (omega arith);
  stamp-stored = λ e. absurd (omega arith);
  stored-stamp = λ e. absurd (omega arith);
}
numbered (suc (suc (suc zero))) u = false-true u
numbered (suc (suc (suc (suc zero)))) u = record {
  nothing_is = refl;
  unit-is = λ n. absurd (n refl);
  size_is = λ n. absurd (n refl);
  any-stored = λ n. absurd (n refl);
  unit-one = λ _. refl;
  size_none = λ _ z. refl;
  stamp-stored = λ _ z e. is-stamp z e;
  stored-stamp = λ _ z e. stamp-is z e;
}
numbered (suc (suc (suc (suc (suc zero))))) u = record {
  nothing_is = refl;
  unit-is = λ _. refl;
  size_is = λ _ z. size-held z;
  any-stored = λ _ z. held-stored z;
  unit-one = λ e. absurd (omega arith);
  size_none = λ e. absurd (omega arith);
  stamp-stored = λ e. absurd (omega arith);
  stored-stamp = λ e. absurd (omega arith);
}
numbered (suc (suc (suc (suc (suc (suc m)))))) u = absurd (omega (arith, mode_small (suc (suc (suc (suc (suc (suc m)))))) u))
