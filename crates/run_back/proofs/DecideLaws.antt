-- The test of question 15 tells whether bytes are a run. Assumes nothing.
use Rattle.std.specs.Prelude.{◌≡◌, ◌≢◌, ◌⊎◌, true, List, ℕ, ◌%◌, ℤ, pos, nat_abs, ◌≤ℤ◌}
use Rattle.std.proofs.Math.Path.{refl}
use Rattle.std.proofs.Common.{ap, arith}
use Rattle.std.proofs.Math.Logic.{inl, inr}
use Rattle.modes.specs.FourModes.{nothing, is_stamp}
use Rattle.figure.specs.Mode.{mode_in_use}
use Rattle.figure.specs.Stored.{by_mode}
use Rattle.modes.specs.declared.Run.{Run}
use Rattle.summary.specs.Judge.{mode_at}
use Rattle.summary.proofs.Tests.{Tells, tells-le, tells-eq, tells-true, tells-and, tells-or, tells-then, tells-order, tells-same, tells-also}
use Rattle.summary.proofs.DecideLaws.{tells-layout}
use Rattle.outcome.specs.Outcomes.{run_length}
use Rattle.run_back.proofs.OddLaws.{tells-odd}
use Rattle.run_back.specs.Judge.{run_at, Near, RunNumbers, IsRunBytes}
use Rattle.run_back.specs.Decide.{near, net_fits, heaviest_fits, stamp_fits, eaten_fits, numbers_fit, is_run_bytes}

pub tells-near : (z : ℤ) → Tells (Near z) (near z)
tells-near z = tells-le (nat_abs z) 100_000_000_000_000

zero-near : (z : ℤ) → z ≡ pos 0 → Near z
zero-near z e = omega (arith, ap nat_abs e)

neither : {P : Type 0} (m : ℕ) → m ≢ 1 → m ≢ 4 → (m ≡ 1) ⊎ (m ≡ 4) → P
neither m p q (inl e) = absurd (p e)
neither m p q (inr e) = absurd (q e)

-- A or B, where B holds in another mode only
first_of : {A B : Type 0} (m : ℕ) → m ≢ 2 → A ⊎ ((m ≡ 2) × B) → A
first_of m n (inl a) = a
first_of m n (inr b) = absurd (n b.0)

-- ---- the clauses that a mode leaves

module _ (k : Run) where
  pub net-numbers : Near k.first → k.second ≡ pos 0 → k.third ≡ pos 0 → RunNumbers 1 k
  net-numbers a s t = record {
    times-stamp = λ e. absurd (omega arith);
    plus-stamp = λ e. absurd (omega arith);
    times-odd = λ e. absurd (omega arith);
    second-unused = λ _. s;
    third-unused = λ _. t;
    first-near = λ _. a;
    second-near = λ _. inl (zero-near k.second s);
    third-near = λ _. zero-near k.third t;
    fourth-near = λ e. absurd (omega arith);
    ordered = λ e. absurd (omega arith);
  }

  pub heaviest-numbers : Near k.first → Near k.second ⊎ (k.second ≡ nothing) → Near k.third → RunNumbers 2 k
  heaviest-numbers z a b = record {
    times-stamp = λ e. absurd (omega arith);
    plus-stamp = λ e. absurd (omega arith);
    times-odd = λ e. absurd (omega arith);
    second-unused = λ e. absurd (omega arith);
    third-unused = neither 2 (λ e. omega arith) (λ e. omega arith);
    first-near = λ _. z;
    second-near = λ _. in_two a;
    third-near = λ _. b;
    fourth-near = λ e. absurd (omega arith);
    ordered = λ e. absurd (omega arith);
  }
    where
      in_two : Near k.second ⊎ (k.second ≡ nothing) → Near k.second ⊎ (◌≡◌ {A = ℕ} 2 2 × (k.second ≡ nothing))
      in_two (inl h) = inl h
      in_two (inr e) = inr (refl, e)

  pub stamp-numbers : is_stamp k.first ≡ true → is_stamp k.second ≡ true → k.third ≡ pos 0 → nat_abs k.first % 2 ≡ 1 → RunNumbers 4 k
  stamp-numbers m q t o = record {
    times-stamp = λ _. m;
    plus-stamp = λ _. q;
    times-odd = λ _. o;
    second-unused = λ e. absurd (omega arith);
    third-unused = λ _. t;
    first-near = λ n. absurd (n refl);
    second-near = λ n. absurd (n refl);
    third-near = λ n. absurd (n refl);
    fourth-near = λ e. absurd (omega arith);
    ordered = λ e. absurd (omega arith);
  }

  pub eaten-numbers : Near k.first → Near k.second → Near k.third → Near k.fourth → k.third ≤ℤ k.fourth → RunNumbers 5 k
  eaten-numbers z a l h o = record {
    times-stamp = λ e. absurd (omega arith);
    plus-stamp = λ e. absurd (omega arith);
    times-odd = λ e. absurd (omega arith);
    second-unused = λ e. absurd (omega arith);
    third-unused = neither 5 (λ e. omega arith) (λ e. omega arith);
    first-near = λ _. z;
    second-near = λ _. inl a;
    third-near = λ _. l;
    fourth-near = λ _. h;
    ordered = λ _. o;
  }

  -- ---- each mode's test

  tells-net : Tells (RunNumbers 1 k) (net_fits k)
  unfolding net_fits
  tells-net =
      tells-also (λ p. net-numbers p.0.0 p.0.1 p.1) (λ r. ((r.first-near (λ e. omega arith), r.second-unused refl), r.third-unused (inl refl)))
      (tells-and (tells-and (tells-near k.first) (tells-same k.second (pos 0))) (tells-same k.third (pos 0)))

  tells-heaviest : Tells (RunNumbers 2 k) (heaviest_fits k)
  unfolding heaviest_fits
  tells-heaviest =
      tells-also (λ p. heaviest-numbers p.0.0 p.0.1 p.1)
      (λ r. ((r.first-near (λ e. omega arith), out_of (r.second-near (λ e. omega arith))), r.third-near (λ e. omega arith)))
      (tells-and (tells-and (tells-near k.first) (tells-or (tells-near k.second) (tells-same k.second nothing))) (tells-near k.third))
    where
      out_of : Near k.second ⊎ (◌≡◌ {A = ℕ} 2 2 × (k.second ≡ nothing)) → Near k.second ⊎ (k.second ≡ nothing)
      out_of (inl h) = inl h
      out_of (inr e) = inr e.1

  tells-stamp : Tells (RunNumbers 4 k) (stamp_fits k)
  unfolding stamp_fits
  tells-stamp =
      tells-also (λ p. stamp-numbers p.0.0.0 p.0.0.1 p.0.1 p.1) (λ r. (((r.times-stamp refl, r.plus-stamp refl), r.third-unused (inr refl)), r.times-odd refl))
      (tells-and (tells-and (tells-and (tells-true (is_stamp k.first)) (tells-true (is_stamp k.second))) (tells-same k.third (pos 0))) (tells-odd k.first))

  tells-eaten : Tells (RunNumbers 5 k) (eaten_fits k)
  unfolding eaten_fits
  tells-eaten =
      tells-also (λ p. eaten-numbers p.0.0.0.0 p.0.0.0.1 p.0.0.1 p.0.1 p.1)
      (λ r. ((((r.first-near (λ e. omega arith), first_of 5 (λ e. omega arith) (r.second-near (λ e. omega arith))), r.third-near (λ e. omega arith)), r.fourth-near refl), r.ordered refl))
      (tells-and (tells-and (tells-and (tells-and (tells-near k.first) (tells-near k.second)) (tells-near k.third)) (tells-near k.fourth)) (tells-order k.third k.fourth))

tells-numbers : (m : ℕ) (k : Run) → mode_in_use m ≡ true → Tells (RunNumbers m k) (numbers_fit m k)
unfolding numbers_fit
tells-numbers m k u = by_mode (λ (m : ℕ). Tells (RunNumbers m k) (numbers_fit m k)) (tells-net k) (tells-heaviest k) (tells-stamp k) (tells-eaten k) m u

-- THE TEST TELLS WHICH BYTES ARE A RUN.
pub decide-run : (b : List ℕ) → Tells (IsRunBytes b) (is_run_bytes b)
unfolding is_run_bytes
decide-run b =
    tells-also (λ p. record { layout = p.0; numbers = p.1 }) (λ r. (r.layout, r.numbers))
    (tells-then (tells-layout b 20 (run_length (mode_at b))) (λ l. tells-numbers (mode_at b) (run_at b) l.mode-fits))
