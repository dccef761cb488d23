-- What the call comes to: 15, 16 and 17 each exactly where it is due, else the one inner figure that leads to y. Assumes nothing.
use Rattle.std.specs.Prelude.{◌≡◌, refl, ◌≢◌, ◌⊎◌, Bool, true, false, List, ℕ, ℤ}
use Rattle.std.proofs.Common.{sym, ap, subst, ◌∙◌, inl, inr, arith}
use borrow.Author.Tests.{ne_eqb}
use Rattle.gate.specs.Outcome.{refused, granted, question}
use Rattle.gate.proofs.Laws.{not-result, one_number, result-same}
use Rattle.modes.specs.FourModes.{is_stamp}
use Rattle.figure.specs.Mode.{mode_in_use}
use Rattle.figure.specs.Stored.{by_mode}
use Rattle.summary.specs.Judge.{mode_at}
use Rattle.summary.proofs.Tests.{Tells, told-no, no-told}
use Rattle.run_back.specs.Judge.{run_at, Near, IsRunBytes}
use Rattle.run_back.specs.Decide.{near, is_run_bytes}
use Rattle.run_back.proofs.DecideLaws.{tells-near, decide-run}
use Rattle.run_back.specs.Backwards.{forwards, inner_of, outer_fits, backwards_outcome}
use Rattle.run_back.specs.Claims.{Inner, TheOnly, Taken, Beyond, TurnsAway}
use Rattle.run_back.proofs.WayLaws.{way_back}

-- ---- the mode, and y, as the questions tell them apart

-- No way back, a y beyond the bounds, or one that is taken.
data Asked (m : ℕ) (y : ℤ) : Type 0 where
  no_way : (m ≡ 2) ⊎ (m ≡ 5) → Asked m y
  beyond : Beyond m y → Asked m y
  taken : Taken m y → Asked m y

asked-net : (y : ℤ) (t : Bool) → Tells (Near y) t → Asked 1 y
asked-net y true s = taken (inl (refl, s.from refl))
asked-net y false s = beyond (inl (refl, told-no s refl))

asked-stamp : (y : ℤ) (t : Bool) → is_stamp y ≡ t → Asked 4 y
asked-stamp y true e = taken (inr (refl, e))
asked-stamp y false e = beyond (inr (refl, e))

asked : (m : ℕ) (y : ℤ) → mode_in_use m ≡ true → Asked m y
asked m y u = by_mode (λ (m : ℕ). Asked m y) (asked-net y (near y) (tells-near y)) (no_way (inl refl)) (asked-stamp y (is_stamp y) refl) (no_way (inr refl)) m u

-- ---- what the questions come to

module _ (b : List ℕ) (y : ℤ) where
  pub refused-15 : is_run_bytes b ≡ false → backwards_outcome b y ≡ refused 15
  unfolding backwards_outcome
  refused-15 e = rw e

  module _ (is : is_run_bytes b ≡ true) where
    pub refused-16 : mode_at b ≢ 1 → mode_at b ≢ 4 → backwards_outcome b y ≡ refused 16
    unfolding backwards_outcome
    refused-16 p q = rw (is, ne_eqb (mode_at b) 1 p, ne_eqb (mode_at b) 4 q)

    -- In mode 1 and in mode 4 what is left is 17, and the way back.
    pub way-net : mode_at b ≡ 1 → backwards_outcome b y ≡ question 17 (near y) (granted (inner_of 1 (run_at b) y))
    unfolding backwards_outcome outer_fits
    way-net e = rw (is, e)

    pub way-stamp : mode_at b ≡ 4 → backwards_outcome b y ≡ question 17 (is_stamp y) (granted (inner_of 4 (run_at b) y))
    unfolding backwards_outcome outer_fits
    way-stamp e = rw (is, e)

    no-way-16 : (mode_at b ≡ 2) ⊎ (mode_at b ≡ 5) → backwards_outcome b y ≡ refused 16
    no-way-16 (inl e) = refused-16 (λ d. omega arith) (λ d. omega arith)
    no-way-16 (inr e) = refused-16 (λ d. omega arith) (λ d. omega arith)

    beyond-17 : Beyond (mode_at b) y → backwards_outcome b y ≡ refused 17
    beyond-17 (inl e) = way-net e.0 ∙ ap (λ (t : Bool). question 17 t (granted (inner_of 1 (run_at b) y))) (no-told (tells-near y) e.1)
    beyond-17 (inr e) = way-stamp e.0 ∙ ap (λ (t : Bool). question 17 t (granted (inner_of 4 (run_at b) y))) e.1

    taken_is : Taken (mode_at b) y → backwards_outcome b y ≡ granted (inner_of (mode_at b) (run_at b) y)
    taken_is (inl e) = way-net e.0 ∙ ap (λ (t : Bool). question 17 t (granted (inner_of 1 (run_at b) y))) ((tells-near y).to e.1) ∙ ap (λ (m : ℕ). granted (inner_of m (run_at b) y)) (sym e.0)
    taken_is (inr e) = way-stamp e.0 ∙ ap (λ (t : Bool). question 17 t (granted (inner_of 4 (run_at b) y))) e.1 ∙ ap (λ (m : ℕ). granted (inner_of m (run_at b) y)) (sym e.0)

  -- ---- the four ways

  data Comes : Type 0 where
    away-15 : ¬ IsRunBytes b → backwards_outcome b y ≡ refused 15 → Comes
    away-16 : IsRunBytes b → (mode_at b ≡ 2) ⊎ (mode_at b ≡ 5) → backwards_outcome b y ≡ refused 16 → Comes
    away-17 : IsRunBytes b → Beyond (mode_at b) y → backwards_outcome b y ≡ refused 17 → Comes
    answered : IsRunBytes b → Taken (mode_at b) y → backwards_outcome b y ≡ granted (inner_of (mode_at b) (run_at b) y) → Comes

  comes-run : IsRunBytes b → is_run_bytes b ≡ true → Asked (mode_at b) y → Comes
  comes-run is t (no_way w) = away-16 is w (no-way-16 t w)
  comes-run is t (beyond w) = away-17 is w (beyond-17 t w)
  comes-run is t (taken w) = answered is w (taken_is t w)

  comes : Comes
  comes = go (is_run_bytes b) refl (decide-run b)
    where
      go : (t : Bool) → is_run_bytes b ≡ t → Tells (IsRunBytes b) t → Comes
      go true e s = let is : IsRunBytes b = s.from refl in comes-run is e (asked (mode_at b) y is.layout.mode-fits)
      go false e s = away-15 (told-no s refl) (refused-15 e)

  only-15 : Comes → backwards_outcome b y ≡ refused 15 → ¬ IsRunBytes b
  only-15 (away-15 n e) r = n
  only-15 (away-16 is w e) r = absurd (omega (arith, one_number (sym e ∙ r)))
  only-15 (away-17 is w e) r = absurd (omega (arith, one_number (sym e ∙ r)))
  only-15 (answered is w e) r = absurd (not-result 15 (inner_of (mode_at b) (run_at b) y) (sym r ∙ e))

  only-16 : Comes → backwards_outcome b y ≡ refused 16 → IsRunBytes b × ((mode_at b ≡ 2) ⊎ (mode_at b ≡ 5))
  only-16 (away-15 n e) r = absurd (omega (arith, one_number (sym e ∙ r)))
  only-16 (away-16 is w e) r = (is, w)
  only-16 (away-17 is w e) r = absurd (omega (arith, one_number (sym e ∙ r)))
  only-16 (answered is w e) r = absurd (not-result 16 (inner_of (mode_at b) (run_at b) y) (sym r ∙ e))

  only-17 : Comes → backwards_outcome b y ≡ refused 17 → IsRunBytes b × Beyond (mode_at b) y
  only-17 (away-15 n e) r = absurd (omega (arith, one_number (sym e ∙ r)))
  only-17 (away-16 is w e) r = absurd (omega (arith, one_number (sym e ∙ r)))
  only-17 (away-17 is w e) r = (is, w)
  only-17 (answered is w e) r = absurd (not-result 17 (inner_of (mode_at b) (run_at b) y) (sym r ∙ e))

  no_other : Comes → (n : ℕ) → backwards_outcome b y ≡ refused n → (n ≡ 15) ⊎ ((n ≡ 16) ⊎ (n ≡ 17))
  no_other (away-15 n e) k r = inl (one_number (sym r ∙ e))
  no_other (away-16 is w e) k r = inr (inl (one_number (sym r ∙ e)))
  no_other (away-17 is w e) k r = inr (inr (one_number (sym r ∙ e)))
  no_other (answered is w e) k r = absurd (not-result k (inner_of (mode_at b) (run_at b) y) (sym r ∙ e))

  not-a-run : ¬ IsRunBytes b → backwards_outcome b y ≡ refused 15
  not-a-run n = refused-15 (no-told (decide-run b) n)

  pub answer-is : IsRunBytes b → Taken (mode_at b) y → backwards_outcome b y ≡ granted (inner_of (mode_at b) (run_at b) y)
  answer-is is w = taken_is ((decide-run b).to is) w

  -- TURNED AWAY exactly where it is due; all else is answered.
  pub turns-away : TurnsAway b y
  turns-away = record {
    by-15 = (only-15 comes, not-a-run);
    by-16 = (only-16 comes, λ h. no-way-16 ((decide-run b).to h.0) h.1);
    by-17 = (only-17 comes, λ h. beyond-17 ((decide-run b).to h.0) h.1);
    by-no-other = no_other comes;
    else-answered = λ is w. (inner_of (mode_at b) (run_at b) y, answer-is is w);
  }

  answer-taken : {x : ℤ} → Comes → backwards_outcome b y ≡ granted x → IsRunBytes b × Taken (mode_at b) y × (inner_of (mode_at b) (run_at b) y ≡ x)
  answer-taken {x} (away-15 n e) r = absurd (not-result 15 x (sym e ∙ r))
  answer-taken {x} (away-16 is w e) r = absurd (not-result 16 x (sym e ∙ r))
  answer-taken {x} (away-17 is w e) r = absurd (not-result 17 x (sym e ∙ r))
  answer-taken {x} (answered is w e) r = (is, w, result-same (sym e ∙ r))

  -- WHAT IS ANSWERED leads to y through the run, and no other inner figure does.
  pub only-inner : (x : ℤ) → backwards_outcome b y ≡ granted x → TheOnly (mode_at b) (forwards (mode_at b) (run_at b)) y x
  only-inner x e =
      let a = answer-taken comes e in
      subst (TheOnly (mode_at b) (forwards (mode_at b) (run_at b)) y) a.2 (way_back (mode_at b) (run_at b) y a.0.numbers a.1)

-- FORWARDS AND THEN BACKWARDS gives x again, wherever the outer figure is within 17's bounds.
pub there_and_back : (b : List ℕ) (x : ℤ) → IsRunBytes b → Inner (mode_at b) x → Taken (mode_at b) (forwards (mode_at b) (run_at b) x) → backwards_outcome b (forwards (mode_at b) (run_at b) x) ≡ granted x
there_and_back b x is i w =
    let y : ℤ = forwards (mode_at b) (run_at b) x in
    answer-is b y is w ∙ ap granted (sym ((way_back (mode_at b) (run_at b) y is.numbers w).only x i refl))
