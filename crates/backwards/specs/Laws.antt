-- Laws that the proofs of the code use. Assumes nothing.
use Rattle.std.specs.Prelude.{◌≡◌, ℕ, zero, suc, ◌+◌, ◌-◌, ◌*◌, ◌%◌, ◌^◌, ◌<◌, ◌≤◌, Bool, true, false, List, length, ℤ, pos, ◌-ℤ◌, neg_ℤ, ◌≤ℤ◌, ◌<ℤ◌, unsigned_abs, refl}
use Rattle.std.proofs.Common.{sym, subst, ◌∙◌, arith, to_z}
use Rattle.std.proofs.Math.Path.{ap}
use Rattle.std.proofs.Math.ListN.{get_or-eq_default}
use Rattle.std.specs.Int.{w64}
use Rattle.gate.specs.Outcome.{granted, question}
use Rattle.number.specs.Bytes.{le_at, i64_at}
use Rattle.number.specs.IntegerLaws.{canon, neg-law, abs-law, abs-+}
use Rattle.number.specs.Modulo.{times_mod}
use Rattle.modes.specs.FourModes.{read_stamp, is_stamp}
use Rattle.modes.specs.Run.{read_stamp_run}
use Rattle.modes.proofs.StoreLaws.{is-stamp, stored-range}
use Rattle.modes.specs.declared.Run.{Run}
use Rattle.summary.specs.Judge.{mode_at}
use Rattle.summary.specs.Decide.{layout_fits}
use Rattle.summary.proofs.DecideLaws.{tells-layout}
use Rattle.outcome.specs.Outcomes.{run_length}
use Rattle.outcome.proofs.RunLaws.{length-least}
use Rattle.run_back.specs.Judge.{run_at, RunNumbers, IsRunBytes}
use Rattle.run_back.specs.Decide.{numbers_fit, is_run_bytes}
use Rattle.run_back.specs.Inverse.{inverse}
use Rattle.run_back.specs.Backwards.{back_stamp, inner_of}
use Rattle.run_back.proofs.DecideLaws.{decide-run}
use Rattle.run_back.proofs.ForwardLaws.{stamp-num}

-- ---- the bytes

-- past the end of the bytes stands 0
past : (n : ℕ) (s : List ℕ) (i : ℕ) → length s ≤ i → le_at n s i ≡ 0
unfolding le_at
past zero s i h = refl
past (suc n) s i h = rw (get_or-eq_default s 0 h, past n s (suc i) (omega arith))

pub fourth_past : (b : List ℕ) → length b ≤ 30 → pos 0 ≡ i64_at b 30
fourth_past b h = sym (ap (to_z w64) (past 8 b 30 h))

module _ (b : List ℕ) where
  pub laid : layout_fits b 20 (run_length (mode_at b)) ≡ true → length b ≡ run_length (mode_at b)
  laid e = ((tells-layout b 20 (run_length (mode_at b))).from e).length-fits

  pub bad-layout : layout_fits b 20 (run_length (mode_at b)) ≡ false → is_run_bytes b ≡ false
  unfolding is_run_bytes
  bad-layout e = rw e

  pub good-layout : layout_fits b 20 (run_length (mode_at b)) ≡ true → is_run_bytes b ≡ numbers_fit (mode_at b) (run_at b)
  unfolding is_run_bytes
  good-layout e = rw e

  pub too_short : length b < 6 → is_run_bytes b ≡ false
  too_short h = bad-layout (go (layout_fits b 20 (run_length (mode_at b))) refl)
    where
      go : (t : Bool) → layout_fits b 20 (run_length (mode_at b)) ≡ t → t ≡ false
      go true e = absurd (omega (arith, laid e, length-least (mode_at b)))
      go false e = refl

  module _ (e : is_run_bytes b ≡ true) where
    is : IsRunBytes b
    is = (decide-run b).from e

    pub run_long : length b ≡ run_length (mode_at b)
    run_long = is.layout.length-fits

    pub six : 6 ≤ length b
    six = omega (arith, run_long, length-least (mode_at b))

    pub run-numbers : {m : ℕ} → mode_at b ≡ m → RunNumbers m (run_at b)
    run-numbers q = subst (λ (m : ℕ). RunNumbers m (run_at b)) q is.numbers

-- ---- 17, and the way back

pub abs_diff : (y a : ℤ) → unsigned_abs (y -ℤ a) ≤ unsigned_abs y + unsigned_abs a
abs_diff y a = omega (arith, abs-+ y (neg_ℤ a), neg-law a, abs-law (neg_ℤ a), abs-law a, canon a, canon (neg_ℤ a))

module _ (k : Run) (y : ℤ) where
  pub back-stamp-is : (r : ℤ) (n : ℕ) → is_stamp y ≡ true → r ≡ pos n → n ≡ (back_stamp (read_stamp_run k) (read_stamp y)).num → granted r ≡ question 17 (is_stamp y) (granted (inner_of 4 k y))
  unfolding inner_of
  back-stamp-is r n e p h = rw e (ap granted (p ∙ ap pos h))

  -- the same from the numbers of the stamps, as the machine wraps
  pub back-stamp-wrapped : {i m q n : ℕ} → is_stamp y ≡ true → (read_stamp k.first).num ≡ m → (read_stamp k.second).num ≡ q → (read_stamp y).num ≡ n → i ≡ inverse m →
      granted (pos ((i * ((n + (2 ^ 32 - q)) % 2 ^ 32)) % 2 ^ 32)) ≡ question 17 (is_stamp y) (granted (inner_of 4 k y))
  back-stamp-wrapped {i} {m} {q} {n} e times plus outer h =
      let w : ℕ = (i * ((n + (2 ^ 32 - q)) % 2 ^ 32)) % 2 ^ 32 in
      back-stamp-is (pos w) w e refl
      (rw (h, ← times, ← plus, ← outer) (times_mod (inverse (read_stamp k.first).num) ((read_stamp y).num + (2 ^ 32 - (read_stamp k.second).num)) (2 ^ 32)))

pub stamp_range : (z : ℤ) → is_stamp z ≡ true → (pos 0 ≤ℤ z) × (z <ℤ pos 4294967296)
stamp_range z e = stored-range z (is-stamp z e)

-- a stamp by its number
pub stamp-as : (z : ℤ) (n : ℕ) → is_stamp z ≡ true → pos n ≡ z → (read_stamp z).num ≡ n
stamp-as z n e h = stamp-num z e ∙ ap unsigned_abs (sym h)
