-- The way back leads to y, and nothing else does: in mode 1 among whole numbers, in mode 4 among 0 to 2^32 - 1. Assumes nothing.
use Rattle.std.specs.Prelude.{◌≡◌, refl, true, [], ℕ, ◌+◌, ◌-◌, ◌*◌, ◌/◌, ◌%◌, ◌^◌, ◌<◌, ℤ, nat_abs, ◌-ℤ◌}
use Rattle.std.proofs.Common.{sym, ap, ◌∙◌, inl, inr, arith}
use Rattle.std.proofs.Math.Nat.{div-add-mod}
use Rattle.std.proofs.Math.IntN.{+ℤ-neg_ℤ_cancel, -ℤ-+ℤ_cancel}
use Rattle.number.specs.Modulo.{mod-unique, times_mod}
use Rattle.algebra.specs.Run.{Level, run_on, run}
use Rattle.modes.specs.FourModes.{stamp, stamp_of, Stamp, store_stamp, read_stamp, is_stamp}
use Rattle.modes.proofs.ModeLaws.{stamp-≡}
use Rattle.modes.specs.Run.{Affine, affine, read_stamp_run}
use Rattle.modes.proofs.Runs.{stamp_context}
use Rattle.modes.proofs.StoreLaws.{is-stamp, stored_is, stamp-back}
use Rattle.figure.specs.Mode.{mode_of}
use Rattle.modes.specs.declared.Run.{Run}
use Rattle.run_back.specs.Judge.{RunNumbers}
use Rattle.run_back.specs.Inverse.{newton, inverse}
use Rattle.run_back.proofs.InverseLaws.{inverse-product}
use Rattle.run_back.specs.Backwards.{forwards, back_net, back_stamp, inner_of}
use Rattle.run_back.proofs.ForwardLaws.{stamp-num}
use Rattle.run_back.specs.Claims.{TheOnly, Taken}

-- ---- mode 1

net-way : (k : Run) (y : ℤ) → TheOnly 1 (forwards 1 k) y (back_net k.first y)
unfolding forwards mode_of
net-way k y = record {
  inner = λ e. absurd (omega arith);
  leads = -ℤ-+ℤ_cancel y k.first;
  only = λ z _ e. sym (+ℤ-neg_ℤ_cancel z k.first) ∙ ap (λ (u : ℤ). u -ℤ k.first) e;
}

-- ---- mode 4

-- m times its inverse i is 1 + N w; d is -q. With z = i (y - q), m z + q is y, ..
leads-num : (m i w q d y N z v : ℕ) → m * i ≡ N * w + 1 → d + q ≡ N → N * v + z ≡ i * (y + d) → y + N * (1 + w * (y + d)) ≡ m * z + q + N * (m * v)
leads-num m i w q d y N z v h hd hz = omega (arith, hd, ap (λ (t : ℕ). m * t) hz, ap (λ (t : ℕ). t * (y + d)) h)

-- .. and where m x + q is y, x is i (y - q).
only-num : (m i w q d x y N v : ℕ) → m * i ≡ N * w + 1 → d + q ≡ N → N * v + y ≡ m * x + q → x + N * (w * x + i) ≡ i * (y + d) + N * (i * v)
only-num m i w q d x y N v h hd hy = omega (arith, ap (λ (t : ℕ). i * t) hd, ap (λ (t : ℕ). i * t) hy, ap (λ (t : ℕ). t * x) h)

module _ (k : Affine) (y : Stamp) (odd : k.times.num % 2 ≡ 1) where
  abbrev i : ℕ
  i = inverse k.times.num

  abbrev d : ℕ
  d = 2 ^ 32 - k.plus.num

  unit : k.times.num * i ≡ 2 ^ 32 * (k.times.num * i / 2 ^ 32) + 1
  unit = sym (div-add-mod (k.times.num * i) (2 ^ 32)) ∙ ap (λ (t : ℕ). 2 ^ 32 * (k.times.num * i / 2 ^ 32) + t) (inverse-product k.times.num odd)

  whole : d + k.plus.num ≡ 2 ^ 32
  whole = omega (arith, k.plus.small)

  affine-back-leads : affine k (back_stamp k y) ≡ y
  affine-back-leads = stamp-≡ (sym (mod-unique y.num (k.times.num * (back_stamp k y).num + k.plus.num) (1 + k.times.num * i / 2 ^ 32 * (y.num + d)) (k.times.num * (i * (y.num + d) / 2 ^ 32)) (2 ^ 32) y.small
      (leads-num k.times.num i (k.times.num * i / 2 ^ 32) k.plus.num d y.num (2 ^ 32) (back_stamp k y).num (i * (y.num + d) / 2 ^ 32) unit whole (div-add-mod (i * (y.num + d)) (2 ^ 32)))))

  affine-back-only : (x : Stamp) → affine k x ≡ y → x ≡ back_stamp k y
  affine-back-only x e =
      let n : ℕ = k.times.num * x.num + k.plus.num in
      let hy : 2 ^ 32 * (n / 2 ^ 32) + y.num ≡ n = ap (λ (s : Stamp). 2 ^ 32 * (n / 2 ^ 32) + s.num) (sym e) ∙ div-add-mod n (2 ^ 32) in
      stamp-≡ (mod-unique x.num (i * (y.num + d)) (k.times.num * i / 2 ^ 32 * x.num + i) (i * (n / 2 ^ 32)) (2 ^ 32) x.small
      (only-num k.times.num i (k.times.num * i / 2 ^ 32) k.plus.num d x.num y.num (2 ^ 32) (n / 2 ^ 32) unit whole hy))

stamp-way : (k : Run) (y : ℤ) → is_stamp k.first ≡ true → nat_abs k.first % 2 ≡ 1 → is_stamp y ≡ true → TheOnly 4 (forwards 4 k) y (store_stamp (back_stamp (read_stamp_run k) (read_stamp y)))
unfolding forwards mode_of
stamp-way k y t o s = record {
  inner = λ _. stored_is b;
  leads = ap store_stamp (ap (affine (read_stamp_run k)) (stamp-back b) ∙ affine-back-leads (read_stamp_run k) (read_stamp y) odd) ∙ is-stamp y s;
  only = λ z i e. sym (is-stamp z (i refl)) ∙ ap store_stamp (affine-back-only (read_stamp_run k) (read_stamp y) odd (read_stamp z) (sym (stamp-back (affine (read_stamp_run k) (read_stamp z))) ∙ ap read_stamp e));
}
  where
    b : Stamp
    b = back_stamp (read_stamp_run k) (read_stamp y)

    odd : (read_stamp_run k).times.num % 2 ≡ 1
    odd = ap (λ (n : ℕ). n % 2) (stamp-num k.first t) ∙ o

inverse-31 : inverse 31 ≡ 3_186_588_639
unfolding newton inverse
inverse-31 = refl

-- "For one level the way back multiplies by 3,186,588,639."
pub one-level : (l : Level stamp) (y : Stamp) → back_stamp (run stamp_context l []) y ≡ stamp_of (3_186_588_639 * (y.num + (2 ^ 32 - (run stamp_context l []).plus.num)))
unfolding run_on
one-level l y = ap (λ (i : ℕ). stamp_of (i * (y.num + (2 ^ 32 - (run stamp_context l []).plus.num)))) inverse-31

-- ---- both

by-net : (m : ℕ) (k : Run) (y : ℤ) → m ≡ 1 → TheOnly m (forwards m k) y (inner_of m k y)
unfolding inner_of
by-net m k y e = rw e (net-way k y)

by-stamp : (m : ℕ) (k : Run) (y : ℤ) → m ≡ 4 → RunNumbers m k → is_stamp y ≡ true → TheOnly m (forwards m k) y (inner_of m k y)
unfolding inner_of
by-stamp m k y e r s = rw e (stamp-way k y (r.times-stamp e) (r.times-odd e) s)

-- THE WAY BACK IS THE ONLY ONE.
pub way_back : (m : ℕ) (k : Run) (y : ℤ) → RunNumbers m k → Taken m y → TheOnly m (forwards m k) y (inner_of m k y)
way_back m k y r (inl t) = by-net m k y t.0
way_back m k y r (inr t) = by-stamp m k y t.0 r t.1

-- ---- the way back as the code does it: t is y - q

pub back_is : (k : Affine) (y : Stamp) (i t r : ℕ) → i ≡ inverse k.times.num → (t + k.plus.num) % 2 ^ 32 ≡ y.num → t < 2 ^ 32 → r ≡ (i * t) % 2 ^ 32 → r ≡ (back_stamp k y).num
back_is k y i t r hi ht l hr =
    let e : t ≡ (y.num + (2 ^ 32 - k.plus.num)) % 2 ^ 32 = omega (arith, ht, l, k.plus.small, y.small) in
    hr ∙ ap (λ (j : ℕ). (j * t) % 2 ^ 32) hi ∙ ap (λ (j : ℕ). (inverse k.times.num * j) % 2 ^ 32) e ∙ times_mod (inverse k.times.num) (y.num + (2 ^ 32 - k.plus.num)) (2 ^ 32)
