-- Newton's iteration gives the inverse of an odd number modulo 2^32, and there is no other. Assumes nothing.
use Rattle.std.specs.Prelude.{◌≡◌, refl, ℕ, ◌+◌, ◌-◌, ◌*◌, ◌/◌, ◌%◌, ◌^◌, ◌<◌}
use Rattle.std.proofs.Common.{sym, ap, ◌∙◌, mod-lt, mod-eq_of_lt, mul-one, arith, lit<}
use Rattle.std.proofs.Math.Nat.{div-add-mod}
use Rattle.number.specs.Modulo.{mod-unique, mod_times, times_mod}
use Rattle.run_back.specs.Inverse.{IsInverse, newton, inverse}

-- a = 1 + K t is a number times its inverse modulo K; a (2 - a) = 1 - (K t)^2. Here p is a modulo N and d is N - p, so that 2 + d stands for 2 - a;
-- z and v are what N leaves of x (2 + d), and how often it goes into it.
squared : (a K t J c N w p d m z v : ℕ) → a ≡ 1 + K * t → J ≡ K * K → N ≡ J * c → a ≡ N * w + p → d + p ≡ N → m * z + N * (m * v) ≡ a * (2 + d) →
    1 + J * (c * a * (1 + w)) ≡ m * z + J * (c * (m * v) + t * t)
squared a K t J c N w p d m z v ha hJ hN hp hd hz =
    omega (
      arith,
      ha,
      hz,
      ap (λ (y : ℕ). a * y) hd,
      ap (λ (y : ℕ). a * y) hp,
      ap (λ (y : ℕ). a * y) ha,
      ap (λ (y : ℕ). y * (K * t)) ha,
      ap (λ (y : ℕ). y * (t * t)) hJ,
      ap (λ (y : ℕ). y * (m * v)) hN,
      ap (λ (y : ℕ). y * a) hN,
      ap (λ (y : ℕ). y * (a * w)) hN,
    )

-- One step: an inverse modulo K becomes one modulo J = K^2, where J goes into N.
module _ (m x K J c N : ℕ) (hJ : J ≡ K * K) (hN : N ≡ J * c) (some : 1 < J) (pos-N : 0 < N) where
  abbrev p : ℕ
  p = (m * x) % N

  abbrev next : ℕ
  next = x * (2 + (N - p))

  step : (m * x) % K ≡ 1 → (m * (next % N)) % J ≡ 1
  step e =
      let ha : m * x ≡ 1 + K * (m * x / K) = sym (div-add-mod (m * x) K) ∙ omega arith in
      let hp : m * x ≡ N * (m * x / N) + p = sym (div-add-mod (m * x) N) in
      let hd : (N - p) + p ≡ N = omega (arith, mod-lt (m * x) pos-N) in
      let hz : m * (next % N) + N * (m * (next / N)) ≡ (m * x) * (2 + (N - p)) = omega (arith, ap (λ (y : ℕ). m * y) (div-add-mod next N)) in
      sym (mod-unique 1 (m * (next % N)) (c * (m * x) * (1 + m * x / N)) (c * (m * (next / N)) + (m * x / K) * (m * x / K)) J some
      (squared (m * x) K (m * x / K) J c N (m * x / N) p (N - p) m (next % N) (next / N) ha hJ hN hp hd hz))

pub inverse-product : (m : ℕ) → m % 2 ≡ 1 → (m * inverse m) % 2 ^ 32 ≡ 1
unfolding inverse newton
inverse-product m odd =
    step m _ 65536 (2 ^ 32) 1 (2 ^ 32) refl refl (lit< tt) (lit< tt)
    (step m _ 256 65536 65536 (2 ^ 32) refl refl (lit< tt) (lit< tt)
    (step m _ 16 256 16777216 (2 ^ 32) refl refl (lit< tt) (lit< tt)
    (step m _ 4 16 268435456 (2 ^ 32) refl refl (lit< tt) (lit< tt)
    (step m 1 2 4 1073741824 (2 ^ 32) refl refl (lit< tt) (lit< tt) (ap (λ (y : ℕ). y % 2) (mul-one m) ∙ odd)))))

inverse-small : (m : ℕ) → inverse m < 2 ^ 32
unfolding inverse newton
inverse-small m = mod-lt _ (lit< tt)

-- i (m j) = (m i) j
around : (m i j : ℕ) → i * (m * j) ≡ (m * i) * j
around m i j = omega arith

-- two inverses: i = i (m j) = (i m) j = j
same-inverse : (m i j : ℕ) → IsInverse m i → IsInverse m j → i ≡ j
same-inverse m i j p q =
    sym (mod-eq_of_lt p.small)
    ∙ ap (λ (y : ℕ). y % 2 ^ 32) (sym (mul-one i))
    ∙ ap (λ (y : ℕ). (i * y) % 2 ^ 32) (sym q.product)
    ∙ times_mod i (m * j) (2 ^ 32)
    ∙ ap (λ (y : ℕ). y % 2 ^ 32) (around m i j)
    ∙ sym (mod_times (m * i) j (2 ^ 32))
    ∙ ap (λ (y : ℕ). (y * j) % 2 ^ 32) p.product
    ∙ ap (λ (y : ℕ). y % 2 ^ 32) (omega arith)
    ∙ mod-eq_of_lt q.small

-- EVERY ODD NUMBER HAS EXACTLY ONE INVERSE, and it is the one computed.
pub one-inverse : (m : ℕ) → m % 2 ≡ 1 → IsInverse m (inverse m) × ((i : ℕ) → IsInverse m i → i ≡ inverse m)
one-inverse m odd =
    let r : IsInverse m (inverse m) = record { small = inverse-small m; product = inverse-product m odd } in
    (r, λ i s. same-inverse m i (inverse m) s r)

-- one step as the code does it: s is 2 - m x
pub newton_is : (m x p s r : ℕ) → p ≡ (m * x) % 2 ^ 32 → (s + p) % 2 ^ 32 ≡ 2 → s < 2 ^ 32 → r ≡ (x * s) % 2 ^ 32 → r ≡ newton m x
unfolding newton
newton_is m x p s r hp hs l hr =
    let h : p < 2 ^ 32 = omega (arith, hp, mod-lt (m * x) (lit< {m = 0} {n = 2 ^ 32} tt)) in
    let e : s ≡ (2 + (2 ^ 32 - p)) % 2 ^ 32 = omega (arith, hs, l, h) in
    hr ∙ ap (λ (y : ℕ). (x * y) % 2 ^ 32) e ∙ times_mod x (2 + (2 ^ 32 - p)) (2 ^ 32) ∙ ap (λ (y : ℕ). (x * (2 + (2 ^ 32 - y))) % 2 ^ 32) hp
