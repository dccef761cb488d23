-- Sums of products modulo n (`simp mods`), and an integer modulo 2^32. Assumes nothing.
use Rattle.std.specs.Prelude.{◌≡◌, ℕ, ◌+◌, ◌*◌, ◌/◌, ◌%◌, ◌^◌, ◌<◌, ℤ, pos, negsuc, ◌+ℤ◌}
use Rattle.std.proofs.Common.{sym, ap, ◌∙◌, mod-eq_of_lt, arith, SFits, of_z}
use Rattle.std.proofs.Math.Nat.{mod-add-mod, add-mod-mod, div-add-mod, add-mul-mod_self_left}
use Rattle.std.specs.Int.{w32}
use Rattle.number.specs.Integer.{wrap, up}
use Rattle.number.specs.IntegerLaws.{dn, add-law}

-- a remainder is known by its size and by what it leaves
pub mod-unique : (s t p q n : ℕ) → s < n → s + n * p ≡ t + n * q → s ≡ t % n
mod-unique s t p q n h e = sym (mod-eq_of_lt h) ∙ sym (add-mul-mod_self_left s n p) ∙ ap (λ (x : ℕ). x % n) e ∙ add-mul-mod_self_left t n q

-- in a sum of products, a factor or a summand may be taken modulo n
pub mod-mul-add : (a b c n : ℕ) → (a % n * b + c) % n ≡ (a * b + c) % n
mod-mul-add a b c n =
    let e : n * (a / n) * b + a % n * b ≡ a * b = omega (arith, ap (λ (y : ℕ). y * b) (div-add-mod a n)) in
    sym (add-mul-mod_self_left (a % n * b + c) n (a / n * b)) ∙ ap (λ (y : ℕ). y % n) (omega arith)

pub mul-mod-add : (a b c n : ℕ) → (a * (b % n) + c) % n ≡ (a * b + c) % n
mul-mod-add a b c n = ap (λ (y : ℕ). y % n) (omega arith) ∙ mod-mul-add b a c n ∙ ap (λ (y : ℕ). y % n) (omega arith)

pub add-mul-mod : (a b c n : ℕ) → (c + a * (b % n)) % n ≡ (c + a * b) % n
add-mul-mod a b c n = ap (λ (y : ℕ). y % n) (omega arith) ∙ mul-mod-add a b c n ∙ ap (λ (y : ℕ). y % n) (omega arith)

pub mod_times : (a b n : ℕ) → (a % n * b) % n ≡ (a * b) % n
mod_times a b n = ap (λ (y : ℕ). y % n) (omega arith) ∙ mod-mul-add a b 0 n ∙ ap (λ (y : ℕ). y % n) (omega arith)

pub times_mod : (a b n : ℕ) → (a * (b % n)) % n ≡ (a * b) % n
times_mod a b n = ap (λ (y : ℕ). y % n) (omega arith) ∙ mod_times b a n ∙ ap (λ (y : ℕ). y % n) (omega arith)

pub ruleset mods = (mod-mul-add, mul-mod-add, add-mul-mod, mod-add-mod, add-mod-mod, mod_times, times_mod)

-- ---- an integer modulo 2^32

pub wrap-small : (z : ℤ) → wrap z < 2 ^ 32
unfolding wrap
wrap-small (pos n) = omega arith
wrap-small (negsuc n) = omega arith

-- how many times 2^32 is taken away, and added
pub less : ℤ → ℕ
less (pos n) = n / 2 ^ 32
less (negsuc n) = 0

pub more : ℤ → ℕ
more (pos n) = 0
more (negsuc n) = n / 2 ^ 32 + 1

pub wrap-law : (z : ℤ) → wrap z + dn z + 2 ^ 32 * less z ≡ up z + 2 ^ 32 * more z
unfolding wrap less more
wrap-law (pos n) = omega arith
wrap-law (negsuc n) = omega arith

pub wrap-+ : (a b : ℤ) → wrap (a +ℤ b) ≡ (wrap a + wrap b) % 2 ^ 32
wrap-+ a b =
    mod-unique (wrap (a +ℤ b)) (wrap a + wrap b) (less (a +ℤ b) + more a + more b) (less a + less b + more (a +ℤ b)) (2 ^ 32) (wrap-small (a +ℤ b))
    (omega (arith, add-law a b, wrap-law a, wrap-law b, wrap-law (a +ℤ b)))

-- at 32 bits it is the bits
pub wrap-bits : (z : ℤ) → SFits w32 z → wrap z ≡ of_z w32 z
unfolding wrap
wrap-bits (pos n) f = omega (arith, f.sfits)
wrap-bits (negsuc n) f = omega (arith, f.sfits)
