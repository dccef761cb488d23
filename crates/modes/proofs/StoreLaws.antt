-- What is stored is read back, and fits 64 bits: figures, and the numbers of a run. Assumes nothing.
use Rattle.std.specs.Prelude.{◌≡◌, ℕ, ◌^◌, ◌<◌, ◌≤◌, Bool, true, false, ◌&&◌, T, ℤ, pos, negsuc, ◌≤ℤ◌, ◌<ℤ◌, FitsSigned, ◌==◌, ◌≢◌, nat_le, unsigned_abs, refl}
use Rattle.std.proofs.Common.{sym, ap, ◌∙◌, subst, mod-eq_of_lt, arith, eqb→eq, lit<, leb-true, le-leb}
use Rattle.std.proofs.Math.Dec.{leb-zero}
use Rattle.std.specs.Int.{w64}
use Rattle.number.specs.Integer.{max_z}
use Rattle.number.specs.IntegerLaws.{zed, max-law, max_comm, sfits-abs}
use Rattle.modes.specs.FourModes.{Stamp, lift, nothing, store_held, read_held, held_if, store_stamp, read_stamp, is_stamp}
use Rattle.modes.proofs.ModeLaws.{stamp-≡}
use Rattle.modes.specs.Run.{net_run, HeaviestNumbers, at_least, heaviest_run, read_heaviest_run, EatenNumbers, eaten_run, Affine, stamp_run, read_stamp_run}
use Rattle.modes.specs.Bound.{size_held, LineIn, EatenIn}
use Rattle.modes.specs.declared.Held.{Held}
use Rattle.modes.specs.declared.Held.TheVariants.{Nothing, Figure}
use Rattle.modes.specs.StoreLaws.{RunFits}

-- ---- figures

-- a number is read as nothing where it is -2^63, and else as the figure that it is
read_by : (z : ℤ) (P : Held → Type 0) → (z ≡ nothing → P Nothing) → P (Figure z) → P (read_held z)
unfolding read_held
read_by (pos n) P p q = q
read_by (negsuc n) P p q = go (n == 9223372036854775807) (λ t. eqb→eq n 9223372036854775807 t)
  where
    go : (t : Bool) → (T t → n ≡ 9223372036854775807) → P (held_if t (negsuc n))
    go true h = p (ap negsuc (h tt))
    go false h = q

pub read-figure : (z : ℤ) → (z ≢ nothing) → read_held z ≡ Figure z
read-figure z h = read_by z (λ k. k ≡ Figure z) (λ e. absurd (h e)) refl

-- every number is what it stores
pub held-stored : (z : ℤ) → store_held (read_held z) ≡ z
unfolding store_held
held-stored z = read_by z (λ k. store_held k ≡ z) sym refl

pub held_back : (h : Held) → size_held h < 2 ^ 63 → read_held (store_held h) ≡ h
unfolding size_held read_held store_held
held_back Nothing p = refl
held_back (Figure z) p = read-figure z (λ e. omega (arith, ap unsigned_abs e))

pub held_fits : (h : Held) → size_held h < 2 ^ 63 → FitsSigned w64 (store_held h)
unfolding size_held store_held
held_fits Nothing p = record { sfits = lit< tt }
held_fits (Figure z) p = sfits-abs w64 z p

-- nothing is stored as the least 64-bit number
nothing-least : (z : ℤ) → FitsSigned w64 z → nothing ≤ℤ z
nothing-least (pos n) f = omega zed
nothing-least (negsuc n) f = omega (zed, f.sfits)

max-nothing : (a z : ℤ) → a ≡ nothing → FitsSigned w64 z → max_z a z ≡ z
max-nothing a z e f = omega (zed, max-law a z, e, nothing-least z f)

-- so two figures combined are stored as the greater of the two numbers
pub held-max : (a b : ℤ) → FitsSigned w64 a → FitsSigned w64 b → store_held (lift max_z (read_held a) (read_held b)) ≡ max_z a b
unfolding store_held lift
held-max a b f g =
    read_by a (λ h. store_held (lift max_z h (read_held b)) ≡ max_z a b)
    (λ e. held-stored b ∙ sym (max-nothing a b e g))
    (read_by b (λ h. store_held (lift max_z (Figure a) h) ≡ max_z a b) (λ e. sym (max_comm a b ∙ max-nothing b a e f)) refl)

-- and a figure beside a stored one likewise
pub at-least-max : (a y : ℤ) → FitsSigned w64 y → at_least (read_held a) y ≡ max_z a y
unfolding at_least
at-least-max a y f = read_by a (λ h. at_least h y ≡ max_z a y) (λ e. sym (max-nothing a y e f)) refl

pub stamp-back : (s : Stamp) → read_stamp (store_stamp s) ≡ s
stamp-back s = stamp-≡ (mod-eq_of_lt s.small)

pub stamp-fits : (s : Stamp) → FitsSigned w64 (store_stamp s)
stamp-fits s = record { sfits = omega (arith, s.small) }

-- a number that stands for a stamp, decided
is-stamp-pos : (n : ℕ) → is_stamp (pos n) ≡ nat_le n 4294967295
unfolding is_stamp
is-stamp-pos n = ap (λ (b : Bool). b && nat_le n 4294967295) (leb-zero n)

pub is-stamp : (z : ℤ) → is_stamp z ≡ true → store_stamp (read_stamp z) ≡ z
unfolding is_stamp
is-stamp (pos n) e = ap pos (mod-eq_of_lt (omega (arith, leb-true n 4294967295 (sym (is-stamp-pos n) ∙ e))))
is-stamp (negsuc n) e = absurd (subst T (sym e) tt)

pub stamp-is : (z : ℤ) → store_stamp (read_stamp z) ≡ z → is_stamp z ≡ true
stamp-is (pos n) e = is-stamp-pos n ∙ le-leb n 4294967295 (omega (zed, e))
stamp-is (negsuc n) e = absurd (omega (zed, e))

pub stored_is : (x : Stamp) → is_stamp (store_stamp x) ≡ true
stored_is x = stamp-is (store_stamp x) (ap store_stamp (stamp-back x))

-- a stored stamp is 0 to 2^32 - 1
pub stored-range : (z : ℤ) → store_stamp (read_stamp z) ≡ z → (pos 0 ≤ℤ z) × (z <ℤ pos 4294967296)
stored-range z e = omega zed

zero-fits : FitsSigned w64 (pos 0)
zero-fits = record { sfits = lit< tt }

pub net-run-fits : (a : ℤ) (n : ℕ) → unsigned_abs a ≤ n → n < 2 ^ 63 → RunFits (net_run a)
net-run-fits a n h l = record { first_fits = sfits-abs w64 a (omega arith); second_fits = zero-fits; third-fits = zero-fits; fourth-fits = zero-fits }

pub line-back : (k : HeaviestNumbers) (n : ℕ) → LineIn k n → n < 2 ^ 63 → read_heaviest_run (heaviest_run k) ≡ k
line-back k n h l = λ i. record { empty = k.empty; other = held_back k.other (omega arith) i; add = k.add }

pub line-run-fits : (k : HeaviestNumbers) (n : ℕ) → LineIn k n → n < 2 ^ 63 → RunFits (heaviest_run k)
line-run-fits k n h l = record { first_fits = sfits-abs w64 k.empty (omega arith); second_fits = held_fits k.other (omega arith); third-fits = sfits-abs w64 k.add (omega arith); fourth-fits = zero-fits }

pub eaten-run-fits : (k : EatenNumbers) (n : ℕ) → EatenIn k n → n < 2 ^ 63 → RunFits (eaten_run k)
eaten-run-fits k n h l = record { first_fits = sfits-abs w64 k.empty (omega arith); second_fits = sfits-abs w64 k.some.add (omega arith); third-fits = sfits-abs w64 k.some.low (omega arith); fourth-fits = sfits-abs w64 k.some.high (omega arith) }

pub affine-back : (k : Affine) → read_stamp_run (stamp_run k) ≡ k
affine-back k = λ i. record { times = stamp-back k.times i; plus = stamp-back k.plus i }

pub affine-run-fits : (k : Affine) → RunFits (stamp_run k)
affine-run-fits k = record { first_fits = stamp-fits k.times; second_fits = stamp-fits k.plus; third-fits = zero-fits; fourth-fits = zero-fits }
