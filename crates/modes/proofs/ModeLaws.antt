-- In each mode, figures side by side may be combined in any grouping and order, and nothing held adds nothing. Assumes nothing.
use Rattle.std.specs.Prelude.{◌≡◌, ◌+◌, ◌*◌, ◌^◌, ◌<◌, ℤ, pos, ◌+ℤ◌, refl}
use Rattle.std.proofs.Common.{ap, ◌∙◌, arith}
use mathlib.Core.HLevel.{is_prop→PathP}
use Rattle.std.proofs.Math.Nat.{add-mod-mod}
use Rattle.std.proofs.Math.Bridge.{le_prop}
use Rattle.std.proofs.Math.IntN.{+ℤ_assoc, +ℤ_comm}
use Rattle.algebra.specs.Algebra.{Laws, Commutative}
use Rattle.number.specs.Integer.{max_z, wrap}
use Rattle.number.specs.IntegerLaws.{max_comm, max_assoc}
use Rattle.number.specs.Modulo.{wrap-+}
use Rattle.modes.specs.FourModes.{Amounts, heaviest, eaten, stamp, lift, Stamp, stamp_of}
use Rattle.modes.specs.declared.Held.{Held}
use Rattle.modes.specs.declared.Held.TheVariants.{Nothing, Figure}

-- ---- an operation with nothing for its unit

pub lift-assoc : (f : ℤ → ℤ → ℤ) → ((a b c : ℤ) → f (f a b) c ≡ f a (f b c)) → (x y z : Held) → lift f (lift f x y) z ≡ lift f x (lift f y z)
unfolding lift
lift-assoc f e Nothing y z = refl
lift-assoc f e (Figure a) Nothing z = refl
lift-assoc f e (Figure a) (Figure b) Nothing = refl
lift-assoc f e (Figure a) (Figure b) (Figure c) = ap Figure (e a b c)

pub lift-comm : (f : ℤ → ℤ → ℤ) → ((a b : ℤ) → f a b ≡ f b a) → (x y : Held) → lift f x y ≡ lift f y x
unfolding lift
lift-comm f e Nothing Nothing = refl
lift-comm f e Nothing (Figure b) = refl
lift-comm f e (Figure a) Nothing = refl
lift-comm f e (Figure a) (Figure b) = ap Figure (e a b)

pub lift-l : (f : ℤ → ℤ → ℤ) (x : Held) → lift f Nothing x ≡ x
unfolding lift
lift-l f x = refl

pub lift-r : (f : ℤ → ℤ → ℤ) (x : Held) → lift f x Nothing ≡ x
unfolding lift
lift-r f Nothing = refl
lift-r f (Figure a) = refl

abbrev pub heaviest_laws : Laws heaviest
heaviest_laws = record { assoc = lift-assoc max_z max_assoc; unit-l = lift-l max_z; unit-r = lift-r max_z }

pub heaviest-comm : Commutative heaviest
heaviest-comm = lift-comm max_z max_comm

abbrev pub eaten_laws : Laws eaten
eaten_laws = record { assoc = lift-assoc ◌+ℤ◌ +ℤ_assoc; unit-l = lift-l ◌+ℤ◌; unit-r = lift-r ◌+ℤ◌ }

pub eaten-comm : Commutative eaten
eaten-comm = lift-comm ◌+ℤ◌ +ℤ_comm

-- ---- stamps

-- a stamp is its number
pub stamp-≡ : {a b : Stamp} → a.num ≡ b.num → a ≡ b
stamp-≡ {a} {b} p = λ i. record { num = p i; small = is_prop→PathP (λ j. p j < 2 ^ 32) (λ j. le_prop) a.small b.small i }

pub stamp-comm : Commutative stamp
stamp-comm a b = stamp-≡ (omega arith)

pub stamp-assoc : (a b c : Stamp) → stamp.◌⊗◌ (stamp.◌⊗◌ a b) c ≡ stamp.◌⊗◌ a (stamp.◌⊗◌ b c)
stamp-assoc a b c = stamp-≡ (omega arith)

pub stamp-l : (a : Stamp) → stamp.◌⊗◌ (stamp_of 0) a ≡ a
stamp-l a = stamp-≡ (omega (arith, a.small))

pub stamp-r : (a : Stamp) → stamp.◌⊗◌ a (stamp_of 0) ≡ a
stamp-r a = stamp-≡ (omega (arith, a.small))

abbrev pub stamp_laws : Laws stamp
stamp_laws = record { assoc = stamp-assoc; unit-l = stamp-l; unit-r = stamp-r }

-- a record's stamp, as the code counts it: the value taken modulo 2^32 first
pub stamp-node : (r : Amounts) (h : Stamp) → stamp.node r h ≡ stamp_of (wrap r.value + 31 * h.num)
unfolding wrap
stamp-node r h = stamp-≡ (wrap-+ r.value (pos (31 * h.num)) ∙ add-mod-mod (wrap r.value) (31 * h.num) (2 ^ 32))
