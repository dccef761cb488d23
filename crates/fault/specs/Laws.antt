-- Laws of faults: the lower of two, and what each question's number says. Assumes nothing.
use Rattle.std.specs.Prelude.{◌≡◌, refl, Bool, true, false, ℕ, ◌≤◌, ◌<◌, ltb, eqb, Option, Some, None}
use Rattle.std.proofs.Common.{sym, ap, ◌∙◌, arith, lt-ltb, eq-eqb, ne_eqb, eqb-true}
use Rattle.std.proofs.lemmas.Bool.{lt-leb}
use Rattle.hill.specs.Verdict.{Verdict, pass, refuse, low, lower, ask, joint, count}
use Rattle.hill.proofs.VerdictLaws.{low-pass, low-comm, refuse-pass, count-few}
use Rattle.gate.specs.Answers.{number_of}
use Rattle.gate.specs.declared.Refusal.{Refusal}
use Rattle.gate.specs.declared.Refusal.TheVariants as no
use Rattle.fault.specs.Fault.{verdict_of}

-- ---- a fault or none

pub is-clear : (f : Option Refusal) → verdict_of f ≡ pass → f ≡ None
is-clear None e = refl
is-clear (Some r) e = absurd (refuse-pass e)

-- what a fault says of the verdict that it stands for
pub clear-is : {f : Option Refusal} {v : Verdict} → verdict_of f ≡ v → f ≡ None → v ≡ pass
clear-is {f} e h = sym e ∙ ap verdict_of h

pub found-is : {f : Option Refusal} {v : Verdict} {r : Refusal} → verdict_of f ≡ v → f ≡ Some r → v ≡ refuse (number_of r)
found-is {f} e h = sym e ∙ ap verdict_of h

-- ---- the lower of two

-- a stands no higher than b: by their numbers, and none above all faults
abbrev pub NoHigher : Option Refusal → Option Refusal → Type 0
NoHigher None None = Unit {0}
NoHigher (Some x) None = Unit {0}
NoHigher None (Some y) = ⊥
NoHigher (Some x) (Some y) = number_of x ≤ number_of y

pub lower-first : (a b : Option Refusal) → NoHigher a b → verdict_of a ≡ low (verdict_of a) (verdict_of b)
lower-first None None h = sym (low-pass pass)
lower-first (Some x) None h = sym (low-pass (verdict_of (Some x)))
lower-first None (Some y) h = absurd h
lower-first (Some x) (Some y) h = ap refuse (omega arith)

pub lower-second : (a b : Option Refusal) → NoHigher b a → verdict_of b ≡ low (verdict_of a) (verdict_of b)
lower-second a b h = lower-first b a h ∙ low-comm (verdict_of b) (verdict_of a)

-- ---- questions 7 and 8

pub apart : (a b : ℕ) → ¬ (a ≡ b) → verdict_of (Some no.LevelGap) ≡ joint a b
unfolding joint
apart a b h = rw (ne_eqb a b h) (ap refuse (seven (ltb 0 a)))
  where
    seven : (t : Bool) → 7 ≡ lower 7 (ask 8 t)
    seven true = refl
    seven false = refl

pub at-ground : (a b : ℕ) → a ≡ b → a ≡ 0 → verdict_of (Some no.LevelZero) ≡ joint a b
unfolding joint
at-ground a b h z = rw (eq-eqb a b h, z)

pub above : (a b : ℕ) → a ≡ b → ¬ (a ≡ 0) → verdict_of None ≡ joint a b
unfolding joint
above a b h z = rw (eq-eqb a b h, lt-ltb 0 a (omega arith))

-- ---- question 9

pub few : (n : ℕ) → n ≤ 100000 → verdict_of None ≡ count n
few n h = sym (count-few n h)

pub many : (n : ℕ) → 100000 < n → verdict_of (Some no.TooManyOpened) ≡ count n
unfolding count
many n h = rw (lt-leb n 100000 h)

-- ---- question 11

pub grounded : (n : ℕ) → n ≡ 0 → verdict_of None ≡ ask 11 (eqb n 0)
grounded n e = rw (eq-eqb n 0 e)

pub ground-pass : (n : ℕ) → ask 11 (eqb n 0) ≡ pass → n ≡ 0
ground-pass n e = go (eqb n 0) refl e
  where
    go : (t : Bool) → eqb n 0 ≡ t → ask 11 t ≡ pass → n ≡ 0
    go true p q = eqb-true n 0 p
    go false p q = cc

pub raised : (n : ℕ) → ¬ (n ≡ 0) → verdict_of (Some no.NotWhole) ≡ ask 11 (eqb n 0)
raised n h = rw (ne_eqb n 0 h)
