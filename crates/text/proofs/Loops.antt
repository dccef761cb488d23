-- What the loops over the digits of a number keep: what is still to be done, with what is done, comes to the whole.
-- Assumes nothing.
use mathlib.Core.Path.{◌≡◌, refl, sym, ap, ◌∙◌}
use mathlib.Core.List.{List, [], ◌∷◌}
use Prim.Native.Nat.{ℕ, suc, ◌+◌, ◌-◌, ◌/◌, ◌%◌, ◌≤◌, ◌<◌}
use native.Mathlib.Numerals.{add-one}
use native.Mathlib.Omega.{arith}
use lib.ListN.{length, set, length-set, length-append}
use lib.Seq.{sets, set_comm}
use Rattle.number.specs.Laws.{sets-append}
use Rattle.text.specs.Decimal.{digits_of}
use Rattle.text.proofs.DecimalLaws.{digits-one, digits_more, digits-some}

one-digit : (n : ℕ) → n < 10 → length (digits_of n) ≡ 1
one-digit n h = ap length (digits-one n h)

pub more-digits : (n : ℕ) → 10 ≤ n → length (digits_of n) ≡ suc (length (digits_of (n / 10)))
more-digits n h = ap length (digits_more n h) ∙ length-append (digits_of (n / 10)) ((48 + n % 10) ∷ []) ∙ add-one (length (digits_of (n / 10)))

-- ---- counting

pub record Counted (n rest count : ℕ) : Type 0 where
  pub all : count + length (digits_of rest) ≡ length (digits_of n) + 1

pub count_next : {n rest count : ℕ} → Counted n rest count → 10 ≤ rest → Counted n (rest / 10) (count + 1)
count_next {rest = rest} v h = record { all = omega (arith, more-digits rest h) }

pub count-end : {n rest count : ℕ} → Counted n rest count → rest < 10 → count ≡ length (digits_of n)
count-end {rest = rest} v h = omega (arith, one-digit rest h)

-- ---- writing, from the last digit to the first

pub record Writing (before : List ℕ) (at n : ℕ) (out : List ℕ) (i rest : ℕ) : Type 0 where
  pub place : i + 1 ≡ at + length (digits_of rest)
  pub within : i < length out
  pub same : length out ≡ length before
  pub is : sets out at (digits_of rest) ≡ sets before at (digits_of n)

-- a store behind a run of stores may come first
sets-set : (l : List ℕ) (i : ℕ) (vs : List ℕ) (j a : ℕ) → i + length vs ≤ j → sets (set l j a) i vs ≡ set (sets l i vs) j a
sets-set l i [] j a h = refl
sets-set l i (v ∷ vs) j a h = ap (λ (t : List ℕ). sets t (suc i) vs) (set_comm l j i a v (omega arith)) ∙ sets-set (set l i v) (suc i) vs j a (omega arith)

pub write-next : {before : List ℕ} {at n : ℕ} {out : List ℕ} {i rest : ℕ} → Writing before at n out i rest → 10 ≤ rest → Writing before at n (set out i (48 + rest % 10)) (i - 1) (rest / 10)
write-next {at = at} {out = out} {i = i} {rest = rest} v h =
    let m = more-digits rest h in
    let some = digits-some (rest / 10) in
    let e : at + length (digits_of (rest / 10)) ≡ i = omega arith in
    record {
      place = omega arith;
      within = rw length-set (omega arith);
      same = length-set out i (48 + rest % 10) ∙ v.same;
      is =
          sets-set out at (digits_of (rest / 10)) i (48 + rest % 10) (omega arith) ∙
          ap (λ (k : ℕ). set (sets out at (digits_of (rest / 10))) k (48 + rest % 10)) (sym e) ∙
          sym (sets-append out at (digits_of (rest / 10)) ((48 + rest % 10) ∷ [])) ∙
          ap (sets out at) (sym (digits_more rest h)) ∙
          v.is;
    }

pub write-end : {before : List ℕ} {at n : ℕ} {out : List ℕ} {i rest : ℕ} → Writing before at n out i rest → rest < 10 → set out i (48 + rest) ≡ sets before at (digits_of n)
write-end {at = at} {out = out} {i = i} {rest = rest} v h =
    let e : i ≡ at = omega (arith, one-digit rest h) in
    ap (λ (k : ℕ). set out k (48 + rest)) e ∙ ap (sets out at) (sym (digits-one rest h)) ∙ v.is
