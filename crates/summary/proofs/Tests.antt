-- Tests that say whether a statement holds. Assumes nothing.
use Rattle.std.specs.Prelude.{◌≡◌, refl, ◌⊎◌, Bool, true, false, not, ◌&&◌, ◌||◌, ℕ, zero, suc, ◌≤◌, ◌<◌, T, leb, ltb, eqb, ℤ, ◌≤ℤ◌}
use Rattle.std.proofs.Common.{sym, subst, ◌∙◌, inl, inr, arith, leb-true, le-leb, eqb-true, eq-eqb, ltb-true, lt-ltb}
use Rattle.std.specs.Int.Signed.{le_z, ≤ℤ_refl}
use Rattle.number.specs.Integer.{same}
use Rattle.number.specs.IntegerLaws.{≤-antisym}
use Rattle.summary.specs.Decide.{all_to}

-- The test t says whether P.
pub record Tells (P : Type 0) (t : Bool) : Type 0 where
  pub to : P → t ≡ true
  pub from : t ≡ true → P

pub false-true : {P : Type 0} → false ≡ true → P
false-true e = let z : ◌≡◌ {A = ℕ} 0 1 = cc in absurd (omega arith)

pub tells-le : (m n : ℕ) → Tells (m ≤ n) (leb m n)
tells-le m n = record { to = le-leb m n; from = leb-true m n }

pub tells-lt : (m n : ℕ) → Tells (m < n) (ltb m n)
tells-lt m n = record { to = lt-ltb m n; from = ltb-true m n }

pub tells-eq : (m n : ℕ) → Tells (m ≡ n) (eqb m n)
tells-eq m n = record { to = eq-eqb m n; from = eqb-true m n }

pub tells-true : (t : Bool) → Tells (t ≡ true) t
tells-true t = record { to = λ e. e; from = λ e. e }

module _ {P Q : Type 0} where
  -- Q is asked only where P holds
  pub tells-then : {s t : Bool} → Tells P s → (P → Tells Q t) → Tells (P × Q) (s && t)
  tells-then {s} {t} p q = record { to = to s t p.to (λ x. (q x).to); from = from s t p.from (λ x. (q x).from) }
    where
      to : (s t : Bool) → (P → s ≡ true) → (P → Q → t ≡ true) → P × Q → s && t ≡ true
      to true t f g x = g x.0 x.1
      to false t f g x = f x.0

      from : (s t : Bool) → (s ≡ true → P) → (P → t ≡ true → Q) → s && t ≡ true → P × Q
      from true t f g e = (f refl, g (f refl) e)
      from false t f g e = false-true e

  pub tells-and : {s t : Bool} → Tells P s → Tells Q t → Tells (P × Q) (s && t)
  tells-and p q = tells-then p (λ _. q)

  pub tells-or : {s t : Bool} → Tells P s → Tells Q t → Tells (P ⊎ Q) (s || t)
  tells-or {s} {t} p q = record { to = to s t p.to q.to; from = from s t p.from q.from }
    where
      to : (s t : Bool) → (P → s ≡ true) → (Q → t ≡ true) → P ⊎ Q → s || t ≡ true
      to true t f g x = refl
      to false t f g (inl x) = false-true (f x)
      to false t f g (inr x) = g x

      from : (s t : Bool) → (s ≡ true → P) → (t ≡ true → Q) → s || t ≡ true → P ⊎ Q
      from true t f g e = inl (f refl)
      from false t f g e = inr (g e)

  -- "Q where P" is "not P, or Q"
  pub tells-where : {s t : Bool} → Tells P s → Tells Q t → Tells (P → Q) (not s || t)
  tells-where {s} {t} p q = record { to = to s t p.from q.to; from = from s t p.to q.from }
    where
      to : (s t : Bool) → (s ≡ true → P) → (Q → t ≡ true) → (P → Q) → not s || t ≡ true
      to true t f g h = g (h (f refl))
      to false t f g h = refl

      from : (s t : Bool) → (P → s ≡ true) → (t ≡ true → Q) → not s || t ≡ true → P → Q
      from true t f g e x = g e
      from false t f g e x = false-true (f x)

  -- "Q unless P" is "P, or Q"
  pub tells-unless : {s t : Bool} → Tells P s → Tells Q t → Tells (¬ P → Q) (s || t)
  tells-unless {s} {t} p q = record { to = to s t p.to q.to; from = from s t p.from q.from }
    where
      to : (s t : Bool) → (P → s ≡ true) → (Q → t ≡ true) → (¬ P → Q) → s || t ≡ true
      to true t f g h = refl
      to false t f g h = g (h (λ x. false-true (f x)))

      from : (s t : Bool) → (s ≡ true → P) → (t ≡ true → Q) → s || t ≡ true → ¬ P → Q
      from true t f g e n = absurd (n (f refl))
      from false t f g e n = g e

  -- the same test for another wording
  pub tells-also : {t : Bool} → (P → Q) → (Q → P) → Tells P t → Tells Q t
  tells-also f g p = record { to = λ q. p.to (g q); from = λ e. f (p.from e) }

-- what the test says no to does not hold, and the other way round
pub told-no : {P : Type 0} {t : Bool} → Tells P t → t ≡ false → ¬ P
told-no p e x = false-true (sym e ∙ p.to x)

pub no-told : {P : Type 0} {t : Bool} → Tells P t → ¬ P → t ≡ false
no-told {P} {t} p = go t p.from
  where
    go : (t : Bool) → (t ≡ true → P) → ¬ P → t ≡ false
    go true f n = absurd (n (f refl))
    go false f n = refl

pub tells-not : {P : Type 0} {t : Bool} → Tells P t → Tells (¬ P) (not t)
tells-not {P} {t} p = record { to = to t p.from; from = from t p.to }
  where
    to : (t : Bool) → (t ≡ true → P) → ¬ P → not t ≡ true
    to true f n = absurd (n (f refl))
    to false f n = refl

    from : (t : Bool) → (P → t ≡ true) → not t ≡ true → ¬ P
    from true f e x = false-true e
    from false f e x = false-true (f x)

truth : (t : Bool) → T t → t ≡ true
truth true x = refl
truth false x = absurd x

pub tells-order : (a b : ℤ) → Tells (a ≤ℤ b) (le_z a b)
tells-order a b = record { to = λ h. truth (le_z a b) h.le; from = λ e. record { le = subst T (sym e) tt } }

pub tells-same : (a b : ℤ) → Tells (a ≡ b) (same a b)
tells-same a b =
    tells-also (λ p. ≤-antisym p.0 p.1) (λ e. (subst (λ z. a ≤ℤ z) e (≤ℤ_refl a), subst (λ z. z ≤ℤ a) e (≤ℤ_refl a)))
    (tells-and (tells-order a b) (tells-order b a))

-- What holds below n, and of n, holds below n + 1.
below : (i n : ℕ) → i < suc n → (i < n) ⊎ (n ≡ i)
below i n l = go (ltb i n) (tells-lt i n)
  where
    go : (t : Bool) → Tells (i < n) t → (i < n) ⊎ (n ≡ i)
    go true s = inl (s.from refl)
    go false s = let k : ¬ (i < n) = λ x. false-true (s.to x) in inr (omega arith)

pub one_more : (P : ℕ → Type 0) (n : ℕ) → ((i : ℕ) → i < n → P i) → P n → (i : ℕ) → i < suc n → P i
one_more P n h p i l = go (below i n l)
  where
    go : (i < n) ⊎ (n ≡ i) → P i
    go (inl k) = h i k
    go (inr e) = subst P e p

pub tells_all : (P : ℕ → Type 0) (f : ℕ → Bool) → ((i : ℕ) → Tells (P i) (f i)) → (n : ℕ) → Tells ((i : ℕ) → i < n → P i) (all_to n f)
unfolding all_to
tells_all P f t zero = record { to = λ _. refl; from = λ _ i l. absurd (omega arith) }
tells_all P f t (suc n) = tells-also (λ p. one_more P n p.0 p.1) (λ h. ((λ i l. h i (omega arith)), h n (omega arith))) (tells-and (tells_all P f t n) (t n))
