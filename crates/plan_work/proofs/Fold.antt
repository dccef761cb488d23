-- A fold down the levels of a slope. Assumes nothing.
use Rattle.std.specs.Prelude.{◌≡◌, ℕ, zero, suc, ◌+◌, ◌-◌, ◌≤◌, ◌<◌}
use Rattle.std.proofs.Math.Path.{refl}
use Rattle.std.proofs.Common.{ap, ◌∙◌, add-zero, add-suc, arith}

module _ {A : Type 0} where
  -- x taken through the steps of the n levels above lo, the highest first
  unfoldable pub fold : (ℕ → A → A) → (lo n : ℕ) → A → A
  fold f lo zero x = x
  fold f lo (suc n) x = fold f lo n (f (suc (lo + n)) x)

  -- x taken through the steps of the levels hi, hi - 1, .., lo + 1
  abbrev pub down : (ℕ → A → A) → (lo hi : ℕ) → A → A
  down f lo hi x = fold f lo (hi - lo) x

  pub fold-zero : (f : ℕ → A → A) (lo : ℕ) (x : A) → fold f lo 0 x ≡ x
  unfolding fold
  fold-zero f lo x = refl

  pub fold-suc : (f : ℕ → A → A) (lo n : ℕ) (x : A) → fold f lo (suc n) x ≡ fold f lo n (f (suc (lo + n)) x)
  unfolding fold
  fold-suc f lo n x = refl

  -- the lowest step stands apart
  pub fold-low : (f : ℕ → A → A) (lo n : ℕ) (x : A) → fold f lo (suc n) x ≡ f (suc lo) (fold f (suc lo) n x)
  fold-low f lo zero x = rw (fold-suc f lo 0 x, fold-zero f lo, fold-zero f (suc lo) x, add-zero lo)
  fold-low f lo (suc n) x =
      let e : lo + suc n ≡ suc lo + n = omega arith in
      rw (fold-suc f lo (suc n) x, fold-low f lo n, fold-suc f (suc lo) n x, e)

  pub fold-cong : (f g : ℕ → A → A) (lo n : ℕ) (x : A) → ((l : ℕ) (y : A) → lo < l → l ≤ lo + n → f l y ≡ g l y) → fold f lo n x ≡ fold g lo n x
  fold-cong f g lo zero x e = rw (fold-zero f lo x, fold-zero g lo x)
  fold-cong f g lo (suc n) x e =
      rw (fold-suc f lo n x, fold-suc g lo n x, e (suc (lo + n)) x (omega arith) (omega arith)) (fold-cong f g lo n (g (suc (lo + n)) x) (λ l y a b. e l y a (omega arith)))

  fold-add : (f : ℕ → A → A) (lo m n : ℕ) (x : A) → fold f lo (m + n) x ≡ fold f lo m (fold f (lo + m) n x)
  fold-add f lo m zero x = rw (add-zero m, fold-zero f (lo + m) x)
  fold-add f lo m (suc n) x =
      let e : lo + (m + n) ≡ lo + m + n = omega arith in
      rw (add-suc m n, fold-suc f lo (m + n) x, fold-suc f (lo + m) n x, e) (fold-add f lo m n (f (suc (lo + m + n)) x))

  pub down-none : (f : ℕ → A → A) (lo : ℕ) (x : A) → down f lo lo x ≡ x
  down-none f lo x = let e : lo - lo ≡ 0 = omega arith in rw (e, fold-zero f lo x)

  pub down_step : (f : ℕ → A → A) (lo l : ℕ) (x : A) → lo ≤ l → down f lo (suc l) x ≡ down f lo l (f (suc l) x)
  down_step f lo l x h =
      let e : suc l - lo ≡ suc (l - lo) = omega arith in
      let q : lo + (l - lo) ≡ l = omega arith in
      rw (e, fold-suc f lo (l - lo) x, q)

  pub down-split : (f : ℕ → A → A) (lo m hi : ℕ) (x : A) → lo ≤ m → m ≤ hi → down f lo hi x ≡ down f lo m (down f m hi x)
  down-split f lo m hi x h k =
      let e : hi - lo ≡ (m - lo) + (hi - m) = omega arith in
      let q : lo + (m - lo) ≡ m = omega arith in
      ap (λ (n : ℕ). fold f lo n x) e ∙ fold-add f lo (m - lo) (hi - m) x ∙ ap (λ (n : ℕ). fold f lo (m - lo) (fold f n (hi - m) x)) q

  pub down-cong : (f g : ℕ → A → A) (lo hi : ℕ) (x : A) → lo ≤ hi → ((l : ℕ) (y : A) → lo < l → l ≤ hi → f l y ≡ g l y) → down f lo hi x ≡ down g lo hi x
  down-cong f g lo hi x h e = fold-cong f g lo (hi - lo) x (λ l y a b. e l y a (omega arith))
