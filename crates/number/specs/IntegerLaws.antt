-- Laws of the integers, made linear over ℕ: z is up z - dn z, one of the two being 0. Each operation has one law, an equation in ℕ that
-- `omega` reads; each order and equation is one order or equation in ℕ: `omega (zed, add-law a b)`. Assumes nothing.
use Rattle.std.specs.Prelude.{◌≡◌, Bool, true, false, not, cond, ℕ, zero, suc, ◌+◌, ◌-◌, ◌≤◌, ◌<◌, ◌^◌, min, max, T, ltb, ℤ, pos, negsuc, ◌+ℤ◌, neg_ℤ, nat_abs, ◌≤ℤ◌, ◌<ℤ◌}
use Rattle.std.proofs.Common.{sym, ap, subst, arith, leb→le, le→leb, ltb→lt, lt→ltb, nltb→le}
use Rattle.std.proofs.Math.Dec.{nleb→lt}
use Rattle.std.proofs.Math.IntN.{sub_ℕ}
use Rattle.std.specs.Int.Signed.{le_z, lt_z, mag}
use Rattle.std.specs.Int.{Width, int_max, int_min}
use Rattle.std.proofs.lemmas.Int.{clamps}
use mir.Val.{SFits, hbits}
use Rattle.number.specs.Integer.{min_z, max_z, clamp, up}

-- ---- the two parts: up, and dn

abbrev pub dn : ℤ → ℕ
dn (pos n) = 0
dn (negsuc n) = suc n

-- one of the two is 0
pub canon : (a : ℤ) → min (up a) (dn a) ≡ 0
canon (pos n) = omega arith
canon (negsuc n) = omega arith

-- a number is its two parts
pub ext : (a b : ℤ) → up a ≡ up b → dn a ≡ dn b → a ≡ b
ext (pos a) (pos b) p q = ap pos p
ext (pos a) (negsuc b) p q = absurd (omega arith)
ext (negsuc a) (pos b) p q = absurd (omega arith)
ext (negsuc a) (negsuc b) p q = ap negsuc (omega arith)

-- ---- equations and orders, in ℕ

pub eq-nat : {a b : ℤ} → a ≡ b → up a + dn b ≡ up b + dn a
eq-nat {a} {b} e = let p : up a ≡ up b = ap up e in let q : dn a ≡ dn b = ap dn e in omega arith

pub nat_eq : {a b : ℤ} → up a + dn b ≡ up b + dn a → a ≡ b
nat_eq {a} {b} h = ext a b (omega (arith, canon a, canon b)) (omega (arith, canon a, canon b))

le' : (a b : ℤ) → T (le_z a b) → up a + dn b ≤ up b + dn a
le' (pos a) (pos b) t = omega (arith, leb→le a b t)
le' (pos a) (negsuc b) t = absurd t
le' (negsuc a) (pos b) t = omega arith
le' (negsuc a) (negsuc b) t = omega (arith, leb→le b a t)

el' : (a b : ℤ) → up a + dn b ≤ up b + dn a → T (le_z a b)
el' (pos a) (pos b) h = le→leb a b (omega arith)
el' (pos a) (negsuc b) h = absurd (omega arith)
el' (negsuc a) (pos b) h = tt
el' (negsuc a) (negsuc b) h = le→leb b a (omega arith)

pub le-nat : {a b : ℤ} → a ≤ℤ b → up a + dn b ≤ up b + dn a
le-nat {a} {b} h = le' a b h.le

pub nat_le : {a b : ℤ} → up a + dn b ≤ up b + dn a → a ≤ℤ b
nat_le {a} {b} h = record { le = el' a b h }

lt' : (a b : ℤ) → T (lt_z a b) → up a + dn b < up b + dn a
lt' (pos a) (pos b) t = omega (arith, ltb→lt a b t)
lt' (pos a) (negsuc b) t = absurd t
lt' (negsuc a) (pos b) t = omega arith
lt' (negsuc a) (negsuc b) t = omega (arith, ltb→lt b a t)

tl' : (a b : ℤ) → up a + dn b < up b + dn a → T (lt_z a b)
tl' (pos a) (pos b) h = lt→ltb a b (omega arith)
tl' (pos a) (negsuc b) h = absurd (omega arith)
tl' (negsuc a) (pos b) h = tt
tl' (negsuc a) (negsuc b) h = lt→ltb b a (omega arith)

pub lt-nat : {a b : ℤ} → a <ℤ b → up a + dn b < up b + dn a
lt-nat {a} {b} h = lt' a b h.lt

pub nat_lt : {a b : ℤ} → up a + dn b < up b + dn a → a <ℤ b
nat_lt {a} {b} h = record { lt = tl' a b h }

-- a test's outcome
not' : (a b : ℤ) → T (not (lt_z a b)) → up b + dn a ≤ up a + dn b
not' (pos a) (pos b) t = omega (arith, nltb→le a b t)
not' (pos a) (negsuc b) t = omega arith
not' (negsuc a) (pos b) t = absurd t
not' (negsuc a) (negsuc b) t = omega (arith, nltb→le b a t)

ton' : (a b : ℤ) → T (not (le_z a b)) → up b + dn a < up a + dn b
ton' (pos a) (pos b) t = omega (arith, nleb→lt a b t)
ton' (pos a) (negsuc b) t = omega arith
ton' (negsuc a) (pos b) t = absurd t
ton' (negsuc a) (negsuc b) t = omega (arith, nleb→lt b a t)

pub lt-true : (a b : ℤ) → lt_z a b ≡ true → up a + dn b < up b + dn a
lt-true a b e = lt' a b (subst T (sym e) tt)

pub lt-false : (a b : ℤ) → lt_z a b ≡ false → up b + dn a ≤ up a + dn b
lt-false a b e = not' a b (subst (λ (t : Bool). T (not t)) (sym e) tt)

pub le-true : (a b : ℤ) → le_z a b ≡ true → up a + dn b ≤ up b + dn a
le-true a b e = le' a b (subst T (sym e) tt)

pub le-false : (a b : ℤ) → le_z a b ≡ false → up b + dn a < up a + dn b
le-false a b e = ton' a b (subst (λ (t : Bool). T (not t)) (sym e) tt)

-- what `omega` needs to read and prove orders on ℤ
pub ruleset zed = (arith, eq-nat, nat_eq, le-nat, nat_le, lt-nat, nat_lt, lt-true, lt-false, le-true, le-false)

-- ---- the operations' laws

-- the part above 0 of p - q, and the part below
sub-law : (p q : ℕ) → up (sub_ℕ p q) + q ≡ dn (sub_ℕ p q) + p
sub-law p q = go (ltb p q) (ltb→lt p q) (nltb→le p q)
  where
    go : (b : Bool) → (T b → p < q) → (T (not b) → q ≤ p) → up (cond b (negsuc (q - suc p)) (pos (p - q))) + q ≡ dn (cond b (negsuc (q - suc p)) (pos (p - q))) + p
    go true h k = omega (arith, h tt)
    go false h k = omega (arith, k tt)

pub add-law : (a b : ℤ) → up (a +ℤ b) + (dn a + dn b) ≡ dn (a +ℤ b) + (up a + up b)
add-law (pos a) (pos b) = omega arith
add-law (pos a) (negsuc b) = omega (arith, sub-law a (suc b))
add-law (negsuc a) (pos b) = omega (arith, sub-law b (suc a))
add-law (negsuc a) (negsuc b) = omega arith

pub neg-law : (a : ℤ) → up (neg_ℤ a) + up a ≡ dn (neg_ℤ a) + dn a
neg-law (pos zero) = omega arith
neg-law (pos (suc n)) = omega arith
neg-law (negsuc n) = omega arith

pub abs-law : (a : ℤ) → nat_abs a ≡ up a + dn a
abs-law (pos n) = omega arith
abs-law (negsuc n) = omega arith

-- ---- the order's laws

pub ≤-total : (a b : ℤ) → T (not (le_z a b)) → b <ℤ a
≤-total a b t = nat_lt (ton' a b t)

pub ≤_trans : {a b c : ℤ} → a ≤ℤ b → b ≤ℤ c → a ≤ℤ c
≤_trans h k = omega zed

pub ≤-antisym : {a b : ℤ} → a ≤ℤ b → b ≤ℤ a → a ≡ b
≤-antisym h k = omega zed

pub +-mono : {a b c d : ℤ} → a ≤ℤ b → c ≤ℤ d → (a +ℤ c) ≤ℤ (b +ℤ d)
+-mono {a} {b} {c} {d} h k = omega (zed, add-law a c, add-law b d)

-- |a + b| ≤ |a| + |b|
pub abs-+ : (a b : ℤ) → nat_abs (a +ℤ b) ≤ nat_abs a + nat_abs b
abs-+ a b = omega (zed, add-law a b, abs-law (a +ℤ b), abs-law a, abs-law b, canon (a +ℤ b))

-- ---- the smaller, the greater, held between two ends

-- by the test of a ≤ b
by_le : (a b : ℤ) (P : Bool → Type 0) → (a ≤ℤ b → P true) → (b <ℤ a → P false) → P (le_z a b)
by_le a b P f g = go (le_z a b) (λ t. record { le = t }) (≤-total a b)
  where
    go : (t : Bool) → (T t → a ≤ℤ b) → (T (not t) → b <ℤ a) → P t
    go true y n = f (y tt)
    go false y n = g (n tt)

-- with dn a + dn b added, each is a number of ℕ
pub min-law : (a b : ℤ) → up (min_z a b) + (dn a + dn b) ≡ dn (min_z a b) + min (up a + dn b) (up b + dn a)
unfolding min_z
min-law a b = by_le a b (λ t. up (cond t a b) + (dn a + dn b) ≡ dn (cond t a b) + min (up a + dn b) (up b + dn a)) (λ h. omega zed) (λ h. omega zed)

pub max-law : (a b : ℤ) → up (max_z a b) + (dn a + dn b) ≡ dn (max_z a b) + max (up a + dn b) (up b + dn a)
unfolding max_z
max-law a b = by_le a b (λ t. up (cond t b a) + (dn a + dn b) ≡ dn (cond t b a) + max (up a + dn b) (up b + dn a)) (λ h. omega zed) (λ h. omega zed)

-- the language's own
pub int_max-max_z : (a b : ℤ) → int_max a b ≡ max_z a b
int_max-max_z a b = grind (zed, clamps, max-law a b)

pub int_min-min_z : (a b : ℤ) → int_min a b ≡ min_z a b
int_min-min_z a b = grind (zed, clamps, min-law a b)

-- ---- differences: p - q for two numbers of ℕ, so that `simp` normalises an expression

unfoldable pub diff : ℕ → ℕ → ℤ
diff p q = sub_ℕ p q

pub diff-law : (p q : ℕ) → up (diff p q) + q ≡ dn (diff p q) + p
unfolding diff
diff-law p q = sub-law p q

pub view : (z : ℤ) → z ≡ diff (up z) (dn z)
view z = omega (zed, diff-law (up z) (dn z))

pub diff-≡ : (p q r s : ℕ) → p + s ≡ r + q → diff p q ≡ diff r s
diff-≡ p q r s h = omega (zed, diff-law p q, diff-law r s)

pub diff-≤ : (p q r s : ℕ) → p + s ≤ r + q → diff p q ≤ℤ diff r s
diff-≤ p q r s h = omega (zed, diff-law p q, diff-law r s)

pub diff-+ : (p q r s : ℕ) → diff p q +ℤ diff r s ≡ diff (p + r) (q + s)
diff-+ p q r s = omega (zed, diff-law p q, diff-law r s, add-law (diff p q) (diff r s), diff-law (p + r) (q + s))

pub diff-neg : (p q : ℕ) → neg_ℤ (diff p q) ≡ diff q p
diff-neg p q = omega (zed, diff-law p q, neg-law (diff p q), diff-law q p)

pub diff-min : (p q r s : ℕ) → min_z (diff p q) (diff r s) ≡ diff (min (p + s) (r + q)) (q + s)
diff-min p q r s = omega (zed, diff-law p q, diff-law r s, min-law (diff p q) (diff r s), diff-law (min (p + s) (r + q)) (q + s))

pub diff-max : (p q r s : ℕ) → max_z (diff p q) (diff r s) ≡ diff (max (p + s) (r + q)) (q + s)
diff-max p q r s = omega (zed, diff-law p q, diff-law r s, max-law (diff p q) (diff r s), diff-law (max (p + s) (r + q)) (q + s))

pub ruleset diffs = (diff-+, diff-neg, diff-min, diff-max)

-- ---- laws of min, max and clamp

pub max_comm : (a b : ℤ) → max_z a b ≡ max_z b a
max_comm a b = omega (zed, max-law a b, max-law b a)

pub max_assoc : (a b c : ℤ) → max_z (max_z a b) c ≡ max_z a (max_z b c)
max_assoc a b c = omega (zed, max-law a b, max-law b c, max-law (max_z a b) c, max-law a (max_z b c))

-- a sum moves into a maximum
pub max-+ : (a b c : ℤ) → max_z a b +ℤ c ≡ max_z (a +ℤ c) (b +ℤ c)
max-+ a b c = omega (zed, max-law a b, add-law (max_z a b) c, add-law a c, add-law b c, max-law (a +ℤ c) (b +ℤ c))

pub min-+ : (a b c : ℤ) → min_z a b +ℤ c ≡ min_z (a +ℤ c) (b +ℤ c)
min-+ a b c = omega (zed, min-law a b, add-law (min_z a b) c, add-law a c, add-law b c, min-law (a +ℤ c) (b +ℤ c))

pub clamp-+ : (x l h c : ℤ) → clamp x l h +ℤ c ≡ clamp (x +ℤ c) (l +ℤ c) (h +ℤ c)
unfolding clamp
clamp-+ x l h c = simp (min-+, max-+)

-- by which of the two it is
pub min-by : (a b : ℤ) (P : ℤ → Type 0) → (a ≤ℤ b → P a) → (b ≤ℤ a → P b) → P (min_z a b)
unfolding min_z
min-by a b P f g = by_le a b (λ t. P (cond t a b)) f (λ h. g (omega zed))

-- a minimum moves out of a maximum
pub max-min : (a b c : ℤ) → max_z (min_z a b) c ≡ min_z (max_z a c) (max_z b c)
max-min a b c = rw (view a, view b, view c) (simp diffs (diff-≡ _ _ _ _ (omega arith)))

cut : (x l h k : ℤ) → l ≤ℤ h → min_z (min_z (max_z x l) h) k ≡ min_z (max_z x (min_z l k)) (min_z h k)
cut x l h k p = min-by l k (λ m. min_z (min_z (max_z x l) h) k ≡ min_z (max_z x m) (min_z h k))
    (λ q. rw (view x, view l, view h, view k) (simp diffs (diff-≡ _ _ _ _ (omega zed))))
    (λ q. rw (view x, view l, view h, view k) (simp diffs (diff-≡ _ _ _ _ (omega zed))))

-- what is held twice is held once, between the ends' images
pub clamp-clamp : (x l h m k : ℤ) → l ≤ℤ h → clamp (clamp x l h) m k ≡ clamp x (clamp l m k) (clamp h m k)
unfolding clamp
clamp-clamp x l h m k p = rw (max-min (max_z x l) h m, max_assoc x l m) (cut x (max_z l m) (max_z h m) k (omega (zed, max-law l m, max-law h m)))

pub clamp-mono : (x y l h : ℤ) → x ≤ℤ y → clamp x l h ≤ℤ clamp y l h
unfolding clamp
clamp-mono x y l h p = rw (view x, view y, view l, view h) (simp diffs (diff-≤ _ _ _ _ (omega zed)))

-- both ends given, and what lies between them stays
pub clamp-low : (x l h : ℤ) → l ≤ℤ h → l ≤ℤ clamp x l h
unfolding clamp
clamp-low x l h p = omega (zed, max-law x l, min-law (max_z x l) h)

pub clamp-high : (x l h : ℤ) → clamp x l h ≤ℤ h
unfolding clamp
clamp-high x l h = omega (zed, max-law x l, min-law (max_z x l) h)

pub clamp-in : (x l h : ℤ) → l ≤ℤ x → x ≤ℤ h → clamp x l h ≡ x
unfolding clamp
clamp-in x l h p q = omega (zed, max-law x l, min-law (max_z x l) h)

-- ---- absolute values

pub abs-max : (a b : ℤ) → nat_abs (max_z a b) ≤ max (nat_abs a) (nat_abs b)
abs-max a b = omega (zed, max-law a b, abs-law a, abs-law b, abs-law (max_z a b), canon a, canon b, canon (max_z a b))

pub abs-min : (a b : ℤ) → nat_abs (min_z a b) ≤ max (nat_abs a) (nat_abs b)
abs-min a b = omega (zed, min-law a b, abs-law a, abs-law b, abs-law (min_z a b), canon a, canon b, canon (min_z a b))

pub abs-clamp : (x l h : ℤ) → nat_abs (clamp x l h) ≤ max (nat_abs x) (max (nat_abs l) (nat_abs h))
unfolding clamp
abs-clamp x l h = omega (arith, abs-max x l, abs-min (max_z x l) h)

-- ---- a number that fits

pub mag-abs : (a : ℤ) → mag a ≤ nat_abs a
mag-abs (pos n) = omega arith
mag-abs (negsuc n) = omega arith

pub sfits-abs : (w : Width) (a : ℤ) → nat_abs a < 2 ^ hbits w → SFits w a
sfits-abs w a h = record { sfits = omega (arith, mag-abs a) }
