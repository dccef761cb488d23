-- The contexts of the four modes: the numbers of one level, and of one run after another, so that `run_is` holds of each. Assumes nothing.
use Rattle.std.specs.Prelude.{◌≡◌, ℕ, ◌%◌, ◌^◌, ℤ, pos, ◌+ℤ◌, ◌-ℤ◌, ◌≤ℤ◌, refl}
use Rattle.std.proofs.Common.{sym, ap, ◌∙◌, arith}
use Rattle.std.proofs.Math.IntN.{+ℤ_assoc, -ℤ-+ℤ_cancel, +ℤ_comm, +ℤ_idl, +ℤ_idr}
use Rattle.std.specs.Int.Signed.{≤ℤ_refl}
use Rattle.algebra.specs.Run.{Level, step, Context}
use Rattle.number.specs.Integer.{max_z, clamp}
use Rattle.number.specs.IntegerLaws.{zed, add-law, view, diffs, diff-≡, +-mono, max_comm, max_assoc, max-+, clamp-+, clamp-clamp, clamp-mono, clamp-low, clamp-high, clamp-in}
use Rattle.number.specs.Modulo.{mods}
use Rattle.modes.specs.FourModes.{Amounts, InRange, net, heaviest, eaten, stamp, lift, line_of, eaten_of, Stamp, stamp_of}
use Rattle.modes.proofs.ModeLaws.{lift-r, stamp-≡, stamp-node}
use Rattle.modes.specs.Run.{net_along, HeaviestNumbers, at_least, along, Between, between, EatenNumbers, eaten_along, addend, Affine, affine}
use Rattle.modes.specs.declared.Held.{Held}
use Rattle.modes.specs.declared.Held.TheVariants.{Nothing, Figure}
use Rattle.modes.specs.Runs.{moved, line_level, line_after, affine_level, affine_after, between_after, between_level, eaten_level, eaten_after, bound_of}

+-left : (a b c : ℤ) → a +ℤ (b +ℤ c) ≡ b +ℤ (a +ℤ c)
+-left a b c = omega (zed, add-law b c, add-law a (b +ℤ c), add-law a c, add-law b (a +ℤ c))

ruleset sums = (+ℤ_assoc, +ℤ_comm, +-left)

-- ---- mode 1: x + a

net-level : (v b c x : ℤ) → x +ℤ (v +ℤ (b +ℤ c)) ≡ v +ℤ ((b +ℤ x) +ℤ c)
net-level v b c x = simp sums

pub net-app : (l : Level net) (x : ℤ) → x +ℤ (l.carried.value +ℤ (l.before +ℤ l.after)) ≡ step net l x
unfolding step
net-app l x = net-level l.carried.value l.before l.after x

pub net-after : (f g : ℤ) → Unit {0} → (x : ℤ) → x +ℤ (g +ℤ f) ≡ (x +ℤ g) +ℤ f
net-after f g _ x = simp sums

abbrev pub net_context : Context net InRange
net_context = record {
  K = ℤ;
  apply = net_along;
  level = λ l. l.carried.value +ℤ (l.before +ℤ l.after);
  compose = λ f g. g +ℤ f;
  Fine = λ _. Unit {0};
  level-fine = λ _ _. tt;
  compose-fine = λ _ _ _ _. tt;
  apply-level = net-app;
  apply-compose = net-after;
}

at-least-twice : (A B : Held) (y b : ℤ) → at_least (lift max_z A (moved B b)) (y +ℤ b) ≡ at_least A (at_least B y +ℤ b)
unfolding lift at_least moved
at-least-twice Nothing Nothing y b = refl
at-least-twice Nothing (Figure c) y b = sym (max-+ c y b)
at-least-twice (Figure a) Nothing y b = refl
at-least-twice (Figure a) (Figure c) y b = max_assoc a (c +ℤ b) (y +ℤ b) ∙ ap (max_z a) (sym (max-+ c y b))

pub line_after_lem : (f g : HeaviestNumbers) → Unit {0} → (x : Held) → Figure (along (line_after f g) x) ≡ Figure (along f (Figure (along g x)))
unfolding along
line_after_lem f g _ Nothing = refl
line_after_lem f g _ (Figure x) = ap Figure (ap (at_least (lift max_z f.other (moved g.other f.add))) (sym (+ℤ_assoc x g.add f.add)) ∙ at-least-twice f.other g.other (x +ℤ g.add) f.add)

line-two : (v c x : ℤ) → max_z (c +ℤ v) (x +ℤ v) ≡ v +ℤ max_z x c
line-two v c x = rw (view v, view c, view x) (simp diffs (diff-≡ _ _ _ _ (omega arith)))

line-three : (v b c x : ℤ) → max_z (max_z b c +ℤ v) (x +ℤ v) ≡ v +ℤ max_z (max_z b x) c
line-three v b c x = rw (view v, view b, view c, view x) (simp diffs (diff-≡ _ _ _ _ (omega arith)))

line_at : (b c x : Held) (r : Amounts) → along (record { empty = line_of r.value (lift max_z b c); other = moved (lift max_z b c) r.value; add = r.value }) x ≡ line_of r.value (lift max_z (lift max_z b x) c)
unfolding lift at_least moved along line_of
line_at Nothing c Nothing r = refl
line_at (Figure b) c Nothing r = refl
line_at Nothing Nothing (Figure x) r = +ℤ_comm x r.value
line_at Nothing (Figure c) (Figure x) r = line-two r.value c x
line_at (Figure b) Nothing (Figure x) r = line-two r.value b x ∙ ap (λ (m : ℤ). r.value +ℤ m) (max_comm x b)
line_at (Figure b) (Figure c) (Figure x) r = line-three r.value b c x

pub line-app : (l : Level heaviest) (x : Held) → Figure (along (line_level l) x) ≡ step heaviest l x
unfolding step
line-app l x = ap Figure (line_at l.before l.after x l.carried)

abbrev pub heaviest_context : Context heaviest InRange
heaviest_context = record {
  K = HeaviestNumbers;
  apply = λ k x. Figure (along k x);
  level = line_level;
  compose = line_after;
  Fine = λ _. Unit {0};
  level-fine = λ _ _. tt;
  compose-fine = λ _ _ _ _. tt;
  apply-level = line-app;
  apply-compose = line_after_lem;
}

pub affine-after : (f g : Affine) → Unit {0} → (x : Stamp) → affine (affine_after f g) x ≡ affine f (affine g x)
affine-after f g _ x = stamp-≡ (simp mods (ap (λ (y : ℕ). y % 2 ^ 32) (omega arith)))

pub affine-app : (l : Level stamp) (x : Stamp) → affine (affine_level l) x ≡ step stamp l x
unfolding step
affine-app l x =
    ap (λ q. affine (record { times = stamp_of 31; plus = q }) x) (stamp-node l.carried (stamp.◌⊗◌ l.before l.after))
    ∙ stamp-≡ (simp mods (ap (λ (y : ℕ). y % 2 ^ 32) (omega arith)))
    ∙ sym (stamp-node l.carried (stamp.◌⊗◌ (stamp.◌⊗◌ l.before x) l.after))

abbrev pub stamp_context : Context stamp InRange
stamp_context = record {
  K = Affine;
  apply = affine;
  level = affine_level;
  compose = affine_after;
  Fine = λ _. Unit {0};
  level-fine = λ _ _. tt;
  compose-fine = λ _ _ _ _. tt;
  apply-level = affine-app;
  apply-compose = affine-after;
}

pub between-after : (f g : Between) → g.low ≤ℤ g.high → (x : ℤ) → between (between_after f g) x ≡ between f (between g x)
between-after f g p x = sym
    (ap (λ (y : ℤ). clamp y f.low f.high) (clamp-+ (x +ℤ g.add) g.low g.high f.add)
    ∙ clamp-clamp ((x +ℤ g.add) +ℤ f.add) (g.low +ℤ f.add) (g.high +ℤ f.add) f.low f.high (+-mono p (omega zed))
    ∙ ap (λ (y : ℤ). clamp y (between f g.low) (between f g.high)) (+ℤ_assoc x g.add f.add))

pub between-fine : (f g : Between) → f.low ≤ℤ f.high → g.low ≤ℤ g.high → between f g.low ≤ℤ between f g.high
between-fine f g _ p = clamp-mono _ _ _ _ (+-mono p (omega zed))

-- low and high are the ends of what it can give: it gives nothing beyond them, and it gives both
pub between_ends : (k : Between) → k.low ≤ℤ k.high → (x : ℤ) → (k.low ≤ℤ between k x) × (between k x ≤ℤ k.high)
between_ends k p x = (clamp-low (x +ℤ k.add) k.low k.high p, clamp-high (x +ℤ k.add) k.low k.high)

pub between-low : (k : Between) → k.low ≤ℤ k.high → between k (k.low -ℤ k.add) ≡ k.low
between-low k p = ap (λ (y : ℤ). clamp y k.low k.high) (-ℤ-+ℤ_cancel k.low k.add) ∙ clamp-in k.low k.low k.high (≤ℤ_refl k.low) p

pub between-high : (k : Between) → k.low ≤ℤ k.high → between k (k.high -ℤ k.add) ≡ k.high
between-high k p = ap (λ (y : ℤ). clamp y k.low k.high) (-ℤ-+ℤ_cancel k.high k.add) ∙ clamp-in k.high k.low k.high p (≤ℤ_refl k.high)

pub eaten-after : (f g : EatenNumbers) → g.some.low ≤ℤ g.some.high → (x : Held) → Figure (eaten_along (eaten_after f g) x) ≡ Figure (eaten_along f (Figure (eaten_along g x)))
unfolding eaten_along
eaten-after f g p Nothing = refl
eaten-after f g p (Figure x) = ap Figure (between-after f.some g.some p x)

pub eaten-fine : (f g : EatenNumbers) → f.some.low ≤ℤ f.some.high → g.some.low ≤ℤ g.some.high → between f.some g.some.low ≤ℤ between f.some g.some.high
eaten-fine f g p q = between-fine f.some g.some p q

-- what a record holds beside x, and x: something
inner-sum : (b c : Held) (x : ℤ) → lift ◌+ℤ◌ (lift ◌+ℤ◌ b (Figure x)) c ≡ Figure ((addend b +ℤ x) +ℤ addend c)
unfolding lift
inner-sum Nothing Nothing x = ap Figure (sym (+ℤ_idr (pos 0 +ℤ x) ∙ +ℤ_idl x))
inner-sum Nothing (Figure c) x = ap Figure (sym (ap (λ (y : ℤ). y +ℤ c) (+ℤ_idl x)))
inner-sum (Figure b) Nothing x = ap Figure (sym (+ℤ_idr (b +ℤ x)))
inner-sum (Figure b) (Figure c) x = refl

-- what a record holds beside the inner part, added up
pub addend-sum : (b c : Held) → addend (lift ◌+ℤ◌ b c) ≡ addend b +ℤ addend c
unfolding lift
addend-sum Nothing Nothing = refl
addend-sum Nothing (Figure c) = sym (+ℤ_idl c)
addend-sum (Figure b) Nothing = sym (+ℤ_idr b)
addend-sum (Figure b) (Figure c) = refl

pub bound-eaten : (r : Amounts) (h : Held) → clamp (r.value +ℤ addend h) (bound_of h r.value r.floor) (bound_of h r.value r.ceiling) ≡ eaten_of r h
unfolding eaten_of
bound-eaten r Nothing = ap (λ (y : ℤ). clamp y r.value r.value) (+ℤ_idr r.value) ∙ clamp-in r.value r.value r.value (≤ℤ_refl r.value) (≤ℤ_refl r.value)
bound-eaten r (Figure x) = refl

eaten-figure : (r : Amounts) (s : ℤ) → clamp (r.value +ℤ s) r.floor r.ceiling ≡ eaten_of r (Figure s)
unfolding eaten_of
eaten-figure r s = refl

eaten-at : (b c x : Held) (r : Amounts) → eaten_along (record { empty = eaten_of r (lift ◌+ℤ◌ b c); some = between_level r (addend b) (addend c) }) x ≡ eaten_of r (lift ◌+ℤ◌ (lift ◌+ℤ◌ b x) c)
unfolding eaten_along
eaten-at b c Nothing r = ap (λ (h : Held). eaten_of r (lift ◌+ℤ◌ h c)) (sym (lift-r ◌+ℤ◌ b))
eaten-at b c (Figure x) r = ap (λ (y : ℤ). clamp y r.floor r.ceiling) (net-level r.value (addend b) (addend c) x) ∙ eaten-figure r _ ∙ ap (eaten_of r) (sym (inner-sum b c x))

pub eaten-app : (l : Level eaten) (x : Held) → Figure (eaten_along (eaten_level l) x) ≡ step eaten l x
unfolding step
eaten-app l x = ap Figure (eaten-at l.before l.after x l.carried)

abbrev pub eaten_context : Context eaten InRange
eaten_context = record {
  K = EatenNumbers;
  apply = λ k x. Figure (eaten_along k x);
  level = eaten_level;
  compose = eaten_after;
  Fine = λ k. k.some.low ≤ℤ k.some.high;
  level-fine = λ l s. s.ordered;
  compose-fine = eaten-fine;
  apply-level = eaten-app;
  apply-compose = eaten-after;
}
