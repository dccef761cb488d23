-- How large the figures and the numbers of a run get: a record adds at most 10^9 to what the values weigh. Assumes nothing.
-- Document 01's bound is one formula: unit × unclosed + the sizes of the values ≤ unit × opened. In modes 1, 2 and 5 the unit is 10^9 and a size
-- is an absolute value, -2^63 counting 0 in modes 2 and 5; in mode 4 the unit is 1 and every size 0: "opened is at least the unclosed records".
use Rattle.std.specs.Prelude.{◌≡◌, ℕ, ◌+◌, ◌*◌, ◌≤◌, max, ℤ, ◌+ℤ◌, unsigned_abs, refl}
use Rattle.std.proofs.Common.{mul-le-mul, arith, lit<}
use Rattle.algebra.specs.Run.{Level}
use Rattle.algebra.specs.Sizes.{Sizes, cost, RunSizes}
use Rattle.number.specs.Integer.{max_z}
use Rattle.number.specs.IntegerLaws.{abs-+, abs-max, abs-clamp}
use Rattle.modes.specs.FourModes.{Amounts, limit, InRange, net, heaviest, eaten, stamp, lift, line_of, eaten_of, Stamp}
use Rattle.modes.specs.Run.{HeaviestNumbers, at_least, Between, between, EatenNumbers, addend}
use Rattle.modes.specs.Runs.{moved, line_after, between_after, eaten_after}
use Rattle.modes.proofs.Runs.{net_context, heaviest_context, eaten_context, stamp_context}
use Rattle.modes.specs.declared.Held.{Held}
use Rattle.modes.specs.declared.Held.TheVariants.{Nothing, Figure}
use Rattle.modes.specs.Bound.{size_held, LineIn, BetweenIn, EatenIn}

-- ---- mode 1

pub net-node : (r : Amounts) (h : ℤ) → InRange r → unsigned_abs (r.value +ℤ h) ≤ limit + unsigned_abs h
net-node r h i = omega (arith, abs-+ r.value h)

abbrev pub net_sizes : Sizes net InRange
net_sizes = record { unit = limit; size = unsigned_abs; unit-pos = lit< tt; size-ι = refl; size-⊗ = abs-+; size-node = net-node }

pub net-size : (l : Level net) → InRange l.carried → unsigned_abs (l.carried.value +ℤ (l.before +ℤ l.after)) ≤ cost net_sizes l
net-size l i = omega (arith, net-node l.carried (l.before +ℤ l.after) i, abs-+ l.before l.after)

pub net-compose : (f g : ℤ) (m n : ℕ) → unsigned_abs f ≤ m → unsigned_abs g ≤ n → unsigned_abs (g +ℤ f) ≤ m + n
net-compose f g m n p q = omega (arith, abs-+ g f)

abbrev pub net_run_sizes : RunSizes net_context net_sizes
net_run_sizes = record { Within = λ a n. unsigned_abs a ≤ n; within_level = net-size; within-compose = net-compose }

pub size-nothing : size_held Nothing ≡ 0
unfolding size_held
size-nothing = refl

pub size-lift : (f : ℤ → ℤ → ℤ) → ((a b : ℤ) → unsigned_abs (f a b) ≤ unsigned_abs a + unsigned_abs b) → (a b : Held) → size_held (lift f a b) ≤ size_held a + size_held b
unfolding size_held lift
size-lift f e Nothing b = omega arith
size-lift f e (Figure a) Nothing = omega arith
size-lift f e (Figure a) (Figure b) = e a b

pub max-sum : (a b : ℤ) → unsigned_abs (max_z a b) ≤ unsigned_abs a + unsigned_abs b
max-sum a b = omega (arith, abs-max a b)

pub line-node : (r : Amounts) (h : Held) → InRange r → size_held (Figure (line_of r.value h)) ≤ limit + size_held h
unfolding size_held line_of
line-node r Nothing i = omega arith
line-node r (Figure s) i = net-node r s i

abbrev pub heaviest_sizes : Sizes heaviest InRange
heaviest_sizes =
    record { unit = limit; size = size_held; unit-pos = lit< tt; size-ι = size-nothing; size-⊗ = size-lift max_z max-sum; size-node = line-node }

pub size-max : (a b : Held) → size_held (lift max_z a b) ≤ max (size_held a) (size_held b)
unfolding size_held lift
size-max Nothing b = omega arith
size-max (Figure a) Nothing = omega arith
size-max (Figure a) (Figure b) = abs-max a b

pub size-moved : (a : Held) (v : ℤ) → size_held (moved a v) ≤ size_held a + unsigned_abs v
unfolding size_held moved
size-moved Nothing v = omega arith
size-moved (Figure a) v = abs-+ a v

pub at-least-in : (a : Held) (y : ℤ) → unsigned_abs (at_least a y) ≤ max (size_held a) (unsigned_abs y)
unfolding size_held at_least
at-least-in Nothing y = omega arith
at-least-in (Figure a) y = abs-max a y

pub line-of : (r : Amounts) (h : Held) → InRange r → unsigned_abs (line_of r.value h) ≤ limit + size_held h
unfolding size_held
line-of r h i = line-node r h i

pub line-size : (l : Level heaviest) → InRange l.carried → LineIn (heaviest_context.level l) (cost heaviest_sizes l)
line-size l i =
    let s : Held = lift max_z l.before l.after in
    omega (arith, size-max l.before l.after, line-of l.carried s i, size-moved s l.carried.value)

pub line-after-in : (f g : HeaviestNumbers) (m n : ℕ) → LineIn f m → LineIn g n → LineIn (line_after f g) (m + n)
line-after-in f g m n p q =
    omega (
      arith,
      abs-+ g.add f.add,
      size-max f.other (moved g.other f.add),
      size-moved g.other f.add,
      at-least-in f.other (g.empty +ℤ f.add),
      abs-+ g.empty f.add,
    )

abbrev pub heaviest_run_sizes : RunSizes heaviest_context heaviest_sizes
heaviest_run_sizes = record { Within = LineIn; within_level = line-size; within-compose = line-after-in }

-- ---- mode 4: a stamp has no size, since its sums wrap

pub no_size : (a b : Stamp) → 0 ≤ 0 + 0
no_size a b = omega arith

pub stamp-unit : (r : Amounts) (h : Stamp) → InRange r → 0 ≤ 1 + 0
stamp-unit r h i = omega arith

abbrev pub stamp_sizes : Sizes stamp InRange
stamp_sizes = record { unit = 1; size = λ _. 0; unit-pos = lit< tt; size-ι = refl; size-⊗ = no_size; size-node = stamp-unit }

abbrev pub stamp_run_sizes : RunSizes stamp_context stamp_sizes
stamp_run_sizes = record { Within = λ _ _. Unit {0}; within_level = λ _ _. tt; within-compose = λ _ _ _ _ _ _. tt }

-- ---- mode 5

pub eaten-of : (r : Amounts) (h : Held) → InRange r → unsigned_abs (eaten_of r h) ≤ limit + size_held h
unfolding size_held eaten_of
eaten-of r Nothing i = omega arith
eaten-of r (Figure s) i = omega (arith, abs-clamp (r.value +ℤ s) r.floor r.ceiling, net-node r s i)

pub eaten-node : (r : Amounts) (h : Held) → InRange r → size_held (Figure (eaten_of r h)) ≤ limit + size_held h
unfolding size_held
eaten-node r h i = eaten-of r h i

abbrev pub eaten_sizes : Sizes eaten InRange
eaten_sizes = record { unit = limit; size = size_held; unit-pos = lit< tt; size-ι = size-nothing; size-⊗ = size-lift ◌+ℤ◌ abs-+; size-node = eaten-node }

-- a number put through f
pub between_in : (f : Between) (x : ℤ) (m n : ℕ) → BetweenIn f m → unsigned_abs x ≤ n → unsigned_abs (between f x) ≤ m + n
between_in f x m n p q = omega (arith, abs-clamp (x +ℤ f.add) f.low f.high, abs-+ x f.add)

pub between-after-in : (f g : Between) (m n : ℕ) → BetweenIn f m → BetweenIn g n → BetweenIn (between_after f g) (m + n)
between-after-in f g m n p q = omega (arith, abs-+ g.add f.add, between_in f g.low m n p q.low-in, between_in f g.high m n p q.high-in)

pub eaten-after-in : (f g : EatenNumbers) (m n : ℕ) → EatenIn f m → EatenIn g n → EatenIn (eaten_after f g) (m + n)
eaten-after-in f g m n p q = record { empty-in = between_in f.some g.empty m n p.some_in q.empty-in; some_in = between-after-in f.some g.some m n p.some_in q.some_in }

pub addend-size : (h : Held) → unsigned_abs (addend h) ≡ size_held h
unfolding size_held
addend-size Nothing = refl
addend-size (Figure z) = refl

pub eaten-size : (l : Level eaten) → InRange l.carried → EatenIn (eaten_context.level l) (cost eaten_sizes l)
eaten-size l i = record {
  empty-in = omega (arith, eaten-of l.carried (lift ◌+ℤ◌ l.before l.after) i, size-lift ◌+ℤ◌ abs-+ l.before l.after);
  some_in = omega (arith, net-node l.carried (addend l.before +ℤ addend l.after) i, abs-+ (addend l.before) (addend l.after), addend-size l.before, addend-size l.after);
}

abbrev pub eaten_run_sizes : RunSizes eaten_context eaten_sizes
eaten_run_sizes = record { Within = EatenIn; within_level = eaten-size; within-compose = eaten-after-in }

-- ---- what the bound leaves fits 64 bits

pub bound-fits : (unit opened n : ℕ) → unit ≤ limit → opened ≤ 100000 → n ≤ unit * opened → n ≤ 100000000000000
bound-fits unit opened n u o h = omega (arith, mul-le-mul {n₁ = unit} {m₁ = opened} {n₂ = limit} {m₂ = 100000} u o)
