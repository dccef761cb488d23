-- The contexts of the four modes: the numbers of one level, and of one run after another, so that `run_is` holds of each. Assumes nothing.
use Rattle.std.specs.Prelude.{◌+◌, ◌*◌, ℤ, ◌+ℤ◌}
use Rattle.algebra.specs.Run.{Level}
use Rattle.number.specs.Integer.{max_z}
use Rattle.modes.specs.FourModes.{Amounts, heaviest, eaten, stamp, lift, line_of, eaten_of, stamp_of}
use Rattle.modes.specs.Run.{HeaviestNumbers, at_least, Between, between, EatenNumbers, addend, Affine}
use Rattle.modes.specs.declared.Held.{Held}
use Rattle.modes.specs.declared.Held.TheVariants.{Nothing, Figure}

-- ---- mode 2: z for nothing, else the greater of A and x + B

unfoldable pub moved : Held → ℤ → Held
moved Nothing v = Nothing
moved (Figure a) v = Figure (a +ℤ v)

abbrev pub line_level : Level heaviest → HeaviestNumbers
line_level l =
    let s : Held = lift max_z l.before l.after in
    record { empty = line_of l.carried.value s; other = moved s l.carried.value; add = l.carried.value }

abbrev pub line_after : HeaviestNumbers → HeaviestNumbers → HeaviestNumbers
line_after f g =
    record {
      empty = at_least f.other (g.empty +ℤ f.add);
      other = lift max_z f.other (moved g.other f.add);
      add = g.add +ℤ f.add;
    }

-- ---- mode 4: m x + q modulo 2^32

abbrev pub affine_level : Level stamp → Affine
affine_level l = record { times = stamp_of 31; plus = stamp.node l.carried (stamp.◌⊗◌ l.before l.after) }

abbrev pub affine_after : Affine → Affine → Affine
affine_after f g =
    record {
      times = stamp_of (f.times.num * g.times.num);
      plus = stamp_of (f.times.num * g.plus.num + f.plus.num);
    }

-- ---- mode 5: z for nothing, else x + a held between l and h

abbrev pub between_after : Between → Between → Between
between_after f g = record { add = g.add +ℤ f.add; low = between f g.low; high = between f g.high }

abbrev pub between_level : Amounts → ℤ → ℤ → Between
between_level r b c = record { add = r.value +ℤ (b +ℤ c); low = r.floor; high = r.ceiling }

-- the numbers of one level, and of one run after another
abbrev pub eaten_level : Level eaten → EatenNumbers
eaten_level l = record { empty = eaten_of l.carried (lift ◌+ℤ◌ l.before l.after); some = between_level l.carried (addend l.before) (addend l.after) }

abbrev pub eaten_after : EatenNumbers → EatenNumbers → EatenNumbers
eaten_after f g = record { empty = between f.some g.empty; some = between_after f.some g.some }

-- a bound of a record that holds h: where it holds nothing, its value stands for both bounds
abbrev pub bound_of : Held → (v bound : ℤ) → ℤ
bound_of Nothing v b = v
bound_of (Figure x) v b = b
