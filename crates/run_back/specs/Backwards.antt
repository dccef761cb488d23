-- Backwards through a run: document 02, L6. What a run's numbers make of an inner figure, the way back, and what the call comes to. Definitions only.
use Rattle.std.specs.Prelude.{Bool, cond, ◌||◌, List, ℕ, ◌+◌, ◌-◌, ◌*◌, ◌^◌, eqb, ℤ, ◌-ℤ◌}
use Rattle.gate.specs.Outcome.{Outcome, question, granted}
use Rattle.modes.specs.FourModes.{Stamp, stamp_of, store_stamp, read_stamp, is_stamp}
use Rattle.modes.specs.Run.{Affine, read_stamp_run}
use Rattle.figure.specs.Mode.{mode_of}
use Rattle.modes.specs.declared.Run.{Run}
use Rattle.summary.specs.Judge.{mode_at}
use Rattle.run_back.specs.Judge.{run_at}
use Rattle.run_back.specs.Decide.{near, is_run_bytes}
use Rattle.run_back.specs.Inverse.{inverse}

-- "Put an inner figure through a run": what the numbers k, in mode m, make of x, both as they are stored. What they do is the mode's own `apply`, by which
-- runs are composed; `ForwardLaws` says that it is what figure/Run has in the papers' words.
unfoldable pub forwards : (m : ℕ) → Run → ℤ → ℤ
forwards m k x = (mode_of m).store ((mode_of m).context.apply ((mode_of m).read_run k) ((mode_of m).read x))

-- The way back through x + a: y - a.
abbrev pub back_net : ℤ → ℤ → ℤ
back_net a y = y -ℤ a

-- Through m x + q modulo 2^32: the inverse of m, times y - q.
abbrev pub back_stamp : Affine → Stamp → Stamp
back_stamp k y = stamp_of (inverse k.times.num * (y.num + (2 ^ 32 - k.plus.num)))

unfoldable pub inner_of : (m : ℕ) → Run → ℤ → ℤ
inner_of m k y = cond (eqb m 4) (store_stamp (back_stamp (read_stamp_run k) (read_stamp y))) (back_net k.first y)

-- 16: "for modes 2 and 5" there is no way back, for 1 and 4 there is.
abbrev pub has_way_back : ℕ → Bool
has_way_back m = eqb m 1 || eqb m 4

-- 17: "y is beyond ±10^14 in mode 1 or outside 0 to 2^32 - 1 in mode 4".
unfoldable pub outer_fits : ℕ → ℤ → Bool
outer_fits m y = cond (eqb m 4) (is_stamp y) (near y)

-- BACKWARDS THROUGH A RUN: "15 first, .. 16 next, .. 17 last".
unfoldable pub backwards_outcome : (run : List ℕ) (y : ℤ) → Outcome ℤ
backwards_outcome b y =
    question 15 (is_run_bytes b) (question 16 (has_way_back (mode_at b)) (question 17 (outer_fits (mode_at b) y) (granted (inner_of (mode_at b) (run_at b) y))))
