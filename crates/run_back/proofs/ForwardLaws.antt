-- What a run does to an inner figure is what figure/Run says of its numbers, in each mode. Assumes nothing.
use Rattle.std.specs.Prelude.{◌≡◌, refl, true, ℕ, ◌+◌, ◌*◌, ◌%◌, ◌^◌, ◌<◌, ℤ, pos, nat_abs, ◌+ℤ◌}
use Rattle.std.proofs.Common.{ap, mod-eq_of_lt}
use Rattle.modes.specs.FourModes.{store_held, read_held, read_stamp, is_stamp}
use Rattle.modes.specs.Run.{along, read_heaviest_run, eaten_along, read_eaten_run}
use Rattle.modes.proofs.StoreLaws.{is-stamp}
use Rattle.figure.specs.Mode.{mode_of}
use Rattle.modes.specs.declared.Run.{Run}
use Rattle.run_back.specs.Backwards.{forwards}

-- "Mode 1: (a,0,0), x + a."
pub net-forwards : (k : Run) (x : ℤ) → forwards 1 k x ≡ x +ℤ k.first
unfolding forwards mode_of
net-forwards k x = refl

-- "Mode 2: (z,A,B), z for nothing, else the greater of A and x + B."
pub heaviest-forwards : (k : Run) (x : ℤ) → forwards 2 k x ≡ along (read_heaviest_run k) (read_held x)
unfolding forwards mode_of store_held
heaviest-forwards k x = refl

-- a number that stands for a stamp is that stamp's
pub stamp-num : (z : ℤ) → is_stamp z ≡ true → (read_stamp z).num ≡ nat_abs z
stamp-num z s = ap nat_abs (is-stamp z s)

-- "Mode 4: (m,q,0), m·x + q modulo 2^32."
pub stamp-forwards : (k : Run) (x : ℕ) → is_stamp k.first ≡ true → is_stamp k.second ≡ true → x < 2 ^ 32 →
    forwards 4 k (pos x) ≡ pos ((nat_abs k.first * x + nat_abs k.second) % 2 ^ 32)
unfolding forwards mode_of
stamp-forwards k x m q h = rw (stamp-num k.first m, stamp-num k.second q, mod-eq_of_lt h) refl

-- Mode 5: "z for nothing inside, then a, l, h".
pub eaten-forwards : (k : Run) (x : ℤ) → forwards 5 k x ≡ eaten_along (read_eaten_run k) (read_held x)
unfolding forwards mode_of store_held
eaten-forwards k x = refl
