-- A mode with all that belongs to it, and the modes by their numbers. Each later theorem takes a `Mode`.
use Rattle.std.specs.Prelude.{◌≡◌, ℕ, zero, suc, ◌^◌, ◌<◌, ◌≤◌, Bool, true, ◌||◌, List, ℤ, FitsSigned, ◌==◌, refl}
use Rattle.std.proofs.Common.{lit≤}
use Rattle.std.proofs.Math.IntN.{+ℤ_comm}
use Rattle.std.specs.Int.{w64}
use Rattle.algebra.specs.Algebra.{Algebra, Laws, Commutative}
use Rattle.algebra.specs.Run.{Level, Context}
use Rattle.algebra.specs.Sizes.{Sizes, RunSizes}
use Rattle.number.specs.IntegerLaws.{sfits-abs}
use Rattle.modes.specs.FourModes.{Amounts, limit, InRange, net, heaviest, eaten, stamp, store_held, read_held, store_stamp, read_stamp, is_stamp}
use Rattle.modes.specs.ModeLaws.{net_laws}
use Rattle.modes.proofs.ModeLaws.{eaten_laws, eaten-comm, heaviest_laws, heaviest-comm, stamp_laws, stamp-comm}
use Rattle.modes.specs.Run.{net_run, read_net_run, IsNetRun, heaviest_run, read_heaviest_run, IsHeaviestRun, eaten_run, read_eaten_run, IsEatenRun, stamp_run, read_stamp_run, IsStampRun}
use Rattle.modes.proofs.Runs.{net_context, heaviest_context, eaten_context, stamp_context}
use Rattle.modes.specs.RunUnique.{Pinned}
use Rattle.modes.proofs.RunUnique.{net_pinned, heaviest_pinned, eaten_pinned, stamp_pinned}
use Rattle.modes.proofs.Bound.{net_sizes, net_run_sizes, heaviest_sizes, heaviest_run_sizes, eaten_sizes, eaten_run_sizes, stamp_sizes, stamp_run_sizes}
use Rattle.modes.specs.StoreLaws.{RunFits}
use Rattle.modes.proofs.StoreLaws.{held-stored, is-stamp, stamp-is, held_back, held_fits, stamp-back, stamp-fits, net-run-fits, line-back, line-run-fits, eaten-run-fits, affine-back, affine-run-fits}
use Rattle.modes.specs.declared.Run.{Run}

pub record Mode : Type 1 where
  pub algebra : Algebra Amounts
  pub laws : Laws algebra
  pub commutative : Commutative algebra
  -- sizes for document 01's bound
  pub sizes : Sizes algebra InRange
  pub unit-small : sizes.unit ≤ limit
  -- a figure as a signed 64-bit number, and back
  pub store : algebra.Fig → ℤ
  pub read : ℤ → algebra.Fig
  pub read_back : (v : algebra.Fig) → sizes.size v < 2 ^ 63 → read (store v) ≡ v
  -- whether a number stands for a figure, decided
  pub is_figure : ℤ → Bool
  pub is-figure : (z : ℤ) → is_figure z ≡ true → store (read z) ≡ z
  pub figure-is : (z : ℤ) → store (read z) ≡ z → is_figure z ≡ true
  pub store-fits : (v : algebra.Fig) → sizes.size v < 2 ^ 63 → FitsSigned w64 (store v)
  -- runs: how their numbers are computed, which numbers are the run of given levels, that those computed are and no others, and as they are stored
  pub context : Context algebra InRange
  pub IsRun : List (Level algebra) → context.K → Type 0
  pub pinned : Pinned context IsRun
  pub run_sizes : RunSizes context sizes
  pub store_run : context.K → Run
  pub read_run : Run → context.K
  pub run-back : (k : context.K) (n : ℕ) → run_sizes.Within k n → n < 2 ^ 63 → read_run (store_run k) ≡ k
  pub run_fits : (k : context.K) (n : ℕ) → run_sizes.Within k n → n < 2 ^ 63 → RunFits (store_run k)

abbrev pub mode1 : Mode
mode1 = record {
  algebra = net;
  laws = net_laws;
  commutative = +ℤ_comm;
  sizes = net_sizes;
  unit-small = lit≤ tt;
  store = λ z. z;
  read = λ z. z;
  read_back = λ _ _. refl;
  is_figure = λ _. true;
  is-figure = λ _ _. refl;
  figure-is = λ _ _. refl;
  store-fits = sfits-abs w64;
  context = net_context;
  IsRun = IsNetRun;
  pinned = net_pinned;
  run_sizes = net_run_sizes;
  store_run = net_run;
  read_run = read_net_run;
  run-back = λ _ _ _ _. refl;
  run_fits = net-run-fits;
}

abbrev pub mode2 : Mode
mode2 = record {
  algebra = heaviest;
  laws = heaviest_laws;
  commutative = heaviest-comm;
  sizes = heaviest_sizes;
  unit-small = lit≤ tt;
  store = store_held;
  read = read_held;
  read_back = held_back;
  is_figure = λ _. true;
  is-figure = λ z _. held-stored z;
  figure-is = λ _ _. refl;
  store-fits = held_fits;
  context = heaviest_context;
  IsRun = IsHeaviestRun;
  pinned = heaviest_pinned;
  run_sizes = heaviest_run_sizes;
  store_run = heaviest_run;
  read_run = read_heaviest_run;
  run-back = line-back;
  run_fits = line-run-fits;
}

abbrev pub mode4 : Mode
mode4 = record {
  algebra = stamp;
  laws = stamp_laws;
  commutative = stamp-comm;
  sizes = stamp_sizes;
  unit-small = lit≤ tt;
  store = store_stamp;
  read = read_stamp;
  read_back = λ s _. stamp-back s;
  is_figure = is_stamp;
  is-figure = is-stamp;
  figure-is = stamp-is;
  store-fits = λ s _. stamp-fits s;
  context = stamp_context;
  IsRun = IsStampRun;
  pinned = stamp_pinned;
  run_sizes = stamp_run_sizes;
  store_run = stamp_run;
  read_run = read_stamp_run;
  run-back = λ k _ _ _. affine-back k;
  run_fits = λ k _ _ _. affine-run-fits k;
}

abbrev pub mode5 : Mode
mode5 = record {
  algebra = eaten;
  laws = eaten_laws;
  commutative = eaten-comm;
  sizes = eaten_sizes;
  unit-small = lit≤ tt;
  store = store_held;
  read = read_held;
  read_back = held_back;
  is_figure = λ _. true;
  is-figure = λ z _. held-stored z;
  figure-is = λ _ _. refl;
  store-fits = held_fits;
  context = eaten_context;
  IsRun = IsEatenRun;
  pinned = eaten_pinned;
  run_sizes = eaten_run_sizes;
  store_run = eaten_run;
  read_run = read_eaten_run;
  run-back = λ _ _ _ _. refl;
  run_fits = eaten-run-fits;
}

-- "Is the mode 1 to 4?", of which request L3 takes 3 out of use and adds 5.
unfoldable pub mode_in_use : ℕ → Bool
mode_in_use m = m == 1 || m == 2 || m == 4 || m == 5

-- "'Nothing held' counts as 0 in modes 1 .. and 4. In mode 2 it is no number, and is stored as -2^63"; in mode 5 it "is -2^63, as in mode 2".
abbrev pub stores_nothing : ℕ → Bool
stores_nothing m = m == 2 || m == 5

-- by its number; a number that is no mode stands for mode 1, and no call gets so far with it
unfoldable pub mode_of : ℕ → Mode
mode_of zero = mode1
mode_of (suc zero) = mode1
mode_of (suc (suc zero)) = mode2
mode_of (suc (suc (suc zero))) = mode1
mode_of (suc (suc (suc (suc zero)))) = mode4
mode_of (suc (suc (suc (suc (suc zero))))) = mode5
mode_of (suc (suc (suc (suc (suc (suc n)))))) = mode1
