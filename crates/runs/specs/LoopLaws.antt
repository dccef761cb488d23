-- The run of a line, one level more at each turn, as its numbers are stored. Assumes nothing.
use Rattle.std.specs.Prelude.{◌≡◌, List, [], ◌∷◌, ℕ, ◌+◌, ◌^◌, ◌≤◌, ◌<◌, ℤ}
use Rattle.std.proofs.Common.{sym, ◌∙◌, arith}
use Rattle.std.proofs.Math.Path.{ap}
use Rattle.algebra.specs.Run.{Level, run_on, run}
use Rattle.algebra.specs.Sizes.{cost, costs}
use Rattle.modes.specs.FourModes.{Amounts, InRange, limit}
use Rattle.figure.specs.Mode.{Mode}
use Rattle.figure.specs.Stored.{IsStored, size_of, level_of, level_run, run_after, IsRun, RunWithin, Levels, Composes, level_run-read, level_run-within, level_run-is, levels, run_after-read, run_after-within, run_after-is}
use Rattle.modes.specs.declared.Run.{Run}
use Rattle.runs.specs.Runs.{most}

module _ (M : Mode) where
  -- The run so far and the levels still to come around it give the whole run.
  pub record Running (whole : M.context.K) (r : Run) (ls : List (Level M.algebra)) : Type 0 where
    pub bound : ℕ
    pub is-run : IsRun M r
    pub within : RunWithin M r bound
    pub room : bound + costs M.sizes ls ≤ most
    pub goes : run_on M.context (M.read_run r) ls ≡ whole

  -- A level that costs no more than this fits.
  module _ (a : Amounts) (b c : ℤ) (in-range : InRange a) (n : ℕ) (room : cost M.sizes (level_of M a b c) + n ≤ most) where
    level-room : limit + (size_of M b + size_of M c) < 2 ^ 63
    unfolding size_of most
    level-room = omega (arith, room)

    level-bound : M.sizes.unit + (size_of M b + size_of M c) + n ≤ most
    unfolding size_of
    level-bound = room

    pub level-fits : IsStored M b → IsStored M c → Levels M a.value b c
    level-fits s t = levels M a b c in-range level-room s t

  module _ (a : Amounts) (b c : ℤ) (in-range : InRange a) (ls : List (Level M.algebra)) where
    pub run-start : (r : Run) → r ≡ level_run M a b c → costs M.sizes (level_of M a b c ∷ ls) ≤ most → Running (run M.context (level_of M a b c) ls) r ls
    run-start r e h =
        let q : limit + (size_of M b + size_of M c) < 2 ^ 63 = level-room a b c in-range (costs M.sizes ls) h in
        rw e record {
          bound = M.sizes.unit + (size_of M b + size_of M c);
          is-run = level_run-is M a b c in-range q;
          within = level_run-within M a b c in-range q;
          room = level-bound a b c in-range (costs M.sizes ls) h;
          goes = ap (λ k. run_on M.context k ls) (level_run-read M a b c in-range q);
        }

    module _ (whole : M.context.K) (r : Run) (v : Running whole r (level_of M a b c ∷ ls)) where
      room-left : cost M.sizes (level_of M a b c) + (costs M.sizes ls + v.bound) ≤ most
      room-left = omega (arith, v.room)

      small : limit + (size_of M b + size_of M c) < 2 ^ 63
      small = level-room a b c in-range (costs M.sizes ls + v.bound) room-left

      both : M.sizes.unit + (size_of M b + size_of M c) + (costs M.sizes ls + v.bound) ≤ most
      both = level-bound a b c in-range (costs M.sizes ls + v.bound) room-left

      both-room : M.sizes.unit + (size_of M b + size_of M c) + v.bound < 2 ^ 63
      unfolding most
      both-room = omega (arith, both)

      abbrev around : Composes M (level_run M a b c) r
      around = record {
        outer = M.sizes.unit + (size_of M b + size_of M c);
        inner = v.bound;
        outer-run = level_run-is M a b c in-range small;
        inner-run = v.is-run;
        outer-within = level_run-within M a b c in-range small;
        inner-within = v.within;
        room = both-room;
      }

      pub composes : (outer : Run) → outer ≡ level_run M a b c → Composes M outer r
      composes outer e = rw e around

      run-goes : run_on M.context (M.read_run (run_after M (level_run M a b c) r)) ls ≡ whole
      unfolding run_on
      run-goes = ap (λ k. run_on M.context k ls) (run_after-read M (level_run M a b c) r around ∙ ap (λ k. M.context.compose k (M.read_run r)) (level_run-read M a b c in-range small)) ∙ v.goes

      pub run-next : (outer r' : Run) → outer ≡ level_run M a b c → r' ≡ run_after M outer r → Running whole r' ls
      run-next outer r' e f =
          rw (f, e) record {
            bound = M.sizes.unit + (size_of M b + size_of M c) + v.bound;
            is-run = run_after-is M (level_run M a b c) r around;
            within = run_after-within M (level_run M a b c) r around;
            room = omega (arith, both);
            goes = run-goes;
          }

  pub run_end : (whole : M.context.K) (r : Run) → Running whole r [] → M.store_run whole ≡ r
  unfolding run_on IsRun
  run_end whole r v = ap M.store_run (sym v.goes) ∙ v.is-run
