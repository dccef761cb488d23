-- How many bytes a run has, and runs one after the other. Assumes nothing.
use Rattle.std.specs.Prelude.{◌≡◌, refl, Bool, List, [], ◌∷◌, ℕ, ◌+◌, ◌*◌, ◌≤◌, length}
use Rattle.std.proofs.Common.{sym, ap, ap₂, ◌∙◌, mul-zero, mul-suc, add_comm, length-append}
use Rattle.std.proofs.Math.Bool.{true, false, cond}
use native.Mathlib.Omega.{arith}
use Rattle.number.specs.Bytes.{bytes_of}
use Rattle.figure.specs.Mode.{mode_of}
use Rattle.modes.specs.declared.Run.{Run}
use Rattle.summary.specs.Layout.{i64_bytes}
use Rattle.outcome.specs.Outcomes.{has_fourth, run_length, run_front, run_bytes, each_run}

module _ (m : ℕ) where
  pub length-four : has_fourth m ≡ true → run_length m ≡ 38
  unfolding run_length
  length-four e = rw e

  pub length_three : has_fourth m ≡ false → run_length m ≡ 30
  unfolding run_length
  length_three e = rw e

  pub length-least : 30 ≤ run_length m
  unfolding run_length
  length-least = go (has_fourth m)
    where
      go : (t : Bool) → 30 ≤ cond t 38 30
      go true = omega arith
      go false = omega arith

  pub length_most : run_length m ≤ 38
  unfolding run_length
  length_most = go (has_fourth m)
    where
      go : (t : Bool) → cond t 38 30 ≤ 38
      go true = omega arith
      go false = omega arith

pub length_front : (m : ℕ) (k : Run) → length (run_front m k) ≡ 30
unfolding bytes_of
length_front m k = refl

pub length_run : (m : ℕ) (k : Run) → length (run_bytes m k) ≡ run_length m
unfolding run_bytes run_length bytes_of
length_run m k = length-append (run_front m k) (cond (has_fourth m) (i64_bytes k.fourth) []) ∙ ap (λ (n : ℕ). n + length (cond (has_fourth m) (i64_bytes k.fourth) [])) (length_front m k) ∙ go (has_fourth m)
  where
    go : (t : Bool) → 30 + length (cond t (i64_bytes k.fourth) []) ≡ cond t 38 30
    go true = refl
    go false = refl

-- as many bytes a run
pub length-each : (m : ℕ) (ks : List (mode_of m).context.K) → length (each_run m ks) ≡ run_length m * length ks
length-each m [] = sym (mul-zero (run_length m))
length-each m (k ∷ ks) =
    length-append (run_bytes m ((mode_of m).store_run k)) (each_run m ks) ∙ ap₂ ◌+◌ (length_run m ((mode_of m).store_run k)) (length-each m ks)
    ∙ add_comm (run_length m) (run_length m * length ks) ∙ sym (mul-suc (run_length m) (length ks))
