-- A log with no fault, by the places of its records. Assumes nothing.
use Rattle.std.specs.Prelude.{◌≡◌, refl, List, [], ◌∷◌, ℕ, zero, suc, ◌<◌, length}
use Rattle.std.proofs.Common.{sym, ◌∙◌, arith}
use Rattle.hill.specs.Verdict.{pass, joint, count, ends}
use Rattle.hill.proofs.VerdictLaws.{refuse-pass, low-fst, low-snd, joint-pass, joint-high, ends-pass}
use Rattle.hill.specs.Log.{Record, start_level, end_level, end_of, opened_of, joints, fault_of, log_fault}
use Rattle.hill.specs.Closing.{at}

module _ {R : Type 0} where
  -- the level before record k
  abbrev pub level_before : (ℕ → Record R) → ℕ → ℕ
  level_before r zero = 0
  level_before r (suc k) = end_level (r k)

  -- a log with no fault, by the places of its records
  pub record WellFormedLog (log : List (Record R)) : Type 0 where
    pub some : 0 < length log
    pub meets : (k : ℕ) → k < length log → start_level (at log k) ≡ level_before (at log) k
    pub ends : level_before (at log) (length log) ≡ 0
    pub above : (k : ℕ) → 0 < k → k < length log → 0 < level_before (at log) k

  joints-at : (x : Record R) (xs : List (Record R)) → joints x xs ≡ pass → (k : ℕ) → k < length xs → (end_level (at (x ∷ xs) k) ≡ start_level (at xs k)) × (0 < end_level (at (x ∷ xs) k))
  joints-at x [] v k b = absurd (omega arith)
  joints-at x (y ∷ ys) v zero b =
      let e = low-fst (joint (end_level x) (start_level y)) (joints y ys) v in (joint-pass (end_level x) (start_level y) e, joint-high (end_level x) (start_level y) e)
  joints-at x (y ∷ ys) v (suc k) b = joints-at y ys (low-snd (joint (end_level x) (start_level y)) (joints y ys) v) k (omega arith)

  last-at : (x : Record R) (xs : List (Record R)) → end_level (at (x ∷ xs) (length xs)) ≡ end_of x xs
  last-at x [] = refl
  last-at x (y ∷ ys) = last-at y ys

  pub log-well-formed : (log : List (Record R)) → log_fault log ≡ pass → WellFormedLog log
  log-well-formed [] v = absurd (refuse-pass v)
  log-well-formed (x ∷ xs) v = record { some = omega arith; meets = met; ends = last-at x xs ∙ zeros.1; above = high }
    where
      zeros : (start_level x ≡ 0) × (end_of x xs ≡ 0)
      zeros = ends-pass (start_level x) (end_of x xs) (low-snd (fault_of x xs) (ends (start_level x) (end_of x xs)) v)

      quiet : joints x xs ≡ pass
      quiet = low-fst (joints x xs) (count (opened_of (x ∷ xs))) (low-fst (fault_of x xs) (ends (start_level x) (end_of x xs)) v)

      met : (k : ℕ) → k < length (x ∷ xs) → start_level (at (x ∷ xs) k) ≡ level_before (at (x ∷ xs)) k
      met zero b = zeros.0
      met (suc k) b = sym (joints-at x xs quiet k (omega arith)).0

      high : (k : ℕ) → 0 < k → k < length (x ∷ xs) → 0 < level_before (at (x ∷ xs)) k
      high zero a b = absurd (omega arith)
      high (suc k) a b = (joints-at x xs quiet k (omega arith)).1
