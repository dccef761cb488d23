-- What a log without fault is, by places: for the laws of records that hold others. Assumes nothing.
use Rattle.std.specs.Prelude.{◌≡◌, ◌≢◌, List, ℕ, suc, ◌-◌, ◌<◌, length}
use Rattle.std.proofs.Common.{sym, ap, ◌∙◌, ⊎_elim, eq-or-lt_of_le, arith}
use Rattle.std.proofs.Math.Logic.{dite}
use Rattle.std.proofs.Math.Decide.{dec_lt}
use Rattle.hill.specs.Verdict.{pass}
use Rattle.hill.specs.Log.{Record, opening, closing, start_level, end_level, log_fault}
use Rattle.hill.specs.Closing.{at, OpensAt, Closed}
use Rattle.hill.proofs.HeldPlaces.{opens-inside, first-close}
use Rattle.hill.proofs.Crossings.{crosses-down, falls}
use Rattle.hill.proofs.WellFormed.{log-few}
use Rattle.hill.proofs.LogPlaces.{level_before, log-well-formed}
use Rattle.log_records.specs.Formed.{Formed}

module _ {R : Type 0} where
  pub depth-once : (log : List (Record R)) (p d e : ℕ) → OpensAt log p d → OpensAt log p e → d ≡ e
  depth-once log p d e a b = ap start_level (sym a.1 ∙ b.1)

  starts : (x : Record R) → start_level x ≡ 0 → (r : R) × (x ≡ opening 0 r)
  starts (opening d r) e = (r, ap (λ k. opening k r) e)
  starts (closing d) e = absurd (omega (arith, e))

  pub formed : (log : List (Record R)) → log_fault log ≡ pass → Formed log
  formed log v =
      let w = log-well-formed log v in
      record {
        meets = λ k l. sym (w.meets (suc k) l);
        root = starts (at log 0) (w.meets 0 w.some);
        raised = λ k a l. omega (arith, w.meets k l, w.above k a l);
        closed = λ k e. ap (level_before (at log)) e ∙ w.ends;
        few = log-few log v;
      }

  -- Each record is closed.
  pub closed_some : {log : List (Record R)} → Formed log → {p d : ℕ} → OpensAt log p d → Closed log p d
  closed_some {log} f {p} {d} o = ⊎_elim (λ none. absurd (open-still none)) (λ w. (w.0, w.2)) (first-close log p d o (length log) (omega arith))
    where
      open-still : ((k : ℕ) → p < k → k < length log → at log k ≢ closing d) → ⊥
      open-still none =
          let i : p < length log = opens-inside log p d o in
          let n : suc p < length log = ⊎_elim (λ (g : suc p ≡ length log). absurd (omega (arith, f.closed p g, ap end_level o.1))) (λ g. g) (eq-or-lt_of_le i) in
          let l : ℕ = length log - 1 in
          let e : end_level (at log l) ≡ 0 = f.closed l (omega arith) in
          let up : start_level (at log (suc p)) ≡ suc d = sym (f.meets p n) ∙ ap end_level o.1 in
          dite (dec_lt d (start_level (at log l))) (λ h. none l (omega arith) (omega arith) (crosses-down (at log l) d h (omega arith)))
          (λ h. let w = falls log f.meets d (suc p) l (omega arith) (omega arith) (omega arith) (omega arith) in none w.0 (omega (arith, w.1)) (omega (arith, w.2)) w.3)
