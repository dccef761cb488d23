-- What a call that tells only that it was taken answers, as one number. Assumes nothing.
use Rattle.std.specs.Prelude.{◌≡◌, refl, ℕ, ℤ, pos, neg_ℤ, Result, Ok, Err}
use Rattle.std.proofs.Common.{ap, arith}
use Rattle.gate.specs.Outcome.{Outcome, refused, granted}
use Rattle.gate.specs.Answers.{number_of}
use Rattle.gate.specs.declared.Refusal.{Refusal}
use Rattle.valley_station.specs.Runs.{tell}
use Rattle.farms.specs.Answers.{taken_answer}
use Rattle.tulghimo.specs.Interface.{status_of}

abbrev pub taken_status : Result (Unit {0}) Refusal → ℤ
taken_status (Ok u) = pos 0
taken_status (Err r) = neg_ℤ (pos (number_of r))

-- It is that of what the call came to.
pub taken-status : {A : Type 0} (d : Result (Unit {0}) Refusal) (o : Outcome A) → taken_answer d ≡ tell o → taken_status d ≡ status_of o
taken-status (Ok u) (granted a) e = refl
taken-status (Ok u) (refused k) e = let z : ◌≡◌ {A = ℕ} 0 1 = cc in absurd (omega arith)
taken-status (Err r) (granted a) e = let z : ◌≡◌ {A = ℕ} 0 1 = cc in absurd (omega arith)
taken-status (Err r) (refused k) e = let q : number_of r ≡ k = cc in ap (λ (j : ℕ). neg_ℤ (pos j)) q
