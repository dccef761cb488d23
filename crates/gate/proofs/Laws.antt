-- What document 01 says of a lent buffer and of question 12, as laws of the definitions; and that a result means a "yes" to each question. Assumes nothing.
use Rattle.std.specs.Prelude.{◌≡◌, refl, Bool, true, false, List, ℕ, ◌≤◌, ◌<◌, length, take, drop}
use Rattle.std.proofs.Common.{ap, arith, le-leb}
use Rattle.std.proofs.Math.Seq.{take-append_seam, drop-append_seam}
use Rattle.std.proofs.lemmas.Bool.{lt-leb}
use Rattle.gate.specs.Outcome.{Outcome, refused, granted, question, written, buffer_after}

-- "A 'no' .. leaves every buffer untouched."
pub untouched : (n : ℕ) (b : List ℕ) → buffer_after (refused n) b ≡ b
untouched n b = refl

-- "A 'yes' to all writes exactly the result": it stands at the buffer's start, and ..
pub result-first : (w b : List ℕ) → take (length w) (buffer_after (granted w) b) ≡ w
result-first w b = take-append_seam w (drop (length w) b)

-- .. "bytes after it stay".
pub rest-stays : (w b : List ℕ) → drop (length w) (buffer_after (granted w) b) ≡ drop (length w) b
rest-stays w b = drop-append_seam w (drop (length w) b)

-- "Does the result fit the lent buffer?" A buffer of just its length is long enough, ..
pub fits : (cap : ℕ) (w : List ℕ) → length w ≤ cap → written cap w ≡ granted w
fits cap w h = ap (λ test. question 12 test (granted w)) (le-leb (length w) cap h)

-- .. and one byte less is not.
pub too_short : (cap : ℕ) (w : List ℕ) → cap < length w → written cap w ≡ refused 12
too_short cap w h = ap (λ test. question 12 test (granted w)) (lt-leb (length w) cap h)

-- A refusal is no result, and where a call comes to a result each question got a "yes".
pub not-result : {A : Type 0} (n : ℕ) (a : A) → refused n ≡ granted a → ⊥
not-result n a e = let z : ◌≡◌ {A = ℕ} 0 1 = cc in omega arith

-- A call comes to one refusal, and to one result.
pub one_number : {A : Type 0} {j k : ℕ} → ◌≡◌ {A = Outcome A} (refused j) (refused k) → j ≡ k
one_number e = cc

pub result-same : {A : Type 0} {a b : A} → granted a ≡ granted b → a ≡ b
result-same e = cc

pub yes : {A : Type 0} (n : ℕ) (test : Bool) (rest : Outcome A) {a : A} → question n test rest ≡ granted a → (test ≡ true) × (rest ≡ granted a)
yes n true rest e = (refl, e)
yes n false rest {a} e = absurd (not-result n a e)
