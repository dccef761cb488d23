-- What a call comes to, in document 01's terms, which document 02 adds numbers to. Definitions only.
use Rattle.std.specs.Prelude.{Bool, cond, List, ◌++◌, ℕ, leb, length, drop}

-- `refused n`: question n of "The questions at the gate", or a later one of document 02, got a "no". `result a`: every question got a "yes", and the call answers a.
pub data Outcome (A : Type 0) : Type 0 where
  refused : ℕ → Outcome A
  granted : A → Outcome A

-- Question n, answered by a test, and what comes after a "yes".
abbrev pub question : {A : Type 0} → ℕ → Bool → Outcome A → Outcome A
question n test rest = cond test rest (refused n)

-- Questions that find something, and what comes after with it.
abbrev pub onward : {A B : Type 0} → Outcome A → (A → Outcome B) → Outcome B
onward (refused n) rest = refused n
onward (granted a) rest = rest a

-- 12: "Does the result fit the lent buffer?" Of cap bytes.
abbrev pub written : ℕ → List ℕ → Outcome (List ℕ)
written cap w = question 12 (leb (length w) cap) (granted w)

-- The buffer after the call: "a 'no' .. leaves every buffer untouched. A 'yes' to all writes exactly the result ..; bytes after it stay."
abbrev pub buffer_after : Outcome (List ℕ) → List ℕ → List ℕ
buffer_after (refused n) b = b
buffer_after (granted w) b = w ++ drop (length w) b
