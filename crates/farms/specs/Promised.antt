-- What the functions of a send ask and promise. Definitions only.
use Rattle.std.specs.Prelude.{◌≡◌, List, ℕ, ◌≤◌, leb, length, take, set}
use Rattle.gate.specs.Outcome.{Outcome, granted, question}
use Rattle.valley_station.specs.Station.{excess_of}
use Rattle.valley_station.specs.State.{station_of, slot_of}

-- 1,788 bytes that are the slot of their first n.
pub record IsSlot (slot : List ℕ) (n : ℕ) : Type 0 where
  pub size : length slot ≡ 1788
  pub inside : n ≤ 1788
  pub is : slot ≡ slot_of (take n slot)

-- Question 21 of a farm's merged summary w.
unfoldable pub asked21 : (state : List ℕ) (farm : ℕ) → List ℕ → Outcome (List ℕ)
asked21 s farm w = question 21 (leb (excess_of (set (station_of s) farm w)) 20_000) (granted w)
