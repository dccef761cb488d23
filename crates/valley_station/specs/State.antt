-- A station's state as bytes that the caller keeps: eight slots of 1,788, the length of the longest summary, one for each farm. Every state stands for a station.
-- Definitions only.
use Rattle.std.specs.Prelude.{List, [], ◌∷◌, ◌++◌, map, ℕ, suc, ◌-◌, ◌*◌, min, length, take, drop, replicate}
use Rattle.gate.specs.Outcome.{Outcome, refused, granted}
use Rattle.hill.specs.Row.{joined}
use Rattle.summary.specs.Judge.{length_at, mode_at}
use Rattle.summary.specs.Outcomes.{blank_bytes}
use Rattle.valley_station.specs.Station.{Station, fresh_outcome, send_outcome, end_outcome}

-- What a slot holds, given it and the bytes after it: as many bytes as the 16-bit length at its start says, 1,788 at most. Where no call wrote them they may be no
-- summary; then the farm's calls get 5, and the farm counts what stands where a summary has its opened records.
unfoldable pub slot_holds : List ℕ → List ℕ
slot_holds slot = take (min (length_at slot) 1788) slot

abbrev pub held_in : (state : List ℕ) (farm : ℕ) → List ℕ
held_in state farm = slot_holds (drop (1788 * farm) state)

-- THE STATION that a state stands for, whatever its bytes are.
unfoldable pub station_of : (state : List ℕ) → Station
station_of s = held_in s 0 ∷ (held_in s 1 ∷ (held_in s 2 ∷ (held_in s 3 ∷ (held_in s 4 ∷ (held_in s 5 ∷ (held_in s 6 ∷ (held_in s 7 ∷ [])))))))

-- The slot of a summary: its bytes, and zeros.
unfoldable pub slot_of : List ℕ → List ℕ
slot_of w = w ++ replicate (1788 - length w) 0

-- The state of a station: the slots of what it holds.
unfoldable pub state_of : Station → List ℕ
state_of st = joined (map slot_of st)

-- The state with one farm's slot written anew; all other bytes stay.
unfoldable pub put_slot : (state : List ℕ) (farm : ℕ) → List ℕ → List ℕ
put_slot s farm w = take (1788 * farm) s ++ (slot_of w ++ drop (1788 * suc farm) s)

-- THE STATE AFTER A CALL: after a refusal it is as it was.
abbrev pub state_after : {A : Type 0} → Outcome A → (A → List ℕ) → List ℕ → List ℕ
state_after (refused n) new s = s
state_after (granted a) new s = new a

abbrev pub fresh_after : (state : List ℕ) (mode : ℕ) → List ℕ
fresh_after s mode = state_after (fresh_outcome mode) state_of s

abbrev pub send_after : (state : List ℕ) (farm : ℕ) (summary : List ℕ) → List ℕ
send_after s farm b = state_after (send_outcome (station_of s) farm b) (put_slot s farm) s

-- "A farm's end of day hands out its summary and makes it blank".
abbrev pub end_after : (state : List ℕ) (farm cap : ℕ) → List ℕ
end_after s farm cap = state_after (end_outcome (station_of s) farm cap) (λ w. put_slot s farm (blank_bytes (mode_at w))) s
