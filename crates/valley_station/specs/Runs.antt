-- Runs: "a state is fresh at the start and only these calls change it". Definitions only.
use Rattle.std.specs.Prelude.{cond, ℕ, eqb}
use mathlib.Core.List.{List, [], ◌∷◌, ◌++◌, foldl}
use Rattle.gate.specs.Outcome.{Outcome, refused, granted}
use Rattle.summary.specs.Outcomes.{blank_bytes, merge_bytes}
use Rattle.valley_station.specs.Station.{fresh_station, send_outcome, end_outcome}
use Rattle.valley_station.specs.State.{station_of, state_of, send_after, end_after}

-- A farm's call: a summary sent for it, or its end of day with a buffer of cap bytes.
pub data FarmCall : Type 0 where
  send : (farm : ℕ) (summary : List ℕ) → FarmCall
  end_of_day : (farm cap : ℕ) → FarmCall

abbrev pub farm_of : FarmCall → ℕ
farm_of (send farm b) = farm
farm_of (end_of_day farm cap) = farm

-- What the farm is told: "only that it was taken"; the summary handed out, byte for byte; or the number of the refusal.
pub data Told : Type 0 where
  taken : Told
  handed : List ℕ → Told
  turned_away : ℕ → Told

abbrev pub tell : {A : Type 0} → Outcome A → Told
tell (refused n) = turned_away n
tell (granted a) = taken

abbrev pub tell_handed : Outcome (List ℕ) → Told
tell_handed (refused n) = turned_away n
tell_handed (granted w) = handed w

-- One call on a state: what it is told, and the state after it.
abbrev pub told : (state : List ℕ) → FarmCall → Told
told s (send farm b) = tell (send_outcome (station_of s) farm b)
told s (end_of_day farm cap) = tell_handed (end_outcome (station_of s) farm cap)

abbrev pub after : (state : List ℕ) → FarmCall → List ℕ
after s (send farm b) = send_after s farm b
after s (end_of_day farm cap) = end_after s farm cap

-- A list of calls: the state after it, and each call with what it was told.
abbrev pub after_all : (state : List ℕ) → List FarmCall → List ℕ
after_all s [] = s
after_all s (c ∷ cs) = after_all (after s c) cs

abbrev pub history : (state : List ℕ) → List FarmCall → List (FarmCall × Told)
history s [] = []
history s (c ∷ cs) = (c, told s c) ∷ history (after s c) cs

-- A RUN: the calls on a state that was made fresh in a mode.
abbrev pub run_state : (mode : ℕ) → List FarmCall → List ℕ
run_state mode calls = after_all (state_of (fresh_station mode)) calls

abbrev pub run_history : (mode : ℕ) → List FarmCall → List (FarmCall × Told)
run_history mode calls = history (state_of (fresh_station mode)) calls

-- One farm's calls, in their order, and what it is told.
abbrev pub calls_of : (farm : ℕ) → List FarmCall → List FarmCall
calls_of farm [] = []
calls_of farm (c ∷ cs) = cond (eqb (farm_of c) farm) (c ∷ calls_of farm cs) (calls_of farm cs)

abbrev pub told_to : (farm : ℕ) → List (FarmCall × Told) → List Told
told_to farm [] = []
told_to farm (e ∷ es) = cond (eqb (farm_of e.0) farm) (e.1 ∷ told_to farm es) (told_to farm es)

-- A farm's "own accepted summaries since its last end of day that was taken", in the order they came, after one call more, ..
abbrev pub own_after : (farm : ℕ) → List (List ℕ) → FarmCall → Told → List (List ℕ)
own_after farm own (send f b) taken = cond (eqb f farm) (own ++ (b ∷ [])) own
own_after farm own (send f b) (handed w) = own
own_after farm own (send f b) (turned_away n) = own
own_after farm own (end_of_day f cap) taken = own
own_after farm own (end_of_day f cap) (handed w) = cond (eqb f farm) [] own
own_after farm own (end_of_day f cap) (turned_away n) = own

-- .. and after all calls.
abbrev pub own_since : (farm : ℕ) → List (List ℕ) → List (FarmCall × Told) → List (List ℕ)
own_since farm own [] = own
own_since farm own (e ∷ es) = own_since farm (own_after farm own e.0 e.1) es

-- Summaries "merged in the order they came". None: the blank. It adds nothing to the first (`RunLaws.one-sent`).
unfoldable pub merged_in_order : (mode : ℕ) → List (List ℕ) → List ℕ
merged_in_order mode own = foldl (merge_bytes mode) (blank_bytes mode) own
