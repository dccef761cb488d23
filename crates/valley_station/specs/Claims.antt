-- What is claimed of every run, in the words of document 02, L11. Definitions only.
use Rattle.std.specs.Prelude.{◌≡◌, ◌⊎◌, ◌↔◌, ◌≢◌, List, [], ◌∷◌, ◌++◌, ℕ, ◌+◌, ◌≤◌, ◌<◌, leb, eqb, length, set}
use Rattle.gate.specs.Outcome.{granted, question, written}
use Rattle.summary.specs.Judge.{kind_at, mode_at, fault_at, IsSummary}
use Rattle.summary.specs.Decide.{is_summary}
use Rattle.summary.specs.Outcomes.{blank_bytes, merge_bytes}
use Rattle.valley_station.specs.Station.{held, opened_in, drawn, excess_of, send_outcome, end_outcome}
use Rattle.valley_station.specs.State.{station_of, state_of, put_slot}
use Rattle.valley_station.specs.Runs.{FarmCall, send, end_of_day, Told, taken, handed, turned_away, tell_handed, told, after, run_state, run_history, calls_of, told_to, own_since, merged_in_order}

-- What every run keeps: its state is 14,304 bytes, the slots of eight summaries in its mode, and "the farms' excess" is within the 20,000. So no farm has more than
-- 30,000 opened records, and no running summary that is spoilt (kind 17) has fault 9.
pub record Keeps (mode : ℕ) (s : List ℕ) : Type 0 where
  pub size : length s ≡ 14_304
  pub slots : s ≡ state_of (station_of s)
  pub summaries : (farm : ℕ) → farm ≤ 7 → IsSummary (held (station_of s) farm) × (mode_at (held (station_of s) farm) ≡ mode)
  pub excess : excess_of (station_of s) ≤ 20_000
  pub opened : (farm : ℕ) → farm ≤ 7 → opened_in (held (station_of s) farm) ≤ 30_000
  pub no-fault-9 : (farm : ℕ) → farm ≤ 7 → kind_at (held (station_of s) farm) ≡ 17 → fault_at (held (station_of s) farm) ≢ 9

-- What a call is asked in a run: 20; 5 and 6 of what is sent alone, since what the state holds always passes; 21, 12. A buffer of 1,788 bytes is never too short.
pub record Asks (mode : ℕ) (s : List ℕ) : Type 0 where
  pub at-send : (farm : ℕ) (b : List ℕ) → send_outcome (station_of s) farm b ≡
      question 20 (leb farm 7) (question 5 (is_summary b) (question 6 (eqb mode (mode_at b))
      (question 21 (leb (excess_of (set (station_of s) farm (merge_bytes mode (held (station_of s) farm) b))) 20_000) (granted (merge_bytes mode (held (station_of s) farm) b)))))
  pub at-end : (farm cap : ℕ) → end_outcome (station_of s) farm cap ≡ question 20 (leb farm 7) (written cap (held (station_of s) farm))
  pub never-12 : (farm cap : ℕ) → farm ≤ 7 → 1788 ≤ cap → told s (end_of_day farm cap) ≡ handed (held (station_of s) farm)
  -- a send that passes 20, 5 and 6 gets 21 "exactly when the farms' excess over 10,000 would then add to more than 20,000", and is taken otherwise
  pub exactly-21 : (farm : ℕ) (b : List ℕ) → farm ≤ 7 → IsSummary b → mode_at b ≡ mode →
      (told s (send farm b) ≡ turned_away 21) ↔ (20_000 < excess_of (set (station_of s) farm (merge_bytes mode (held (station_of s) farm) b)))
  pub else-taken : (farm : ℕ) (b : List ℕ) → farm ≤ 7 → IsSummary b → mode_at b ≡ mode →
      (told s (send farm b) ≡ taken) ↔ (excess_of (set (station_of s) farm (merge_bytes mode (held (station_of s) farm) b)) ≤ 20_000)
  -- "no send that would leave it within 10,000 gets 21"
  pub within-own : (farm : ℕ) (b : List ℕ) → opened_in (merge_bytes mode (held (station_of s) farm) b) ≤ 10_000 → told s (send farm b) ≢ turned_away 21

-- After "a farm's end of day" that is taken the state is the one before with that farm blank, of bytes and as a station: it draws nothing, "what it drew is free again",
-- and the others stand as they were.
pub record MadeBlank (mode : ℕ) (s : List ℕ) (farm : ℕ) (t : List ℕ) : Type 0 where
  pub bytes : t ≡ put_slot s farm (blank_bytes mode)
  pub station : station_of t ≡ set (station_of s) farm (blank_bytes mode)
  pub draws-nothing : drawn (held (station_of t) farm) ≡ 0
  pub free-again : excess_of (station_of t) + drawn (held (station_of s) farm) ≡ excess_of (station_of s)
  pub others : (other : ℕ) → other ≢ farm → held (station_of t) other ≡ held (station_of s) other

-- A refusal leaves every byte of the state, whatever they are; "a 12 there leaves the farm as it is".
abbrev pub RefusalStays : Type 0
RefusalStays = (s : List ℕ) (c : FarmCall) (n : ℕ) → told s c ≡ turned_away n → after s c ≡ s

-- EVERY RUN, in a mode in use.
pub record Serves (mode : ℕ) (calls : List FarmCall) : Type 0 where
  pub keeps : Keeps mode (run_state mode calls)
  pub asks : Asks mode (run_state mode calls)
  -- "Its summary is always its own accepted summaries since its last end of day that was taken, merged in the order they came": what an end of day hands out, byte
  -- for byte, where the buffer has room for it
  pub hands_out : (farm cap : ℕ) → farm ≤ 7 → told (run_state mode calls) (end_of_day farm cap) ≡ tell_handed (written cap (merged_in_order mode (own_since farm [] (run_history mode calls))))
  pub made-blank : (farm cap : ℕ) (w : List ℕ) → told (run_state mode calls) (end_of_day farm cap) ≡ handed w → MadeBlank mode (run_state mode calls) farm (after (run_state mode calls) (end_of_day farm cap))

-- Two lists of what a farm is told that agree up to a place, where the one has 21 and the other that the send was taken.
pub record PartAt21 (xs ys : List Told) : Type 0 where
  pub agreed : List Told
  pub later-x : List Told
  pub later-y : List Told
  pub gets-21 : xs ≡ agreed ++ (turned_away 21 ∷ later-x)
  pub is-taken : ys ≡ agreed ++ (taken ∷ later-y)

-- TWO RUNS "in which the mode and one farm's calls are the same, in the same order, whatever the others do between: that farm is told the same in both until a send
-- of its own gets 21 in just one of them".
abbrev pub SameUntil21 : (mode farm : ℕ) → Type 0
SameUntil21 mode farm = (xs ys : List FarmCall) → calls_of farm xs ≡ calls_of farm ys →
    let told-x = told_to farm (run_history mode xs) in
    let told-y = told_to farm (run_history mode ys) in
    (told-x ≡ told-y) ⊎ (PartAt21 told-x told-y ⊎ PartAt21 told-y told-x)
