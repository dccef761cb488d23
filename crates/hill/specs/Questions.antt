-- Questions 7 to 11 asked of a log by places, and what "the lowest" means. Definitions only.
use Rattle.std.specs.Prelude.{◌≡◌, ◌≢◌, ◌⊎◌, List, ℕ, suc, ◌-◌, ◌≤◌, ◌<◌, length}
use Rattle.hill.specs.Verdict.{Verdict, pass, refuse}
use Rattle.hill.specs.Log.{Record, start_level, end_level, opened_of}
use Rattle.hill.specs.Closing.{at}

module _ {R : Type 0} (log : List (Record R)) where
  -- Question n of 7 to 9 gets a "no": two neighbours do not meet; the level after a record that is not the last is 0; too many opens.
  abbrev pub NoOfChunk : ℕ → Type 0
  NoOfChunk n =
      ((n ≡ 7) × ((k : ℕ) × (suc k < length log) × (end_level (at log k) ≢ start_level (at log (suc k))))) ⊎
      (((n ≡ 8) × ((k : ℕ) × (suc k < length log) × (end_level (at log k) ≡ 0))) ⊎
      ((n ≡ 9) × (100_000 < opened_of log)))

  -- Question n of 7 to 11 gets a "no": as above, or no record, or the log does not begin, or does not end, at level 0.
  abbrev pub NoOfLog : ℕ → Type 0
  NoOfLog n =
      NoOfChunk n ⊎
      (((n ≡ 10) × (length log ≡ 0)) ⊎
      ((n ≡ 11) × ((start_level (at log 0) ≢ 0) ⊎ (end_level (at log (length log - 1)) ≢ 0))))

-- The verdict is the lowest n with No n; it passes where there is none.
pub record Lowest (No : ℕ → Type 0) (v : Verdict) : Type 0 where
  pub none : v ≡ pass → (n : ℕ) → No n → ⊥
  pub least : (n : ℕ) → v ≡ refuse n → No n × ((m : ℕ) → No m → n ≤ m)
