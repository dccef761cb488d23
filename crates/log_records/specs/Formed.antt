-- What a log without fault is, by places: for the laws of records that hold others. Assumes nothing.
use Rattle.std.specs.Prelude.{◌≡◌, List, ℕ, suc, ◌≤◌, ◌<◌, length}
use Rattle.hill.specs.Log.{Record, start_level, end_level, opened_of}
use Rattle.hill.specs.Closing.{at, OpensAt}
use Rattle.hill.specs.Crossings.{Meeting}

pub record Formed {R : Type 0} (log : List (Record R)) : Type 0 where
  pub meets : Meeting log
  pub root : OpensAt log 0 0
  pub raised : (k : ℕ) → 0 < k → k < length log → 0 < start_level (at log k)
  pub closed : (k : ℕ) → suc k ≡ length log → end_level (at log k) ≡ 0
  pub few : opened_of log ≤ 100_000
