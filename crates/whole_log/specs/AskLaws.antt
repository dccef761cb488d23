-- What the gate's answer says of a log: that it was let through, or by which number it was not. Assumes nothing.
use Rattle.std.specs.Prelude.{◌≡◌, List, ℕ}
use Rattle.std.proofs.Math.Path.{refl}
use Rattle.std.proofs.Common.{sym}
use Rattle.gate.specs.Outcome.{Outcome, refused, granted, onward}
use Rattle.gate.proofs.Laws.{not-result}
use Rattle.modes.specs.FourModes.{Amounts}
use Rattle.hill.specs.Log.{Record, opened_of}
use Rattle.chunk.specs.Chunk.{whole_log}
use Rattle.chunk.specs.Laws.{IsLog}
use Rattle.chunk.proofs.Laws.{is-log}
use Rattle.whole_log.specs.Gate.{ask_outcome}

-- A log that was let through, and how many records it opens.
pub record Opens (log : List ℕ) (opened : ℕ) : Type 0 where
  pub records : List (Record Amounts)
  pub is : IsLog log records
  pub count : opened ≡ opened_of records

module _ (log : List ℕ) where
  pub log-opens : {n : ℕ} → granted n ≡ ask_outcome log → Opens log n
  unfolding ask_outcome
  log-opens {n} e = go (whole_log log) refl e
    where
      go : (o : Outcome (List (Record Amounts))) → whole_log log ≡ o → granted n ≡ onward o (λ xs. granted (opened_of xs)) → Opens log n
      go (refused k) w e = absurd (not-result k n (sym e))
      go (granted xs) w e = record { records = xs; is = is-log log xs w; count = cc }

  pub log-refused : {n : ℕ} → refused n ≡ ask_outcome log → whole_log log ≡ refused n
  unfolding ask_outcome
  log-refused {n} e = go (whole_log log) e
    where
      go : (o : Outcome (List (Record Amounts))) → refused n ≡ onward o (λ xs. granted (opened_of xs)) → o ≡ refused n
      go (refused k) e = cc
      go (granted xs) e = absurd (not-result n (opened_of xs) e)
