-- The questions that summarise asks before it writes. Assumes nothing.
use Rattle.std.specs.Prelude.{◌≡◌, true, false, List, ℕ, ◌≤◌, ◌<◌, length}
use borrow.Author.Tests.{le-leb, lt-leb}
use Rattle.gate.specs.Outcome.{refused}
use Rattle.record.specs.Record.{records_of}
use Rattle.figure.specs.Mode.{mode_in_use}
use Rattle.summary.specs.Outcomes.{summarise_outcome}

module _ (chunk : List ℕ) (m cap : ℕ) where
  pub no_mode : mode_in_use m ≡ false → summarise_outcome chunk m cap ≡ refused 1
  unfolding summarise_outcome
  no_mode e = rw e

  pub too_many : mode_in_use m ≡ true → 65536 < length chunk → summarise_outcome chunk m cap ≡ refused 2
  unfolding summarise_outcome
  too_many u h = rw (u, lt-leb (length chunk) 65536 h)

  pub not-readable : {n : ℕ} → mode_in_use m ≡ true → length chunk ≤ 65536 → records_of chunk ≡ refused n → summarise_outcome chunk m cap ≡ refused n
  unfolding summarise_outcome
  not-readable u h e = rw (u, le-leb (length chunk) 65536 h, e)
