-- The length of what is written: 16 bytes for each record that a log opens. Assumes nothing.
use Rattle.std.specs.Prelude.{◌≡◌, ℕ, ◌*◌, ◌≤◌, ◌<◌}
use Rattle.std.proofs.Math.Path.{ap, sym}
use Rattle.std.proofs.Common.{◌∙◌, mul-le-mul, arith, Fits}
use Rattle.std.proofs.Math.ListN.{length}
use Rattle.std.proofs.lemmas.List.{length-map}
use Rattle.std.specs.Int.{w64}
use Rattle.record.specs.Record.{chunk_bytes}
use Rattle.hill.specs.Row.{joined}
use Rattle.day_list.specs.Days.{days, small_days}
use Rattle.day_list.specs.WayLaws.{opening_ways}
use Rattle.day_list.proofs.WayLaws.{days-are}
use Rattle.day_list.proofs.Counts.{total}
use Rattle.small_days.specs.Promised.{Small}

module _ (n : ℕ) (some : 1 ≤ n) (few : n ≤ 8) {count : ℕ} (e : count ≡ length (opening_ways n 0)) where
  -- the first column of the table counts the logs
  pub small : Small n count
  unfolding small_days
  small = record { some = some; few = few; counted = e ∙ ap length (sym (days-are n)) ∙ sym (length-map (days n) chunk_bytes) }

  pub total-is : 16 * n * count ≡ length (joined (small_days n))
  total-is = ap (λ k. 16 * n * k) small.counted ∙ sym (total n (omega arith))

pub total-fits : {n count : ℕ} → n ≤ 8 → count < 65_536 → Fits w64 (16 * n * count)
total-fits {n} {count} few h = let b : 16 * n * count ≤ 128 * 65_536 = mul-le-mul {n₂ = 128} {m₂ = 65_536} (omega arith) (omega arith) in record { fits = omega arith }
