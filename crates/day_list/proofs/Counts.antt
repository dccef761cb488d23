-- How many small days there are, and how many bytes they take. Assumes nothing.
use Rattle.std.specs.Prelude.{◌≡◌, refl, ℕ, zero, suc, ◌*◌, ◌≤◌, ◌<◌, length, get_or}
use Rattle.std.proofs.Common.{ap, arith, mul-le-mul, lit≤}
use mathlib.Core.List.{List, [], ◌∷◌, map, Memᴰ}
use Rattle.hill.specs.Row.{joined}
use Rattle.hill.proofs.RowLaws.{joined-long}
use Rattle.day_list.specs.Days.{ways, days, small_days}
use Rattle.day_list.specs.Claims.{AreSmallDays}
use Rattle.day_list.proofs.DayLaws.{only-small-days, small-long}

-- "The counts are 1, 1, 2, 5, 14, 42, 132, 429, .."
pub counts : map (λ n. length (small_days n)) (1 ∷ 2 ∷ 3 ∷ 4 ∷ 5 ∷ 6 ∷ 7 ∷ 8 ∷ []) ≡ 1 ∷ 1 ∷ 2 ∷ 5 ∷ 14 ∷ 42 ∷ 132 ∷ 429 ∷ []
unfolding small_days days ways
counts = refl

-- of any such list
pub counted : (n : ℕ) → n ≤ 64 → (logs : List (List ℕ)) → AreSmallDays n logs → length logs ≡ length (small_days n)
counted n few logs h = ap length (only-small-days n few logs h)

at-member : (logs : List (List ℕ)) (i : ℕ) → i < length logs → Memᴰ (get_or logs i []) logs
at-member [] i l = absurd (omega arith)
at-member (log ∷ logs) zero l = Memᴰ.head refl
at-member (log ∷ logs) (suc i) l = Memᴰ.tail (at-member logs i (omega arith))

-- 16 bytes for each record that a log opens
pub total : (n : ℕ) → n ≤ 64 → length (joined (small_days n)) ≡ 16 * n * length (small_days n)
total n few = joined-long (16 * n) (small_days n) (λ i l. small-long n few (get_or (small_days n) i []) (at-member (small_days n) i l))

pub totals : map (λ n. length (joined (small_days n))) (1 ∷ 2 ∷ 3 ∷ 4 ∷ 5 ∷ 6 ∷ 7 ∷ 8 ∷ []) ≡ 16 ∷ 32 ∷ 96 ∷ 320 ∷ 1_120 ∷ 4_032 ∷ 14_784 ∷ 54_912 ∷ []
unfolding small_days days ways
totals = rw (total 1 (lit≤ tt), total 2 (lit≤ tt), total 3 (lit≤ tt), total 4 (lit≤ tt), total 5 (lit≤ tt), total 6 (lit≤ tt), total 7 (lit≤ tt), total 8 (lit≤ tt))

most-429 : (n : ℕ) → n ≤ 8 → length (small_days n) ≤ 429
unfolding small_days days ways
most-429 zero h = lit≤ tt
most-429 (suc zero) h = lit≤ tt
most-429 (suc (suc zero)) h = lit≤ tt
most-429 (suc (suc (suc zero))) h = lit≤ tt
most-429 (suc (suc (suc (suc zero)))) h = lit≤ tt
most-429 (suc (suc (suc (suc (suc zero))))) h = lit≤ tt
most-429 (suc (suc (suc (suc (suc (suc zero)))))) h = lit≤ tt
most-429 (suc (suc (suc (suc (suc (suc (suc zero))))))) h = lit≤ tt
most-429 (suc (suc (suc (suc (suc (suc (suc (suc zero)))))))) h = lit≤ tt
most-429 (suc (suc (suc (suc (suc (suc (suc (suc (suc n))))))))) h = absurd (omega arith)

-- So all small days of one n never take more.
pub most-54912 : (n : ℕ) → n ≤ 8 → length (joined (small_days n)) ≤ 54_912
most-54912 n h = rw (total n (omega arith)) (mul-le-mul {n₂ = 128} {m₂ = 429} (omega arith) (most-429 n h))
