-- Small days of up to three opened records by hand, and each refusal, by computation. Assumes nothing.
use Rattle.std.specs.Prelude.{◌≡◌, refl, List, [], ◌∷◌, ◌++◌, ℕ, ◌*◌, ◌<◌, length}
use Rattle.std.proofs.Common.{◌∙◌, lit≤, lit<}
use Rattle.gate.specs.Outcome.{refused, granted}
use Rattle.gate.proofs.Laws.{too_short}
use Rattle.number.specs.Bytes.{bytes_of}
use Rattle.hill.specs.Row.{joined}
use Rattle.day_list.specs.Days.{ways, days, small_days, small_days_outcome}
use Rattle.day_list.proofs.CallLaws.{taken}
use Rattle.day_list.proofs.Counts.{total}

-- "open d": length 10, kind 1, depth, value 1. "close d": length 6, kind 2, depth.
abbrev open_at : ℕ → List ℕ
open_at d = 10 ∷ 0 ∷ 1 ∷ 0 ∷ d ∷ 0 ∷ 1 ∷ 0 ∷ 0 ∷ 0 ∷ []

abbrev close_at : ℕ → List ℕ
close_at d = 6 ∷ 0 ∷ 2 ∷ 0 ∷ d ∷ 0 ∷ []

one-opened : small_days_outcome 1 16 ≡ granted (open_at 0 ++ close_at 0)
unfolding bytes_of ways days small_days small_days_outcome
one-opened = refl

two-opened : small_days_outcome 2 32 ≡ granted (open_at 0 ++ (open_at 1 ++ (close_at 1 ++ close_at 0)))
unfolding bytes_of ways days small_days small_days_outcome
two-opened = refl

-- An open before a close: the logs first differ in their third record.
three-opened : small_days_outcome 3 96 ≡ granted (
    (open_at 0 ++ (open_at 1 ++ (open_at 2 ++ (close_at 2 ++ (close_at 1 ++ close_at 0)))))
    ++ (open_at 0 ++ (open_at 1 ++ (close_at 1 ++ (open_at 1 ++ (close_at 1 ++ close_at 0))))))
unfolding bytes_of ways days small_days small_days_outcome
three-opened = refl

-- "14, before all else": also where no byte fits.
none : small_days_outcome 0 0 ≡ refused 14
unfolding small_days_outcome
none = refl

nine : small_days_outcome 9 0 ≡ refused 14
unfolding small_days_outcome
nine = refl

-- The largest number that can be asked for.
most : small_days_outcome 4_294_967_295 1_000_000 ≡ refused 14
unfolding small_days_outcome
most = refl

-- Numbers that would be 8 and 1 without their high bits.
high-8 : small_days_outcome 264 1_000_000 ≡ refused 14
unfolding small_days_outcome
high-8 = refl

high-1 : small_days_outcome 65_537 1_000_000 ≡ refused 14
unfolding small_days_outcome
high-1 = refl

-- "A short buffer gets 12."
one-short : small_days_outcome 1 15 ≡ refused 12
unfolding bytes_of ways days small_days small_days_outcome
one-short = refl

eight-count : 54_911 < 16 * 8 * length (small_days 8)
unfolding ways days small_days
eight-count = lit< tt

eight-short : small_days_outcome 8 54_911 ≡ refused 12
eight-short = taken 8 54_911 refl ∙ too_short 54_911 (joined (small_days 8)) (rw (total 8 (lit≤ tt)) eight-count)
