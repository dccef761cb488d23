-- A valley station that serves eight farms, 0 to 7, in one mode: what it holds, and what its calls come to. Document 02, L11. Definitions only.
use Rattle.std.specs.Prelude.{cond, ◌&&◌, List, [], ◌∷◌, ℕ, ◌+◌, ◌-◌, leb, eqb, length, get_or, set, replicate}
use Rattle.gate.specs.Outcome.{Outcome, granted, question, written}
use Rattle.figure.specs.Mode.{mode_in_use}
use Rattle.summary.specs.Judge.{mode_at, opened_at}
use Rattle.summary.specs.Decide.{is_summary}
use Rattle.summary.specs.Outcomes.{blank_bytes, merge_bytes}

-- What a station holds for farms 0, 1, ..: the bytes of "a running summary" for each.
abbrev pub Station : Type 0
Station = List (List ℕ)

abbrev pub held : Station → (farm : ℕ) → List ℕ
held st farm = get_or st farm []

-- "Each farm has a running summary, blank at first".
unfoldable pub fresh_station : (mode : ℕ) → Station
fresh_station mode = replicate 8 (blank_bytes mode)

-- The opened records that a summary says: a blank, which has 6 bytes, says none; a spoilt one and a hill have their number at 12 (`StationLaws.opened-said`).
unfoldable pub opened_in : List ℕ → ℕ
opened_in b = cond (leb 16 (length b)) (opened_at b) 0

-- "Up to 10,000 opened records a farm are its own; above that it draws on 20,000 that all have in common": what a farm draws, 0 up to 10,000 (no difference is below
-- 0), and the farms together.
abbrev pub drawn : List ℕ → ℕ
drawn b = opened_in b - 10_000

abbrev pub excess_of : Station → ℕ
excess_of [] = 0
excess_of (b ∷ st) = drawn b + excess_of st

-- "A summary sent for a farm is merged at its right end".
abbrev pub merged_right : Station → (farm : ℕ) (summary : List ℕ) → List ℕ
merged_right st farm s = merge_bytes (mode_at (held st farm)) (held st farm) s

-- FRESH, in a mode: 1, as every call "that is given a mode puts 1".
unfoldable pub fresh_outcome : (mode : ℕ) → Outcome Station
fresh_outcome mode = question 1 (mode_in_use mode) (granted (fresh_station mode))

-- A SEND: "20 first, for a farm above 7"; 5 and 6, as at a merge, of what the farm holds and what is sent; "21 after 6 .., exactly when the farms' excess over
-- 10,000 would then add to more than 20,000". It comes to the farm's new summary. (What a run holds always passes 5: Claims, `Asks`.)
unfoldable pub send_outcome : Station → (farm : ℕ) (summary : List ℕ) → Outcome (List ℕ)
send_outcome st farm s =
    question 20 (leb farm 7) (question 5 (is_summary (held st farm) && is_summary s) (question 6 (eqb (mode_at (held st farm)) (mode_at s))
    (question 21 (leb (excess_of (set st farm (merged_right st farm s))) 20_000) (granted (merged_right st farm s)))))

-- AN END OF DAY with a buffer of cap bytes: 20; 5, which in a run never comes; 12. It "hands out its summary".
unfoldable pub end_outcome : Station → (farm cap : ℕ) → Outcome (List ℕ)
end_outcome st farm cap = question 20 (leb farm 7) (question 5 (is_summary (held st farm)) (written cap (held st farm)))
