-- A station's limits, the order of its questions and its slots, by computation. Assumes nothing.
use Rattle.std.specs.Prelude.{◌≡◌, refl, List, [], ◌∷◌, ℕ, length, set, replicate}
use Rattle.gate.specs.Outcome.{refused, granted}
use Rattle.number.specs.Bytes.{le_at, bytes_of}
use Rattle.figure.specs.Mode.{mode_of, mode_in_use}
use Rattle.hill.specs.Verdict.{joint, count, cut}
use Rattle.summary.specs.Layout.{encode}
use Rattle.summary.specs.Decode.{decode}
use Rattle.summary.specs.Decide.{layout_fits, spoilt_fits, hill_fits, is_summary}
use Rattle.summary.specs.Outcomes.{blank_bytes, merge_bytes}
use Rattle.valley_station.specs.Station.{fresh_station, opened_in, excess_of, fresh_outcome, send_outcome, end_outcome}
use Rattle.valley_station.specs.State.{slot_holds}

-- A spoilt summary in a mode, and in mode 1, from level s to level e, that opened low + 256 × high records.
spoilt_in : (m s e low high : ℕ) → List ℕ
spoilt_in m s e low high = 16 ∷ 0 ∷ 17 ∷ 0 ∷ m ∷ 0 ∷ 7 ∷ 0 ∷ s ∷ 0 ∷ e ∷ 0 ∷ low ∷ high ∷ 0 ∷ 0 ∷ []

spoilt : (s e low high : ℕ) → List ℕ
spoilt s e low high = spoilt_in 1 s e low high

-- 10,000 opened records are a farm's own, and the next is drawn.
own-10-000 : excess_of (spoilt 0 0 16 39 ∷ (spoilt 0 0 17 39 ∷ [])) ≡ 1
unfolding spoilt_in spoilt opened_in le_at
own-10-000 = refl

-- One farm draws all of the 20,000 with 30,000 opened records, and not one more.
one-draws : (send_outcome (fresh_station 1) 0 (spoilt 0 0 48 117) ≡ granted (spoilt 0 0 48 117)) × (send_outcome (fresh_station 1) 0 (spoilt 0 0 49 117) ≡ refused 21)
unfolding spoilt_in spoilt opened_in le_at bytes_of mode_in_use mode_of joint count cut encode decode layout_fits spoilt_fits hill_fits is_summary blank_bytes merge_bytes fresh_station send_outcome
one-draws = (refl, refl)

-- Then another has its own 10,000 alone, until the first one is blank again.
another : (send_outcome (set (fresh_station 1) 0 (spoilt 0 0 48 117)) 7 (spoilt 0 0 16 39) ≡ granted (spoilt 0 0 16 39))
    × (send_outcome (set (fresh_station 1) 0 (spoilt 0 0 48 117)) 7 (spoilt 0 0 17 39) ≡ refused 21) × (send_outcome (fresh_station 1) 7 (spoilt 0 0 17 39) ≡ granted (spoilt 0 0 17 39))
unfolding spoilt_in spoilt opened_in le_at bytes_of mode_in_use mode_of joint count cut encode decode layout_fits spoilt_fits hill_fits is_summary blank_bytes merge_bytes fresh_station send_outcome
another = (refl, refl, refl)

-- At the right end: the start is that of what was held, and the end that of what was sent; the opened records are added.
right_end : send_outcome (set (fresh_station 1) 3 (spoilt 1 2 16 39)) 3 (spoilt 3 4 1 0) ≡ granted (spoilt 1 4 17 39)
unfolding spoilt_in spoilt opened_in le_at bytes_of mode_in_use mode_of joint count cut encode decode layout_fits spoilt_fits hill_fits is_summary blank_bytes merge_bytes fresh_station send_outcome
right_end = refl

-- 20 comes before 5, and 6 before 21: 30,001 opened records in mode 2, for a station of mode 1.
in_order : (send_outcome (fresh_station 1) 8 [] ≡ refused 20) × (send_outcome (fresh_station 1) 7 [] ≡ refused 5) × (send_outcome (fresh_station 1) 7 (spoilt_in 2 0 0 49 117) ≡ refused 6)
unfolding spoilt_in le_at bytes_of mode_in_use encode layout_fits spoilt_fits hill_fits is_summary blank_bytes fresh_station send_outcome
in_order = (refl, refl, refl)

-- An end of day hands out 6 bytes where nothing was sent; a byte less is too short.
blank-day : (end_outcome (fresh_station 1) 7 6 ≡ granted (6 ∷ 0 ∷ 16 ∷ 0 ∷ 1 ∷ 0 ∷ [])) × (end_outcome (fresh_station 1) 7 5 ≡ refused 12) × (end_outcome (fresh_station 1) 8 6 ≡ refused 20)
unfolding le_at bytes_of mode_in_use encode layout_fits spoilt_fits hill_fits is_summary blank_bytes fresh_station end_outcome
blank-day = (refl, refl, refl)

-- Mode 3 is out of use.
no-mode-3 : fresh_outcome 3 ≡ refused 1
unfolding mode_in_use fresh_outcome
no-mode-3 = refl

-- A slot that says 1,789 bytes holds 1,788, and one that says 3 holds 3.
slots : (length (slot_holds (253 ∷ 6 ∷ replicate 2000 0)) ≡ 1788) × (slot_holds (3 ∷ 0 ∷ 9 ∷ 9 ∷ []) ≡ 3 ∷ 0 ∷ 9 ∷ [])
unfolding slot_holds le_at
slots = (refl, refl)
