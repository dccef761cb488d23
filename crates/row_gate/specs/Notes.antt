-- What is noted of a row's pieces. Definitions only.
use Rattle.std.specs.Prelude.{◌≡◌, true, List, [], ℕ, ◌≤◌, ◌<◌, length, get_or, Option, Some, None}
use Rattle.gate.specs.declared.Refusal.{Refusal}
use Rattle.outcome.specs.Outcomes.{all_summaries}
use Rattle.judge.specs.Judged.{head_at}
use Rattle.judge.specs.Numbers.{numbers_of, AllInBounds}
use Rattle.judge.specs.declared.Numbers.{Numbers}

-- Of a blank nothing is noted, and nothing is noted past the end.
abbrev pub note_at : List (Option Numbers) → ℕ → Option Numbers
note_at notes k = get_or notes k None

-- The peak of a piece that is no hill: above all levels.
abbrev pub no_peak : ℕ
no_peak = 255

-- No spoilt summary is a hill.
abbrev pub peak_unless : Option Refusal → ℕ → ℕ
peak_unless None peak = peak
peak_unless (Some r) peak = no_peak

-- The numbers noted are in range.
pub record Noted (notes : List (Option Numbers)) : Type 0 where
  pub each : (k : ℕ) → AllInBounds (note_at notes k)

-- The records that a piece opens, as they are noted.
abbrev pub opened_of : Option Numbers → ℕ
opened_of None = 0
opened_of (Some n) = n.opened

-- No piece is noted to open more than 100,001 records, "which means 'more'".
pub record Few (notes : List (Option Numbers)) : Type 0 where
  pub each : (k : ℕ) → opened_of (note_at notes k) ≤ 100_001

-- The pieces of a row are noted.
abbrev pub AllNoted : List (List ℕ) → List (Option Numbers) → Type 0
AllNoted ps notes = (i : ℕ) → i < length ps → note_at notes i ≡ numbers_of (head_at (get_or ps i []))

-- The notes after the pieces were judged, which ends at one that is no summary: notes in range are still in range.
pub record NotedAll (ps : List (List ℕ)) (before notes : List (Option Numbers)) : Type 0 where
  pub in-range : Noted before → Noted notes
  pub noted : all_summaries ps ≡ true → AllNoted ps notes
