-- The records behind the heaviest line, and what writing their numbers comes to: document 02, L7. Definitions only; `LineLaws.one_line` says that these
-- are the records that Claims describes.
use Rattle.std.specs.Prelude.{Bool, true, false, cond, List, [], ◌∷◌, ◌++◌, map, ℕ, zero, suc, length, drop}
use Rattle.gate.specs.Outcome.{Outcome, onward, written}
use Rattle.number.specs.Bytes.{bytes_of}
use Rattle.number.specs.Integer.{same}
use Rattle.modes.specs.FourModes.{Amounts, heaviest}
use Rattle.modes.specs.declared.Held.{Held}
use Rattle.modes.specs.declared.Held.TheVariants.{Nothing, Figure}
use Rattle.hill.specs.Log.{Record}
use Rattle.hill.specs.Figure.{figure_at, combined}
use Rattle.hill.specs.HeldPlaces.{held_from}
use Rattle.chunk.specs.Chunk.{whole_log}
use Rattle.log_records.specs.Numbers.{number_at}

-- The places of the records that the one opened at p, of depth d, directly holds, in log order (`hill/HeldPlaces.held-listed`).
abbrev pub held_by : List (Record Amounts) → (p d : ℕ) → List ℕ
held_by log p d = held_from (suc d) (suc p) (drop (suc p) log)

abbrev pub same_figure : Held → Held → Bool
same_figure Nothing Nothing = true
same_figure Nothing (Figure b) = false
same_figure (Figure a) Nothing = false
same_figure (Figure a) (Figure b) = same a b

-- The first of some places whose figure is h: one place, or none.
abbrev pub first_with : (ℕ → Held) → Held → List ℕ → List ℕ
first_with figure h [] = []
first_with figure h (q ∷ qs) = cond (same_figure (figure q) h) (q ∷ []) (first_with figure h qs)

-- "The greatest held figure" of mode 2, and "the earliest record that reaches it": the first, or none where nothing is held.
abbrev pub greatest_held : List (Record Amounts) → (p d : ℕ) → Held
greatest_held log p d = combined heaviest (map (figure_at heaviest log) (held_by log p d))

abbrev pub next_of : List (Record Amounts) → (p d : ℕ) → List ℕ
next_of log p d = first_with (figure_at heaviest log) (greatest_held log p d) (held_by log p d)

abbrev pub and_below : (ℕ → List ℕ) → List ℕ → List ℕ
and_below below [] = []
and_below below (q ∷ qs) = q ∷ below q

-- The places below the record opened at p, at most n of them.
unfoldable pub places_from : List (Record Amounts) → (n p d : ℕ) → List ℕ
places_from log zero p d = []
places_from log (suc n) p d = and_below (λ q. places_from log n q (suc d)) (next_of log p d)

-- "From the root down to one that holds nothing": by places, ..
unfoldable pub line_places : List (Record Amounts) → List ℕ
line_places log = 0 ∷ places_from log (length log) 0 0

-- .. and by numbers.
abbrev pub line_numbers : List (Record Amounts) → List ℕ
line_numbers log = map (number_at log) (line_places log)

-- "The 32-bit numbers", 4 bytes each.
abbrev pub number_bytes : List ℕ → List ℕ
number_bytes [] = []
number_bytes (n ∷ ns) = bytes_of 4 n ++ number_bytes ns

-- NAMING THE RECORDS BEHIND THE HEAVIEST LINE, "for a well-formed log of one chunk". "Faults get their numbers as at finish; a short buffer 12."
unfoldable pub heaviest_line_outcome : (log : List ℕ) (cap : ℕ) → Outcome (List ℕ)
heaviest_line_outcome log cap = onward (whole_log log) (λ xs. written cap (number_bytes (line_numbers xs)))
