-- The line that the day program prints, in document 01's words.
use Rattle.std.specs.Prelude.{cond, List, [], ◌∷◌, ◌++◌, ℕ, eqb}
use Prim.Native.Char.{code}
use Prim.Native.String.{String}
use Rattle.gate.specs.Outcome.{Outcome, refused, granted}
use Rattle.text.specs.Decimal.{digits_of, decimal_of, read_digits, read_decimal}
use Rattle.outcome.specs.declared.Figures.{Figures}

-- The bytes of a text in ASCII.
unfoldable pub ascii : String → List ℕ
ascii String.[] = []
ascii (String.◌∷◌ c s) = code c ∷ ascii s

-- "prints net, heaviest, eaten and stamp with one space between" ..
-- "For a refusal it prints `refused `, the number" ..
unfoldable pub line_text : Outcome Figures → List ℕ
line_text (refused n) = ascii "refused " ++ digits_of n
line_text (granted f) = decimal_of f.net ++ ascii " " ++ decimal_of f.heaviest ++ ascii " " ++ decimal_of f.eaten ++ ascii " " ++ decimal_of f.stamp

-- .. "and a newline".
unfoldable pub day_line : Outcome Figures → List ℕ
day_line o = line_text o ++ ascii "\n"

-- ---- the other way, for the laws

-- x before the first of some pieces.
abbrev pub on_first : ℕ → List (List ℕ) → List (List ℕ)
on_first x [] = (x ∷ []) ∷ []
on_first x (p ∷ ps) = (x ∷ p) ∷ ps

-- s cut at every byte b: what stands before, between and after these bytes.
unfoldable pub pieces : ℕ → List ℕ → List (List ℕ)
pieces b [] = [] ∷ []
pieces b (x ∷ s) = cond (eqb x b) ([] ∷ pieces b s) (on_first x (pieces b s))

-- Four words are figures, two are a refusal. A line of another shape is never printed, and reads as `refused 0`.
abbrev pub read_words : List (List ℕ) → Outcome Figures
read_words [] = refused 0
read_words (a ∷ []) = refused 0
read_words (a ∷ b ∷ []) = refused (read_digits b)
read_words (a ∷ b ∷ c ∷ []) = refused 0
read_words (a ∷ b ∷ c ∷ d ∷ []) = granted (record { net = read_decimal a; heaviest = read_decimal b; eaten = read_decimal c; stamp = read_decimal d })
read_words (a ∷ b ∷ c ∷ d ∷ e ∷ s) = refused 0

-- What a line says: its words up to the newline.
abbrev pub read_pieces : List (List ℕ) → Outcome Figures
read_pieces [] = refused 0
read_pieces (p ∷ ps) = read_words (pieces 32 p)

abbrev pub read_line : List ℕ → Outcome Figures
read_line s = read_pieces (pieces 10 s)
