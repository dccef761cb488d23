-- The bytes of a summary, in the words of "Summaries". Definitions only.
use Rattle.std.specs.Prelude.{List, [], ◌∷◌, ◌++◌, ℕ, ◌+◌, ◌*◌, ℤ}
use Rattle.std.specs.Int.{w32, w64}
use Rattle.std.proofs.Common.{of_z}
use Rattle.number.specs.Bytes.{bytes_of}
use Rattle.modes.specs.FourModes.{Amounts}
use Rattle.figure.specs.Mode.{mode_of}
use Rattle.hill.specs.Summary.{Hill, hill, Summary, blank, part, spoilt, whole, rise, fall}

-- "Numbers are little-endian; signed ones are two's complement."
abbrev pub i32_bytes : ℤ → List ℕ
i32_bytes z = bytes_of 4 (of_z w32 z)

abbrev pub i64_bytes : ℤ → List ℕ
i64_bytes z = bytes_of 8 (of_z w64 z)

module _ {Fig : Type 0} where
  -- "Kind 16, blank"; "Kind 17, spoilt"; "Kind 18, hill".
  abbrev pub kind_of : Summary Fig Amounts → ℕ
  kind_of blank = 16
  kind_of (part (spoilt f s e o)) = 17
  kind_of (part (whole p o h)) = 18

  -- "6 bytes"; "16 bytes"; "Length 24 + 8 × (start - peak) + 20 × (end - peak)".
  abbrev pub length_of : Summary Fig Amounts → ℕ
  length_of blank = 6
  length_of (part (spoilt f s e o)) = 16
  length_of (part (whole p o h)) = 24 + 8 * rise h + 20 * fall h

-- How a mode stores its figures: each as a signed 64-bit number.
module _ {Fig : Type 0} (store : Fig → ℤ) where
  -- "Signed 64-bit left values from level start down to peak+1": a hill has them from peak+1 up.
  abbrev pub left_bytes : List Fig → List ℕ
  left_bytes [] = []
  left_bytes (v ∷ vs) = left_bytes vs ++ i64_bytes (store v)

  -- "The value, floor, ceiling of the unclosed record .., and its 64-bit combined held figures so far."
  abbrev pub record_bytes : Amounts × Fig → List ℕ
  record_bytes e = i32_bytes e.0.value ++ (i32_bytes e.0.floor ++ (i32_bytes e.0.ceiling ++ i64_bytes (store e.1)))

  -- "For each level from peak+1 up to end": a hill has them from end down.
  abbrev pub right_bytes : List (Amounts × Fig) → List ℕ
  right_bytes [] = []
  right_bytes (e ∷ es) = right_bytes es ++ record_bytes e

  -- "Left values ..; one middle value at the peak; and for each level .."
  abbrev pub hill_bytes : Hill Fig Amounts → List ℕ
  hill_bytes (hill u v d) = left_bytes u ++ (i64_bytes (store v) ++ right_bytes d)

  -- Spoilt: "then fault, start level, end level (16 bits each), and opened records (32 bits)".
  -- Hill: "then start, peak, end (16 bits each), opened records (32 bits)", and its values.
  abbrev pub body : Summary Fig Amounts → List ℕ
  body blank = []
  body (part (spoilt f s e o)) = bytes_of 2 f ++ (bytes_of 2 s ++ (bytes_of 2 e ++ bytes_of 4 o))
  body (part (whole p o h)) = bytes_of 2 (p + rise h) ++ (bytes_of 2 p ++ (bytes_of 2 (p + fall h) ++ (bytes_of 4 o ++ hill_bytes h)))

  -- "Each begins with length, kind and mode, 16 bits each."
  abbrev pub layout : ℕ → Summary Fig Amounts → List ℕ
  layout m s = bytes_of 2 (length_of s) ++ (bytes_of 2 (kind_of s) ++ (bytes_of 2 m ++ body s))

-- A summary in mode m, and its bytes.
abbrev pub SummaryIn : ℕ → Type 0
SummaryIn m = Summary (mode_of m).algebra.Fig Amounts

unfoldable pub encode : (m : ℕ) → SummaryIn m → List ℕ
encode m s = layout (mode_of m).store m s
