-- How a row is cut into its pieces, as document 01 says it.
use Rattle.std.specs.Prelude.{ℕ, zero, suc, cond, ◌&&◌, List, [], ◌∷◌, ◌++◌, length, take, drop, leb}
use Rattle.number.specs.Bytes.{le_at}

-- The length of a row's first piece, "cut by their length fields; where one byte is left, or a length is below 6 or runs past the
-- end, the rest is the last piece".
unfoldable pub first_length : List ℕ → ℕ
first_length row = cond (leb 2 (length row) && leb 6 (le_at 2 row 0) && leb (le_at 2 row 0) (length row)) (le_at 2 row 0) (length row)

-- The pieces of a row, at most n of them.
unfoldable pub pieces_in : ℕ → List ℕ → List (List ℕ)
pieces_in zero row = []
pieces_in (suc n) [] = []
pieces_in (suc n) (b ∷ s) = take (first_length (b ∷ s)) (b ∷ s) ∷ pieces_in n (drop (first_length (b ∷ s)) (b ∷ s))

-- THE PIECES OF A ROW. "An empty slice has no piece." A row has no more pieces than bytes.
unfoldable pub row_pieces : List ℕ → List (List ℕ)
row_pieces row = pieces_in (length row) row

-- Summaries end to end.
abbrev pub end_to_end : List (List ℕ) → List ℕ
end_to_end [] = []
end_to_end (p ∷ ps) = p ++ end_to_end ps
