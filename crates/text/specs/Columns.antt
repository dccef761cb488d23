-- Text in columns, "right-aligned and filled with blanks": document 02, L9. A blank is 32. Definitions only.
use Rattle.std.specs.Prelude.{cond, List, [], ◌∷◌, ◌++◌, ℕ, zero, suc, ◌-◌, eqb, length}

abbrev pub blanks : ℕ → List ℕ
blanks zero = []
blanks (suc n) = 32 ∷ blanks n

-- A TEXT IN SO MANY COLUMNS, at their right end. (Whoever prints one shows that it is no longer than that.)
unfoldable pub right_aligned : (columns : ℕ) (s : List ℕ) → List ℕ
right_aligned columns s = blanks (columns - length s) ++ s

-- ---- the other way, for the laws

-- What follows the blanks.
abbrev pub after_blanks : List ℕ → List ℕ
after_blanks [] = []
after_blanks (b ∷ s) = cond (eqb b 32) (after_blanks s) (b ∷ s)
