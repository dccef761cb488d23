-- A buffer of lines, 27 bytes each: one line is written and the others stay; and what the lines come to together. Assumes nothing.
use Rattle.std.specs.Prelude.{◌≡◌, refl, ◌≢◌, List, [], ◌∷◌, ◌++◌, ℕ, suc, ◌+◌, ◌*◌, ◌≤◌, ◌<◌, length, get_or, take, drop}
use Rattle.std.proofs.Common.{sym, ap, ap₂, ◌∙◌, append_assoc, arith, length-take, length-drop, length-take-le, take_at, drop_at, take-add, drop-drop, get_or-take, get_or-drop, ext_get_or}
use Rattle.std.proofs.Math.Logic.{dite}
use Rattle.std.proofs.Math.Decide.{dec_lt}
use Rattle.std.proofs.lemmas.List.Edits.{sets, sets-eq}
use Rattle.std.proofs.Math.Seq.{length-sets}
use Rattle.number.specs.Laws.{get_d_sets_before, get_or-sets-after}
use Rattle.hill.specs.Row.{joined}
use Rattle.sheet.specs.Printing.{row}

module _ (out : List ℕ) (i : ℕ) (line : List ℕ) (long : length line ≡ 27) where
  -- the line that is written
  pub row_same : 27 * i + 27 ≤ length out → row (sets out (27 * i) line) i ≡ line
  row_same h =
      ap (λ (s : List ℕ). take 27 (drop (27 * i) s)) (sets-eq line out (27 * i) (omega arith) ∙ append_assoc (take (27 * i) out) line (drop (27 * i + length line) out)) ∙
      ap (take 27) (drop_at (take (27 * i) out) (line ++ drop (27 * i + length line) out) (27 * i) (length-take-le (27 * i) out (omega arith))) ∙
      take_at line (drop (27 * i + length line) out) 27 long

  -- what stands elsewhere
  same_at : (j : ℕ) → (27 * i ≤ j → j < 27 * i + 27 → ⊥) → get_or (sets out (27 * i) line) j 0 ≡ get_or out j 0
  same_at j h =
      dite (dec_lt j (27 * i)) (λ l. get_d_sets_before out (27 * i) j line l)
      (λ l. dite (dec_lt j (27 * i + 27)) (λ m. absurd (h (omega arith) m)) (λ m. get_or-sets-after out (27 * i) j line (omega arith)))

  pub row_other : (j : ℕ) → j ≢ i → row (sets out (27 * i) line) j ≡ row out j
  row_other j n = ext_get_or 0 (row (sets out (27 * i) line) j) (row out j) same_length same_bytes
    where
      same_length : length (row (sets out (27 * i) line) j) ≡ length (row out j)
      same_length = omega (
        arith,
        length-take 27 (drop (27 * j) (sets out (27 * i) line)),
        length-take 27 (drop (27 * j) out),
        length-drop (27 * j) (sets out (27 * i) line),
        length-drop (27 * j) out,
        length-sets out (27 * i) line,
      )

      same_bytes : (k : ℕ) → k < length (row (sets out (27 * i) line) j) → get_or (row (sets out (27 * i) line) j) k 0 ≡ get_or (row out j) k 0
      same_bytes k l =
          let m : k < 27 = omega (arith, length-take 27 (drop (27 * j) (sets out (27 * i) line))) in
          get_or-take 27 (drop (27 * j) (sets out (27 * i) line)) k 0 m ∙ get_or-drop (27 * j) (sets out (27 * i) line) k 0 ∙ same_at (27 * j + k) (λ a b. omega (arith, n)) ∙
          sym (get_or-take 27 (drop (27 * j) out) k 0 m ∙ get_or-drop (27 * j) out k 0)

  pub after_same : (n : ℕ) → i < n → drop (27 * n) (sets out (27 * i) line) ≡ drop (27 * n) out
  after_same n l =
      ext_get_or 0 (drop (27 * n) (sets out (27 * i) line)) (drop (27 * n) out)
      (length-drop (27 * n) (sets out (27 * i) line) ∙ omega (arith, length-sets out (27 * i) line, length-drop (27 * n) out))
      (λ k _. get_or-drop (27 * n) (sets out (27 * i) line) k 0 ∙ same_at (27 * n + k) (λ a b. omega arith) ∙ sym (get_or-drop (27 * n) out k 0))

-- ---- all lines

pub rows-joined : (ls : List (List ℕ)) (out : List ℕ) → ((i : ℕ) → i < length ls → row out i ≡ get_or ls i []) → take (27 * length ls) out ≡ joined ls
rows-joined [] out f = refl
rows-joined (l ∷ ls) out f =
    let n : 27 * length (l ∷ ls) ≡ 27 + 27 * length ls = omega arith in
    ap (λ k. take k out) n ∙ take-add 27 (27 * length ls) out ∙ ap₂ (λ (a b : List ℕ). a ++ b) (f 0 (omega arith)) (rows-joined ls (drop 27 out) later)
  where
    later : (i : ℕ) → i < length ls → row (drop 27 out) i ≡ get_or ls i []
    later i h = let m : 27 + 27 * i ≡ 27 * suc i = omega arith in ap (take 27) (drop-drop (27 * i) 27 out ∙ ap (λ k. drop k out) m) ∙ f (suc i) (omega arith)
