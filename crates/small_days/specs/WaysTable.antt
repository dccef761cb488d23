-- The table of ways, entry by entry. Assumes nothing.
use Rattle.std.specs.Prelude.{◌≡◌, cond, List, [], ◌∷◌, ℕ, zero, suc, ◌+◌, ◌≤◌, ◌<◌, leb, length, get_or}
use Rattle.std.proofs.Common.{ap, ◌∙◌, arith, le-leb}
use Rattle.day_list.specs.WayLaws.{opening_ways}

-- f of k, k + 1 and so on, n of them
abbrev listed : {A : Type 0} → (ℕ → A) → (k n : ℕ) → List A
listed f k zero = []
listed f k (suc n) = f k ∷ listed f (suc k) n

listed_at : {A : Type 0} (f : ℕ → A) (k n i : ℕ) (d : A) → i < n → get_or (listed f k n) i d ≡ f (k + i)
listed_at f k zero i d h = absurd (omega arith)
listed_at f k (suc n) zero d h = let e : k ≡ k + 0 = omega arith in ap f e
listed_at f k (suc n) (suc i) d h = let e : suc k + i ≡ k + suc i = omega arith in listed_at f (suc k) n i d (omega arith) ∙ ap f e

-- what stands in the table: a 0 where nobody asks
unfoldable pub entry : (left level : ℕ) → ℕ
entry left level = cond (leb (left + level) 8) (length (opening_ways left level)) 0

unfoldable pub ways_table : List (List ℕ)
ways_table = listed (λ left. listed (entry left) 0 9) 0 9

pub ways-at : (left level : ℕ) → left + level ≤ 8 → get_or (get_or ways_table left []) level 0 ≡ length (opening_ways left level)
unfolding entry ways_table
ways-at left level h =
    let a : 0 + left ≡ left = omega arith in
    let b : 0 + level ≡ level = omega arith in
    let row : get_or ways_table left [] ≡ listed (entry left) 0 9 = listed_at (λ i. listed (entry i) 0 9) 0 9 left [] (omega arith) ∙ ap (λ i. listed (entry i) 0 9) a in
    let column : get_or (listed (entry left) 0 9) level 0 ≡ entry left level = listed_at (entry left) 0 9 level 0 (omega arith) ∙ ap (entry left) b in
    ap (λ (r : List ℕ). get_or r level 0) row ∙ column ∙ rw (le-leb (left + level) 8 h)
