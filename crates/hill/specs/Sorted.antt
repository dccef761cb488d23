-- Lists in an order, and without duplicates. Definitions only.
use mathlib.Core.List.{List, [], ◌∷◌, Memᴰ}

-- Each stands before all that follow it.
abbrev pub Sorted : {A : Type 0} → (A → A → Type 0) → List A → Type 0
Sorted Before [] = Unit {0}
Sorted {A} Before (x ∷ l) = ((y : A) → Memᴰ y l → Before x y) × Sorted Before l

-- None stands again among those that follow it.
abbrev pub NoDuplicates : {A : Type 0} → List A → Type 0
NoDuplicates [] = Unit {0}
NoDuplicates (x ∷ l) = (Memᴰ x l → ⊥) × NoDuplicates l
