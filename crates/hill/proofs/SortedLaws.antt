-- Sorted lists: put together, without duplicates, and the only ones with their members. Assumes nothing.
use Rattle.std.specs.Prelude.{◌≡◌, refl, ◌↔◌, ◌⊎◌}
use Rattle.std.proofs.Common.{sym, ap, subst, inl, inr}
use mathlib.Core.List.Memᴰ
use mathlib.Core.List.{List, [], ◌∷◌, ◌++◌, map, Memᴰ}
use Rattle.hill.specs.Sorted.{Sorted, NoDuplicates}

module _ {A : Type 0} (Before : A → A → Type 0) where
  pub sorted-append : (l k : List A) → Sorted Before l → Sorted Before k → ((x y : A) → Memᴰ x l → Memᴰ y k → Before x y) → Sorted Before (l ++ k)
  sorted-append [] k a b h = b
  sorted-append (x ∷ l) k a b h = ((λ y m. first y (Memᴰ.append_cases l m)), sorted-append l k a.1 b (λ u v m n. h u v (Memᴰ.tail m) n))
    where
      first : (y : A) → Memᴰ y l ⊎ Memᴰ y k → Before x y
      first y (inl m) = a.0 y m
      first y (inr m) = h x y (Memᴰ.head refl) m

  -- a function that keeps the order of the members keeps that of the list
  pub sorted-map : {C : Type 0} (f : C → A) (Lower : C → C → Type 0) (l : List C) → ((x y : C) → Memᴰ x l → Memᴰ y l → Lower x y → Before (f x) (f y)) → Sorted Lower l → Sorted Before (map f l)
  sorted-map {C} f Lower [] keeps h = tt
  sorted-map {C} f Lower (x ∷ l) keeps h = (first, sorted-map f Lower l (λ u v m n. keeps u v (Memᴰ.tail m) (Memᴰ.tail n)) h.1)
    where
      first : (y : A) → Memᴰ y (map f l) → Before (f x) y
      first y m = let (c, n, e) = Memᴰ.of_map f l m in subst (Before (f x)) e (keeps x c (Memᴰ.head refl) (Memᴰ.tail n) (h.0 c n))

  module _ (asymmetric : (x y : A) → Before x y → Before y x → ⊥) where
    not_itself : (x y : A) → x ≡ y → Before x y → ⊥
    not_itself x y e b = let c : Before x x = subst (Before x) (sym e) b in asymmetric x x c c

    pub sorted-no-duplicates : (l : List A) → Sorted Before l → NoDuplicates l
    sorted-no-duplicates [] h = tt
    sorted-no-duplicates (x ∷ l) h = ((λ m. not_itself x x refl (h.0 x m)), sorted-no-duplicates l h.1)

    -- ---- two sorted lists with the same members are one

    same_first : (x y : A) (l k : List A) → Sorted Before (x ∷ l) → Sorted Before (y ∷ k) → (x ≡ y) ⊎ Memᴰ x k → (y ≡ x) ⊎ Memᴰ y l → x ≡ y
    same_first x y l k a b (inl e) q = e
    same_first x y l k a b (inr m) (inl e) = sym e
    same_first x y l k a b (inr m) (inr n) = absurd (asymmetric x y (a.0 y n) (b.0 x m))

    same_rest : (x : A) (l k : List A) → Sorted Before (x ∷ l) → ((y : A) → Memᴰ y (x ∷ l) → Memᴰ y (x ∷ k)) → (y : A) → Memᴰ y l → Memᴰ y k
    same_rest x l k a h y m = later (Memᴰ.cases_cons (h y (Memᴰ.tail m)))
      where
        later : (y ≡ x) ⊎ Memᴰ y k → Memᴰ y k
        later (inl e) = absurd (not_itself x y (sym e) (a.0 y m))
        later (inr n) = n

    pub sorted-unique : (l k : List A) → Sorted Before l → Sorted Before k → ((x : A) → Memᴰ x l ↔ Memᴰ x k) → l ≡ k
    sorted-unique [] [] a b h = refl
    sorted-unique [] (y ∷ k) a b h = absurd (Memᴰ.not-nil ((h y).1 (Memᴰ.head refl)))
    sorted-unique (x ∷ l) [] a b h = absurd (Memᴰ.not-nil ((h x).0 (Memᴰ.head refl)))
    sorted-unique (x ∷ l) (y ∷ k) a b h = go (same_first x y l k a b (Memᴰ.cases_cons ((h x).0 (Memᴰ.head refl))) (Memᴰ.cases_cons ((h y).1 (Memᴰ.head refl)))) (sorted-unique l k a.1 b.1)
      where
        go : x ≡ y → (((z : A) → Memᴰ z l ↔ Memᴰ z k) → l ≡ k) → x ∷ l ≡ y ∷ k
        go e ih =
            let there = same_rest x l k a (λ z m. subst (λ w. Memᴰ z (w ∷ k)) (sym e) ((h z).0 m)) in
            let back = same_rest y k l b (λ z m. subst (λ w. Memᴰ z (w ∷ l)) e ((h z).1 m)) in
            rw e (ap (λ (m : List A). y ∷ m) (ih (λ z. (there z, back z))))
