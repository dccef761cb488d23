-- A chunk with one record more at its end: what a pass over the records goes by. Assumes nothing.
use Rattle.std.specs.Prelude.{◌≡◌, refl, List, [], ◌∷◌, ◌++◌, suc, ◌+◌, ◌-◌, ◌≤◌, min, length}
use Rattle.std.proofs.Common.{ap, sym, ◌∙◌, arith}
use Rattle.algebra.specs.Algebra.{Algebra}
use Rattle.hill.specs.Verdict.{low, joint}
use Rattle.hill.proofs.VerdictLaws.{low-pass, low-assoc}
use Rattle.hill.specs.Log.{Record, opening, closing, depth, start_level, end_level, end_of, peak_of, opens, opened_of, joints}
use Rattle.hill.specs.Closing.{at}
use Rattle.hill.specs.Building.{empty, step, hill_of}
use Rattle.hill.proofs.Building.{run-append}

module _ {R : Type 0} where
  pub end-last : (x : Record R) (xs : List (Record R)) (y : Record R) → end_of x (xs ++ (y ∷ [])) ≡ end_level y
  end-last x [] y = refl
  end-last x (z ∷ xs) y = end-last z xs y

  peak-last : (x : Record R) (xs : List (Record R)) (y : Record R) → peak_of x (xs ++ (y ∷ [])) ≡ min (peak_of x xs) (depth y)
  peak-last x [] y = refl
  peak-last x (z ∷ xs) y = rw (peak-last z xs y) (omega arith)

  joints-last : (x : Record R) (xs : List (Record R)) (y : Record R) → joints x (xs ++ (y ∷ [])) ≡ low (joints x xs) (joint (end_of x xs) (start_level y))
  joints-last x [] y = low-pass (joint (end_level x) (start_level y))
  joints-last x (z ∷ xs) y = rw (joints-last z xs y) (sym (low-assoc (joint (end_level x) (start_level z)) (joints z xs) (joint (end_of z xs) (start_level y))))

  pub opened-append : (xs ys : List (Record R)) → opened_of (xs ++ ys) ≡ opened_of xs + opened_of ys
  opened-append [] ys = omega arith
  opened-append (x ∷ xs) ys = omega (arith, opened-append xs ys)

  pub opened-few : (xs : List (Record R)) → opened_of xs ≤ length xs
  opened-few [] = omega arith
  opened-few (opening d r ∷ xs) = omega (arith, opened-few xs)
  opened-few (closing d ∷ xs) = omega (arith, opened-few xs)

  -- The last record, by its place.
  pub end-at : (x : Record R) (xs : List (Record R)) → end_level (at (x ∷ xs) (suc (length xs) - 1)) ≡ end_of x xs
  end-at x xs = let e : suc (length xs) - 1 ≡ length xs = omega arith in ap (λ k. end_level (at (x ∷ xs) k)) e ∙ go x xs
    where
      go : (x : Record R) (xs : List (Record R)) → end_level (at (x ∷ xs) (length xs)) ≡ end_of x xs
      go x [] = refl
      go x (y ∷ ys) = go y ys

-- One record y more after the chunk x ∷ xs.
pub record Grown {R : Type 0} (𝒜 : Algebra R) (x : Record R) (xs : List (Record R)) (y : Record R) : Type 0 where
  pub end : end_of x (xs ++ (y ∷ [])) ≡ end_level y
  pub peak : peak_of x (xs ++ (y ∷ [])) ≡ min (peak_of x xs) (depth y)
  pub joint : joints x (xs ++ (y ∷ [])) ≡ low (joints x xs) (joint (end_of x xs) (start_level y))
  pub opened : opened_of (x ∷ (xs ++ (y ∷ []))) ≡ opened_of (x ∷ xs) + opens y
  pub built : hill_of 𝒜 (x ∷ (xs ++ (y ∷ []))) ≡ step 𝒜 (hill_of 𝒜 (x ∷ xs)) y

pub grown : {R : Type 0} (𝒜 : Algebra R) (x : Record R) (xs : List (Record R)) (y : Record R) → Grown 𝒜 x xs y
grown 𝒜 x xs y = record {
  end = end-last x xs y;
  peak = peak-last x xs y;
  joint = joints-last x xs y;
  opened = opened-append (x ∷ xs) (y ∷ []) ∙ omega arith;
  built = run-append 𝒜 (empty 𝒜) (x ∷ xs) (y ∷ []);
}
