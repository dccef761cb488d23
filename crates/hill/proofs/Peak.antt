-- The two levels of a record, and the peak of a chunk: the lowest level that its records reach. Assumes nothing.
use Rattle.std.specs.Prelude.{◌≡◌, refl, ◌⊎◌, List, [], ◌∷◌, ℕ, zero, suc, ◌≤◌, length}
use Rattle.std.proofs.Common.{◌∙◌, inl, inr, ⊎_elim, arith}
use Rattle.std.proofs.Math.Logic.{dite}
use Rattle.std.proofs.Math.Decide.{dec_le}
use Rattle.hill.specs.Log.{Record, opening, closing, depth, start_level, end_level, peak_of}
use Rattle.hill.specs.Closing.{at, Reached}

module _ {R : Type 0} where
  -- A record's depth is the lower of its levels; its start is at most one above.
  pub depth-least : (x : Record R) → (depth x ≤ start_level x) × (depth x ≤ end_level x) × (start_level x ≤ suc (depth x))
  depth-least (opening d r) = omega arith
  depth-least (closing d) = omega arith

  pub lower-level : (x : Record R) → (start_level x ≡ depth x) ⊎ (end_level x ≡ depth x)
  lower-level (opening d r) = inl refl
  lower-level (closing d) = inr refl

  -- The peak is the depth of a record, and no record's depth is below it.
  pub peak-at : (x : Record R) (xs : List (Record R)) → (k : ℕ) × (k ≤ length xs) × (depth (at (x ∷ xs) k) ≡ peak_of x xs)
  peak-at x [] = (0, omega arith, refl)
  peak-at x (y ∷ ys) =
      let w = peak-at y ys in
      dite (dec_le (depth x) (peak_of y ys)) (λ l. (0, omega arith, omega arith)) (λ l. (suc w.0, omega (arith, w.1), w.2 ∙ omega arith))

  pub peak-depth : (x : Record R) (xs : List (Record R)) (k : ℕ) → k ≤ length xs → peak_of x xs ≤ depth (at (x ∷ xs) k)
  peak-depth x [] zero l = omega arith
  peak-depth x [] (suc k) l = absurd (omega arith)
  peak-depth x (y ∷ ys) zero l = omega arith
  peak-depth x (y ∷ ys) (suc k) l = omega (arith, peak-depth y ys k (omega arith))

  reached : (x : Record R) (xs : List (Record R)) → Reached (x ∷ xs) (peak_of x xs)
  reached x xs =
      let w = peak-at x xs in
      let y : Record R = at (x ∷ xs) w.0 in
      (w.0, omega (arith, w.1), ⊎_elim (λ (e : start_level y ≡ depth y). inl (e ∙ w.2)) (λ e. inr (e ∙ w.2)) (lower-level y))

  none-lower : (x : Record R) (xs : List (Record R)) (l : ℕ) → Reached (x ∷ xs) l → peak_of x xs ≤ l
  none-lower x xs l h =
      let y : Record R = at (x ∷ xs) h.0 in
      let p : peak_of x xs ≤ depth y = peak-depth x xs h.0 (omega (arith, h.1)) in
      ⊎_elim (λ (e : start_level y ≡ l). omega (arith, (depth-least y).0)) (λ (e : end_level y ≡ l). omega (arith, (depth-least y).1)) h.2

  -- "Peak is the lowest level reached", of every chunk: it is reached, and no lower one is.
  pub peak-lowest : (x : Record R) (xs : List (Record R)) → Reached (x ∷ xs) (peak_of x xs) × ((l : ℕ) → Reached (x ∷ xs) l → peak_of x xs ≤ l)
  peak-lowest x xs = (reached x xs, none-lower x xs)
