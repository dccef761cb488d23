-- Lists of places: no two list the same places, and the places that a pass over the log selects. Assumes nothing.
use Rattle.std.specs.Prelude.{◌≡◌, refl, ◌⊎◌, Bool, true, false, cond, List, [], ◌∷◌, ℕ, suc, ◌+◌, ◌≤◌, ◌<◌, length, drop, get_or}
use Rattle.std.proofs.Common.{ap, sym, ◌∙◌, inl, inr, ⊎_elim, add-zero, eq-or-lt_of_le, arith, length-drop, get_or-drop, drop-drop}
use mathlib.Core.List.Memᴰ
use Rattle.hill.specs.Log.{Record, closing}
use Rattle.hill.proofs.SortedLaws.{sorted-unique}
use Rattle.hill.specs.Closing.{at, Places}
use Rattle.hill.specs.Places.{select}

pub places_same : {P : ℕ → Type 0} {ps qs : List ℕ} → Places P ps → Places P qs → ps ≡ qs
places_same {P} {ps} {qs} a b = sorted-unique ◌<◌ (λ p q h k. omega arith) ps qs a.rising b.rising (λ k. ((λ m. b.all k (a.only k m)), (λ m. a.all k (b.only k m))))

-- The same places by another description.
pub places-iff : {P Q : ℕ → Type 0} {ps : List ℕ} → ((p : ℕ) → P p → Q p) → ((p : ℕ) → Q p → P p) → Places P ps → Places Q ps
places-iff f g a = record { rising = a.rising; all = λ p h. a.all p (g p h); only = λ p m. f p (a.only p m) }

false-true : false ≡ true → ⊥
false-true e = let z : ◌≡◌ {A = ℕ} 0 1 = cc in omega arith

-- What stands at place n, and after it.
module _ {R : Type 0} (log : List (Record R)) (n : ℕ) (x : Record R) (xs : List (Record R)) (here : drop n log ≡ x ∷ xs) where
  pub here-inside : n < length log
  here-inside = omega (arith, sym (length-drop n log) ∙ ap length here)

  pub here-at : at log n ≡ x
  here-at = ap (λ k. at log k) (sym (add-zero n)) ∙ sym (get_or-drop n log 0 (closing 0)) ∙ ap (λ l. get_or l 0 (closing 0)) here

  pub here-rest : drop (suc n) log ≡ xs
  here-rest = let e : suc n ≡ n + 1 = omega arith in ap (λ k. drop k log) e ∙ sym (drop-drop 1 n log) ∙ ap (drop 1) here

module _ {R : Type 0} (keep : Record R → List (Record R) → Bool) (stop : Record R → Bool) where
  pub record Selected (log : List (Record R)) (n q : ℕ) : Type 0 where
    pub from : n ≤ q
    pub inside : q < length log
    pub kept : keep (at log q) (drop (suc q) log) ≡ true
    pub before : (k : ℕ) → n ≤ k → k ≤ q → stop (at log k) ≡ false

  module _ (log : List (Record R)) (n : ℕ) (x : Record R) (xs : List (Record R)) (here : drop n log ≡ x ∷ xs) where
    select-later : (q : ℕ) → stop x ≡ false → Selected log (suc n) q → Selected log n q
    select-later q s h = record {
      from = omega (arith, h.from);
      inside = h.inside;
      kept = h.kept;
      before = λ k a b. ⊎_elim (λ (e : n ≡ k). rw (← e, here-at log n x xs here) s) (λ c. h.before k (omega arith) b) (eq-or-lt_of_le a);
    }

    select-here : (q : ℕ) → q ≡ n → stop x ≡ false → keep x xs ≡ true → Selected log n q
    select-here q e s t = rw e (record {
      from = omega arith;
      inside = here-inside log n x xs here;
      kept = rw (here-at log n x xs here, here-rest log n x xs here) t;
      before = λ k a b. let i : k ≡ n = omega arith in rw (i, here-at log n x xs here) s;
    })

    select-cases : (q : ℕ) → Selected log n q → ((q ≡ n) × (keep x xs ≡ true)) ⊎ Selected log (suc n) q
    select-cases q h = ⊎_elim
        (λ (e : n ≡ q). inl (sym e, rw (here-at log n x xs here, here-rest log n x xs here) at (rw (← e) at h.kept)))
        (λ c. inr (record { from = omega arith; inside = h.inside; kept = h.kept; before = λ k a b. h.before k (omega arith) b }))
        (eq-or-lt_of_le h.from)

    select-stops : stop x ≡ true → (q : ℕ) → Selected log n q → ⊥
    select-stops s q h = let z : true ≡ false = sym s ∙ (rw (here-at log n x xs here) at (h.before n (omega arith) h.from)) in false-true (sym z)

    select-step : Places (Selected log (suc n)) (select keep stop (suc n) xs) → Places (Selected log n) (select keep stop n (x ∷ xs))
    select-step ih = go (stop x) refl (keep x xs) refl
      where
        go : (s : Bool) → stop x ≡ s → (t : Bool) → keep x xs ≡ t → Places (Selected log n) (cond s [] (cond t (n ∷ (select keep stop) (suc n) xs) (select keep stop (suc n) xs)))
        go true s t k = record { rising = tt; all = λ q h. absurd (select-stops s q h); only = λ q m. absurd (Memᴰ.not-nil m) }
        go false s true k = record {
          rising = (λ q m. omega (arith, (ih.only q m).from), ih.rising);
          all = λ q h. ⊎_elim (λ e. Memᴰ.head e.0) (λ l. Memᴰ.tail (ih.all q l)) (select-cases q h);
          only = λ q m. ⊎_elim (λ (e : q ≡ n). select-here q e s k) (λ l. select-later q s (ih.only q l)) (Memᴰ.cases_cons m);
        }
        go false s false k = record {
          rising = ih.rising;
          all = λ q h. ⊎_elim (λ e. absurd (false-true (sym k ∙ e.1))) (λ l. ih.all q l) (select-cases q h);
          only = λ q m. select-later q s (ih.only q m);
        }

  pub select-places : (log : List (Record R)) (n : ℕ) (xs : List (Record R)) → drop n log ≡ xs → Places (Selected log n) (select keep stop n xs)
  select-places log n [] e = record {
    rising = tt;
    all = λ q h. absurd (omega (arith, h.from, h.inside, sym (length-drop n log) ∙ ap length e));
    only = λ q m. absurd (Memᴰ.not-nil m);
  }
  select-places log n (x ∷ xs) e = select-step log n x xs e (select-places log (suc n) xs (here-rest log n x xs e))
