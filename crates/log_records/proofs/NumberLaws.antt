-- Each number below the opened count names one record, and no other number does. Assumes nothing.
use Rattle.std.specs.Prelude.{◌≡◌, refl, ◌↔◌, List, [], ◌∷◌, ℕ, zero, suc, ◌+◌, ◌≤◌, ◌<◌, length}
use Rattle.std.proofs.Common.{ap, arith}
use Rattle.std.proofs.Math.Logic.{dite}
use Rattle.std.proofs.Math.Decide.{dec_lt}
use Rattle.std.proofs.Math.Seq.{take-nil}
use Rattle.hill.specs.Log.{Record, opening, closing, opened_of, opens}
use Rattle.hill.specs.Closing.{at, OpensAt}
use Rattle.hill.proofs.HeldPlaces.{opening-closing}
use Rattle.hill.proofs.OwnLogLaws.{opened-take}
use Rattle.log_records.specs.Numbers.{number_at, place_of, IsRecord}
use Rattle.log_records.specs.Claims.{CountedFrom0}

module _ {R : Type 0} where
  -- more records are opened before a later open
  number-less : (log : List (Record R)) (p q d : ℕ) → OpensAt log p d → p < q → number_at log p < number_at log q
  number-less [] p q d o l = absurd (opening-closing (closing 0) d 0 o.0 o.1 refl)
  number-less (x ∷ xs) zero zero d o l = absurd (omega arith)
  number-less (x ∷ xs) zero (suc q) d o l = omega (arith, ap opens o.1)
  number-less (x ∷ xs) (suc p) zero d o l = absurd (omega arith)
  number-less (x ∷ xs) (suc p) (suc q) d o l = omega (arith, number-less xs p q d o (omega arith))

  number-few : (log : List (Record R)) (p d : ℕ) → OpensAt log p d → number_at log p < opened_of log
  number-few [] p d o = absurd (opening-closing (closing 0) d 0 o.0 o.1 refl)
  number-few (x ∷ xs) zero d o = omega (arith, ap opens o.1)
  number-few (x ∷ xs) (suc p) d o = omega (arith, number-few xs p d o)

  -- One number, one record.
  record-once : (log : List (Record R)) (n p q d e : ℕ) → IsRecord log n p d → IsRecord log n q e → p ≡ q
  record-once log n p q d e a b =
      dite (dec_lt p q)
      (λ l. absurd (omega (arith, number-less log p q d a.opens l, a.number, b.number)))
      (λ l. dite (dec_lt q p) (λ m. absurd (omega (arith, number-less log q p e b.opens m, a.number, b.number))) (λ m. omega arith))

  -- Every number below the opened count names one, at its place.
  pub record-at : (log : List (Record R)) (n : ℕ) → n < opened_of log → (d : ℕ) × IsRecord log n (place_of log n) d
  record-at [] n l = absurd (omega arith)
  record-at (opening d r ∷ xs) zero l = (d, record { opens = (r, refl); number = refl })
  record-at (opening d r ∷ xs) (suc n) l = let w = record-at xs n (omega arith) in (w.0, record { opens = w.1.opens; number = omega (arith, w.1.number) })
  record-at (closing d ∷ xs) n l = let w = record-at xs n (omega arith) in (w.0, record { opens = w.1.opens; number = omega (arith, w.1.number) })

  -- one more after an open, as many after a close
  pub number-next : (log : List (Record R)) (k : ℕ) → k < length log → number_at log (suc k) ≡ opens (at log k) + number_at log k
  number-next [] k l = absurd (omega arith)
  number-next (x ∷ xs) zero l = refl
  number-next (x ∷ xs) (suc k) l = omega (arith, number-next xs k (omega arith))

  -- a place before which no more records are opened than before p does not come after p
  pub number-before : (log : List (Record R)) (p k d : ℕ) → OpensAt log p d → number_at log k ≤ number_at log p → k ≤ p
  number-before log p k d o h = dite (dec_lt p k) (λ l. absurd (omega (arith, number-less log p k d o l))) (λ l. omega arith)

  pub number-mono : (log : List (Record R)) (k p : ℕ) → k ≤ p → number_at log k ≤ number_at log p
  number-mono [] k p l = omega (arith, ap opened_of (take-nil {A = Record R} k))
  number-mono (x ∷ xs) zero p l = omega arith
  number-mono (x ∷ xs) (suc k) zero l = absurd (omega arith)
  number-mono (x ∷ xs) (suc k) (suc p) l = omega (arith, number-mono xs k p (omega arith))

  pub number-most : (log : List (Record R)) (k : ℕ) → number_at log k ≤ opened_of log
  number-most log k = opened-take k log

  order : (log : List (Record R)) (m n p q d e : ℕ) → IsRecord log m p d → IsRecord log n q e → (m < n) ↔ (p < q)
  order log m n p q d e a b = (
    (λ h. dite (dec_lt p q) (λ l. l) (λ l. absurd (omega (arith, a.number, b.number, number-mono log q p (omega arith))))),
    λ l. omega (arith, a.number, b.number, number-less log p q d a.opens l),
  )

  -- COUNTED FROM 0 IN LOG ORDER.
  pub counted-from-0 : (log : List (Record R)) → CountedFrom0 log
  counted-from-0 log = record {
    some = λ n l. let w = record-at log n l in (place_of log n, w.0, w.1);
    once = record-once log;
    few = λ n p d r. omega (arith, r.number, number-few log p d r.opens);
    in_order = order log;
  }
