-- Bytes that were written and fit stand at the front of the buffer, also after what follows them was lent on. Assumes nothing.
use Rattle.std.specs.Prelude.{◌≡◌, List, ◌++◌, ℕ, ◌-◌, ◌≤◌, length, take, drop, Result, Ok, Err}
use Rattle.std.proofs.Common.{ap, sym, ◌∙◌, arith, length-take, length-drop, length-append, take_at, le-leb}
use Rattle.gate.specs.Outcome.{refused, granted, written}
use Rattle.gate.specs.Answers.{number_of, answered}
use Rattle.gate.specs.Promises.{Answers}
use Rattle.gate.specs.declared.Refusal.{Refusal}
use Rattle.merge_row.specs.RowAsks.{Front}

module _ (w o : List ℕ) where
  -- where they fit, they are answered and stand at the front
  module _ {o' : List ℕ} {r : Result ℕ Refusal} (a : Answers (written (length o) w) o o' r) (h : length w ≤ length o) where
    fitting : Answers (granted w) o o' r
    fitting = rw (le-leb (length w) (length o) h) at a

    length-is : {n : ℕ} → r ≡ Ok n → n ≡ length w
    length-is {n} e = let f : granted n ≡ granted (length w) = sym (ap answered e) ∙ fitting.answered in cc

    pub front : {n : ℕ} → r ≡ Ok n → Front w o' n
    front {n} e =
        let s : take n o' ≡ w = ap (take n) fitting.buffer ∙ take_at w (drop (length w) o) n (sym (length-is e)) in
        record { is = s; count = length-is e ∙ sym (ap length s); inside = omega (arith, length-take n o', ap length s, length-is e) }

    pub never-refused : {x : Refusal} → r ≡ Err x → ⊥
    never-refused {x} e = let f : refused (number_of x) ≡ granted (length w) = sym (ap answered e) ∙ fitting.answered in let z : ◌≡◌ {A = ℕ} 0 1 = cc in omega arith

-- ---- what follows them was lent on, and came back as ys

pub front-stays : {w o : List ℕ} {n : ℕ} → Front w o n → (q : List ℕ) → Front w (take n o ++ q) n
front-stays {w} {o} {n} f q =
    let s : take n (take n o ++ q) ≡ w = take_at (take n o) q n (sym f.count) ∙ f.is in
    record { is = s; count = f.count ∙ ap length f.is ∙ sym (ap length s); inside = omega (arith, length-append (take n o) q, f.count) }

pub part_length : (n : ℕ) (o : List ℕ) → length (take (length o - n) (drop n o)) ≡ length o - n
part_length n o = simp (length-take, length-drop) (omega arith)

pub whole_length : (n : ℕ) (o ys : List ℕ) → n ≤ length o → length ys ≡ length o - n → length (take n o ++ (ys ++ drop (length o - n) (drop n o))) ≡ length o
whole_length n o ys l e = simp (length-append, length-take, length-drop) (omega (arith, l, e))
