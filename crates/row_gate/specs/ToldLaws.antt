-- The lowest fault of a row, piece by piece, is the one that the gate finds. Assumes nothing.
use Rattle.std.specs.Prelude.{◌≡◌, refl, List, [], ◌∷◌, map, ℕ, ◌+◌, ◌*◌, ◌≤◌, ◌<◌, length, drop, Option, Some, None}
use Rattle.std.proofs.Common.{sym, subst, ◌∙◌, add_assoc, add-zero, add-one, arith, drop-cons, drop_of_length-le}
use Rattle.std.proofs.Math.Path.{ap}
use Rattle.hill.specs.Verdict.{Verdict, low, joint, count, ends}
use Rattle.hill.proofs.VerdictLaws.{low-assoc, low-left}
use Rattle.hill.specs.Summary.{Summary, Part, blank, part, verdict, start, end, opened}
use Rattle.plan_work.specs.Gate.{parts_of, spoilt_fault, join_fault, total_opened, last_end, row_fault}
use Rattle.judge.specs.declared.Numbers.{Numbers}
use Rattle.row_gate.specs.declared.faults.Span.{Span}
use Rattle.row_gate.specs.Told.{Told, nothing, told_of, after_some, told_fault, told_of_note, onward_from, opened_by, Passed}
use Rattle.row_gate.specs.Notes.{note_at, opened_of, Few}

-- ---- the fault that the gate finds

regroup : (v w b s j c t : Verdict) → low (low (low v (low w b)) (low s (low j c))) t ≡ low (low v (low (low w s) (low (low b j) c))) t
regroup v w b s j c t = ap (λ x. low x t) (low-assoc v (low w b) (low s (low j c)) ∙ ap (low v) (low-assoc w b (low s (low j c)) ∙ ap (low w) (low-left b s (low j c) ∙ ap (low s) (sym (low-assoc b j c))) ∙ sym (low-assoc w s (low (low b j) c))))

module _ {Fig R : Type 0} where
  after-some : (first : ℕ) (v : Verdict) (o : ℕ) (a : Part Fig R) (row : List (Summary Fig R)) →
      after_some first (end a) v o (map told_of row) ≡ low (low v (low (spoilt_fault (parts_of row)) (low (join_fault a (parts_of row)) (count (o + total_opened (parts_of row)))))) (ends first (last_end a (parts_of row)))
  after-some first v o a [] = rw (add-zero o)
  after-some first v o a (blank ∷ row) = after-some first v o a row
  after-some first v o a (part b ∷ row) =
      after-some first (low v (low (verdict b) (joint (end a) (start b)))) (o + opened b) b row ∙
      ap (λ (n : ℕ). low (low (low v (low (verdict b) (joint (end a) (start b)))) (low (spoilt_fault (parts_of row)) (low (join_fault b (parts_of row)) (count n)))) (ends first (last_end b (parts_of row)))) (add_assoc o (opened b) (total_opened (parts_of row))) ∙
      regroup v (verdict b) (joint (end a) (start b)) (spoilt_fault (parts_of row)) (join_fault b (parts_of row)) (count (o + (opened b + total_opened (parts_of row)))) (ends first (last_end b (parts_of row)))

  -- THE ROW'S FAULT
  pub fault-row : (row : List (Summary Fig R)) → told_fault (map told_of row) ≡ row_fault row
  fault-row [] = refl
  fault-row (blank ∷ row) = fault-row row
  fault-row (part a ∷ row) = after-some (start a) (verdict a) (opened a) a row ∙ ap (λ x. low x (ends (start a) (last_end a (parts_of row)))) (sym (low-assoc (verdict a) (spoilt_fault (parts_of row)) (low (join_fault a (parts_of row)) (count (opened a + total_opened (parts_of row))))))

-- ---- the loop over a row's pieces

pub record Spanning (notes : List (Option Numbers)) (s : Option Span) (k : ℕ) : Type 0 where
  pub light : opened_by s ≤ 100_001 * k
  pub all : onward_from s (map told_of_note (drop k notes)) ≡ told_fault (map told_of_note notes)

past-blank : (s : Option Span) (ts : List Told) → onward_from s (nothing ∷ ts) ≡ onward_from s ts
past-blank None ts = refl
past-blank (Some s) ts = refl

module _ (notes : List (Option Numbers)) where
  told-next : (k : ℕ) → k < length notes → map told_of_note (drop k notes) ≡ told_of_note (note_at notes k) ∷ map told_of_note (drop (k + 1) notes)
  told-next k h = ap (map told_of_note) (drop-cons notes k None h) ∙ ap (λ (i : ℕ). told_of_note (note_at notes k) ∷ map told_of_note (drop i notes)) (sym (add-one k))

  pub span-start : Spanning notes None 0
  span-start = record { light = omega arith; all = refl }

  module _ (s : Option Span) (k : ℕ) (v : Spanning notes s k) where
    pub span-blank : k < length notes → note_at notes k ≡ None → Spanning notes s (k + 1)
    span-blank h e =
        let ts : List Told = map told_of_note (drop (k + 1) notes) in
        record { light = omega (arith, v.light); all = sym (past-blank s ts) ∙ ap (λ (n : Option Numbers). onward_from s (told_of_note n ∷ ts)) (sym e) ∙ ap (onward_from s) (sym (told-next k h)) ∙ v.all }

    pub few-opened : (n : Numbers) → Few notes → note_at notes k ≡ Some n → n.opened ≤ 100_001
    few-opened n w e = subst (λ (x : Option Numbers). opened_of x ≤ 100_001) e (w.each k)

    pub span-next : (n : Numbers) (r : Span) → Few notes → k < length notes → note_at notes k ≡ Some n → Passed s n r → Spanning notes (Some r) (k + 1)
    span-next n r w h e p =
        let ts : List Told = map told_of_note (drop (k + 1) notes) in
        record { light = omega (arith, p.opened, v.light, few-opened n w e); all = p.is ts ∙ ap (λ (x : Option Numbers). onward_from s (told_of_note x ∷ ts)) (sym e) ∙ ap (onward_from s) (sym (told-next k h)) ∙ v.all }

    pub span-end : length notes ≤ k → onward_from s [] ≡ told_fault (map told_of_note notes)
    span-end h = ap (λ (l : List (Option Numbers)). onward_from s (map told_of_note l)) (sym (drop_of_length-le notes {i = k} h)) ∙ v.all
