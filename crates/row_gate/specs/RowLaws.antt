-- What is noted of a row's pieces is what its summaries say: its fault. Assumes nothing.
use Rattle.std.specs.Prelude.{◌≡◌, refl, List, [], ◌∷◌, map, ℕ, zero, suc, ◌+◌, ◌≤◌, ◌<◌, length, get_or, take, Option, Some, None}
use Rattle.std.proofs.Common.{sym, ap, ap₂, subst, ◌∙◌, arith, length-take}
use Rattle.std.proofs.Math.Logic.{dite}
use Rattle.std.proofs.Math.Decide.{dec_lt}
use Rattle.std.proofs.Math.ListN.{get_or-eq_default}
use Rattle.std.proofs.lemmas.List.{get_or-take}
use Rattle.figure.specs.Mode.{mode_of}
use Rattle.hill.specs.Summary.{blank}
use Rattle.summary.specs.Judge.{IsSummary, is_blank, is_spoilt, is_hill, rise_at, fall_at, start_at, peak_at, end_at}
use Rattle.summary.specs.Decode.{decode}
use Rattle.summary.proofs.Values.{lefts-length, rights-length, reading-blank, reading-spoilt, reading-hill}
use Rattle.judge.specs.Judged.{head_at}
use Rattle.judge.specs.Numbers.{numbers_of, AllInBounds}
use Rattle.judge.specs.Laws.{head-blank, head-spoilt, head-hill, summary-fits, in-bounds, fault-number}
use Rattle.judge.specs.declared.Numbers.{Numbers}
use Rattle.plan_work.specs.Gate.{row_fault}
use Rattle.outcome.specs.Laws.{AllIn}
use Rattle.row_gate.specs.Told.{Told, told_of, told_fault, told_of_note}
use Rattle.row_gate.specs.ToldLaws.{fault-row}
use Rattle.row_gate.specs.Notes.{note_at, opened_of, Noted, Few, AllNoted}

-- ---- one piece

pub told-piece : (m : ℕ) (b : List ℕ) → IsSummary b → told_of_note (numbers_of (head_at b)) ≡ told_of (decode m b)
unfolding decode
told-piece m b (is_blank f) = rw (head-blank b f.kind_fits, reading-blank (mode_of m).read b f.kind_fits)
told-piece m b (is_spoilt v) = rw (head-spoilt b v.layout.kind_fits, reading-spoilt (mode_of m).read b v.layout.kind_fits, fault-number v)
told-piece m b (is_hill v) =
    let s : peak_at b + rise_at b ≡ start_at b = omega (arith, v.peak-start) in
    let e : peak_at b + fall_at b ≡ end_at b = omega (arith, v.peak-end) in
    rw (head-hill b (λ x. omega (arith, v.layout.kind_fits)) (λ x. omega (arith, v.layout.kind_fits)), reading-hill (mode_of m).read b v.layout.kind_fits, lefts-length (mode_of m).read b (rise_at b), rights-length (mode_of m).read b (fall_at b), s, e)

-- ---- notes in their bounds open few records

few-note : (n : Option Numbers) → AllInBounds n → opened_of n ≤ 100_001
few-note None b = omega arith
few-note (Some n) b = b.opened-few

pub few-of : {notes : List (Option Numbers)} → Noted notes → Few notes
few-of w = record { each = λ k. few-note _ (w.each k) }

-- ---- the pieces of a row

module _ (m : ℕ) where
  pub each_in : (ps : List (List ℕ)) → AllIn m ps → (i : ℕ) → i < length ps → IsSummary (get_or ps i [])
  each_in [] a i h = absurd (omega arith)
  each_in (p ∷ ps) a zero h = a.0.is
  each_in (p ∷ ps) a (suc i) h = each_in ps a.1 i (omega arith)

  pub decoded-at : (ps : List (List ℕ)) (i : ℕ) → i < length ps → get_or (map (decode m) ps) i blank ≡ decode m (get_or ps i [])
  decoded-at [] i h = absurd (omega arith)
  decoded-at (p ∷ ps) zero h = refl
  decoded-at (p ∷ ps) (suc i) h = decoded-at ps i (omega arith)

  told-all : (ps : List (List ℕ)) → AllIn m ps → (notes : List (Option Numbers)) → AllNoted ps notes → length ps ≤ length notes → map told_of_note (take (length ps) notes) ≡ map told_of (map (decode m) ps)
  told-all [] a notes n h = refl
  told-all (p ∷ ps) a [] n h = absurd (omega arith)
  told-all (p ∷ ps) a (x ∷ notes) n h =
      ap₂ (λ (t : Told) (ts : List Told). t ∷ ts) (ap told_of_note (n 0 (omega arith)) ∙ told-piece m p a.0.is) (told-all ps a.1 notes (λ i l. n (suc i) (omega arith)) (omega arith))

  module _ (ps : List (List ℕ)) (a : AllIn m ps) (notes : List (Option Numbers)) (noted : AllNoted ps notes) (count : ℕ) (long : length ps ≡ count) where
    pub row-fault : count ≤ length notes → told_fault (map told_of_note (take count notes)) ≡ row_fault (map (decode m) ps)
    row-fault h = ap (λ (n : ℕ). told_fault (map told_of_note (take n notes))) (sym long) ∙ ap told_fault (told-all ps a notes noted (omega arith)) ∙ fault-row (map (decode m) ps)

    pub note-bounds : (k : ℕ) → k < count → AllInBounds (note_at notes k)
    note-bounds k h = subst AllInBounds (sym (noted k (omega arith))) (in-bounds (head_at (get_or ps k [])) (summary-fits (get_or ps k []) (each_in ps a k (omega arith))))

    pub notes-bounds : Noted (take count notes)
    notes-bounds = record {
      each = λ k. dite (dec_lt k count)
          (λ h. subst AllInBounds (sym (get_or-take count notes k None h)) (note-bounds k h))
          (λ h. subst AllInBounds (sym (get_or-eq_default (take count notes) None (simp length-take (omega arith)))) tt);
    }
