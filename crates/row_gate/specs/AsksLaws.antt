-- The questions of a row, one after the other. Assumes nothing.
use Rattle.std.specs.Prelude.{◌≡◌, refl, true, false, List, map, ℕ, ◌≤◌, ◌<◌, min, length, take, Option, Some, None}
use Rattle.std.proofs.Common.{sym, ◌∙◌, arith}
use Rattle.std.proofs.Math.Path.{ap}
use Rattle.gate.specs.Outcome.{Outcome, refused, granted, onward}
use Rattle.gate.specs.Answers.{number_of}
use Rattle.gate.specs.declared.Refusal.{Refusal}
use Rattle.row.specs.Row.{row_pieces}
use Rattle.hill.specs.Verdict.{Verdict, pass}
use Rattle.hill.specs.Finish.{outcome}
use Rattle.summary.specs.Decode.{decode}
use Rattle.judge.specs.declared.Numbers.{Numbers}
use Rattle.plan_work.specs.Gate.{row_fault}
use Rattle.outcome.specs.Outcomes.{two_to64, all_summaries, mode_of_all, Summaries, ask_log}
use Rattle.outcome.specs.Laws.{AllIn}
use Rattle.outcome.proofs.Laws.{ask-4, ask-mode, two_to_64, too_few, too_many, all-summaries}
use Rattle.outcome.proofs.Through.{mode-in}
use Rattle.fault.specs.Fault.{verdict_of}
use Rattle.row_gate.specs.Told.{told_of_note, told_fault}
use Rattle.row_gate.specs.Notes.{Noted, AllNoted}
use Rattle.row_gate.specs.RowLaws.{row-fault, notes-bounds}
use Rattle.row_gate.specs.Asks.{ask_all, summaries_in, LetThrough}

-- ---- refusals

four : (row : List ℕ) → two_to64 (row_pieces row) ≡ false → ask_all row ≡ refused 4
four row e = ap (λ (o : Outcome Summaries). onward o ask_log) (ask-4 (row_pieces row) e)

pub few-4 : (row : List ℕ) (count : ℕ) → count ≡ min 65 (length (row_pieces row)) → count < 2 → ask_all row ≡ refused 4
few-4 row count e h = four row (too_few (row_pieces row) (omega arith))

pub many-4 : (row : List ℕ) (count : ℕ) → count ≡ min 65 (length (row_pieces row)) → 64 < count → ask_all row ≡ refused 4
many-4 row count e h = four row (too_many (row_pieces row) (omega arith))

module _ (row : List ℕ) (count : ℕ) (e : count ≡ min 65 (length (row_pieces row))) (a : 2 ≤ count) (b : count ≤ 64) where
  pub count-is : length (row_pieces row) ≡ count
  count-is = omega arith

  in-number : two_to64 (row_pieces row) ≡ true
  in-number = two_to_64 (row_pieces row) (omega arith) (omega arith)

  pub not-one : {n : ℕ} → refused n ≡ mode_of_all (row_pieces row) → ask_all row ≡ refused n
  not-one q = ap (λ (o : Outcome Summaries). onward o ask_log) (ask-mode (row_pieces row) in-number (sym q))

  module _ {m : ℕ} (q : granted m ≡ mode_of_all (row_pieces row)) where
    all-of : AllIn m (row_pieces row)
    all-of = mode-in (row_pieces row) (sym q)

    log-asked : (v : Verdict) → row_fault (map (decode m) (row_pieces row)) ≡ v → ask_all row ≡ outcome v (summaries_in m (row_pieces row))
    unfolding ask_log
    log-asked v f = ap (λ (o : Outcome Summaries). onward o ask_log) (ask-mode (row_pieces row) in-number (sym q)) ∙ ap (λ (x : Verdict). outcome x (summaries_in m (row_pieces row))) f

    module _ (notes : List (Option Numbers)) (n : all_summaries (row_pieces row) ≡ true → AllNoted (row_pieces row) notes) where
      all_noted : AllNoted (row_pieces row) notes
      all_noted = n (all-summaries m (row_pieces row) all-of)

      pub in-range : Noted (take count notes)
      in-range = notes-bounds m (row_pieces row) all-of notes all_noted count count-is

      module _ (l : length notes ≡ 64) (f : Option Refusal) (g : verdict_of f ≡ told_fault (map told_of_note (take count notes))) where
        fault-is : row_fault (map (decode m) (row_pieces row)) ≡ verdict_of f
        fault-is = sym (row-fault m (row_pieces row) all-of notes all_noted count count-is (omega arith)) ∙ sym g

        pub faulty : {r : Refusal} → f ≡ Some r → ask_all row ≡ refused (number_of r)
        faulty s = log-asked _ (fault-is ∙ ap verdict_of s)

        pub through : f ≡ None → LetThrough row count m notes
        through s =
            let v : row_fault (map (decode m) (row_pieces row)) ≡ pass = fault-is ∙ ap verdict_of s in
            record {
              asked = log-asked pass v;
              long = count-is;
              some = a;
              few = b;
              all = all-of;
              faultless = v;
              sized = l;
              bounds = in-range;
              noted = all_noted;
            }

-- ---- what a call goes on with

-- the questions of the pieces and those of the log, asked one after the other
pub after-all : {A : Type 0} (o : Outcome Summaries) (f : Summaries → Outcome A) → onward o (λ s. onward (ask_log s) f) ≡ onward (onward o ask_log) f
after-all (refused n) f = refl
after-all (granted s) f = refl
