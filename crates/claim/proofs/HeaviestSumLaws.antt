-- Document 02, L7: the values along the heaviest line add to what every call answers in mode 2, faults get their numbers as at finish, and a record's number is
-- its line in the day table. Assumes nothing.
use Rattle.std.specs.Prelude.{◌≡◌, List, [], ◌∷◌, ℕ, zero, suc, ◌+◌, ◌≤◌, ℤ, length, get_or}
use Rattle.std.proofs.Math.Path.{refl, ap}
use Rattle.std.proofs.Common.{sym, ◌∙◌, arith, le-leb}
use Rattle.gate.specs.Outcome.{refused, granted, written}
use Rattle.gate.proofs.Laws.{not-result, one_number}
use Rattle.record.specs.Record.{records_of}
use Rattle.record.specs.declared.Fields.{Fields}
use Rattle.modes.specs.FourModes.{Amounts, store_held}
use Rattle.figure.specs.Mode.{mode_of, mode_in_use}
use Rattle.hill.specs.Verdict.{Verdict, pass, refuse}
use Rattle.hill.specs.Log.{Record, opening, closing, log_fault}
use Rattle.hill.specs.Closing.{at}
use Rattle.hill.proofs.HeldPlaces.{opening-closing}
use Rattle.hill.specs.Figure.{figure_of}
use Rattle.hill.specs.Finish.{outcome}
use Rattle.summary.specs.Outcomes.{finish_outcome, log_outcome}
use Rattle.chunk.specs.Chunk.{chunk_of, figure_in, whole_log}
use Rattle.chunk.specs.Laws.{IsLog}
use Rattle.day_table.specs.Table.{TableLine, table_line, table_of}
use Rattle.log_records.specs.Numbers.{number_at}
use Rattle.log_records.specs.Line.{line_numbers, number_bytes, heaviest_line_outcome}
use Rattle.log_records.specs.Claims.{sum_of, LineBytes}
use Rattle.log_records.proofs.CallLaws.{line_refused, line-is, written-line}
use Rattle.claim.specs.Claim.{log_says}
use Rattle.claim.specs.Finishing.{Finishing}
use Rattle.claim.proofs.FinishingLaws.{finish-says, leads-to}
use Rattle.claim.specs.HeaviestSum.{IsHeaviestFigure, FaultsAsAtFinish}

-- ---- the sum

module _ {log : List ℕ} {xs : List (Record Amounts)} (i : IsLog log xs) {w : List ℕ} (b : LineBytes xs w) where
  stored : figure_in 2 xs ≡ sum_of xs b.places
  unfolding figure_in mode_of store_held
  stored = ap store_held b.line.is.adds

  heaviest-figure : IsHeaviestFigure log (sum_of xs b.places)
  unfolding mode_in_use
  heaviest-figure = record { one_chunk = i.short; leads-to = leads-to 2 refl i.formed (sum_of xs b.places) stored }

-- THE VALUES OF THE RECORDS THAT THE CALL NAMES ADD TO THE MODE 2 FIGURE.
pub adds-to-figure : (log : List ℕ) (cap : ℕ) {w : List ℕ} → heaviest_line_outcome log cap ≡ granted w → (xs : List (Record Amounts)) × (b : LineBytes xs w) × IsHeaviestFigure log (sum_of xs b.places)
adds-to-figure log cap e = let l = written-line log cap e in (l.0, l.2, heaviest-figure l.1 l.2)

-- ---- the faults

module _ (log : List ℕ) (short : length log ≤ 65_536) where
  both : (fs : List Fields) → records_of log ≡ granted fs → (mode : ℕ) → (v : Verdict) → log_fault (chunk_of fs) ≡ v
      → (whole_log log ≡ outcome v (chunk_of fs)) × (log_says mode log ≡ outcome v ((mode_of mode).store (figure_of (mode_of mode).algebra (chunk_of fs))))
  unfolding whole_log log_says log_outcome
  both fs e mode v f = rw (le-leb (length log) 65_536 short, e, f) (refl, refl)

  -- FAULTS GET THEIR NUMBERS AS AT FINISH.
  pub as-at-finish : FaultsAsAtFinish log
  as-at-finish = record { faults = λ mode t n e cap. at-fault mode t n e cap (log_fault (chunk_of t.is_cut.readable.0)) refl; no-fault = λ mode t z e cap. at-figure mode t z e cap (log_fault (chunk_of t.is_cut.readable.0)) refl }
    where
      at-fault : (mode : ℕ) (t : Finishing mode log) (n : ℕ) → finish_outcome t.piece ≡ refused n → (cap : ℕ) → (v : Verdict) → log_fault (chunk_of t.is_cut.readable.0) ≡ v → heaviest_line_outcome log cap ≡ refused n
      at-fault mode t n e cap pass f = absurd (not-result n _ (sym e ∙ finish-says t ∙ (both t.is_cut.readable.0 t.is_cut.readable.1 mode pass f).1))
      at-fault mode t n e cap (refuse k) f =
          let w = both t.is_cut.readable.0 t.is_cut.readable.1 mode (refuse k) f in
          line_refused log cap w.0 ∙ ap refused (one_number (sym w.1 ∙ sym (finish-says t) ∙ e))

      at-figure : (mode : ℕ) (t : Finishing mode log) (z : ℤ) → finish_outcome t.piece ≡ granted z → (cap : ℕ) → (v : Verdict) → log_fault (chunk_of t.is_cut.readable.0) ≡ v → (w : List ℕ) × (heaviest_line_outcome log cap ≡ written cap w)
      at-figure mode t z e cap pass f = (number_bytes (line_numbers (chunk_of t.is_cut.readable.0)), line-is log cap (both t.is_cut.readable.0 t.is_cut.readable.1 mode pass f).0)
      at-figure mode t z e cap (refuse k) f = absurd (not-result k z (sym (both t.is_cut.readable.0 t.is_cut.readable.1 mode (refuse k) f).1 ∙ sym (finish-says t) ∙ e))

-- ---- RECORD N IS LINE N OF THE LOG'S TABLE.

pub numbered-line : (xs : List (Record Amounts)) (p d : ℕ) (r : Amounts) → at xs p ≡ opening d r → (other : TableLine) → get_or (table_of xs) (number_at xs p) other ≡ table_line d r
numbered-line [] p d r e other = absurd (opening-closing (closing 0) d 0 r e refl)
numbered-line (opening c a ∷ xs) zero d r e other = cc
numbered-line (closing c ∷ xs) zero d r e other = absurd (opening-closing (closing c) d c r e refl)
numbered-line (opening c a ∷ xs) (suc p) d r e other =
    let n : suc (number_at xs p) ≡ 1 + number_at xs p = omega arith in
    ap (λ k. get_or (table_line c a ∷ table_of xs) k other) (sym n) ∙ numbered-line xs p d r e other
numbered-line (closing c ∷ xs) (suc p) d r e other =
    let n : number_at xs p ≡ 0 + number_at xs p = omega arith in
    ap (λ k. get_or (table_of xs) k other) (sym n) ∙ numbered-line xs p d r e other
