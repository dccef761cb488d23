-- Document 02, L9: each figure of a sheet is what every way to finish the record's own subtree leads to, and the root's is what the log leads to. Assumes nothing.
use Rattle.std.specs.Prelude.{◌≡◌, refl, Bool, true, false, cond, List, [], ◌∷◌, map, ℕ, zero, suc, ◌-◌, leb, ℤ, length, take, drop}
use Rattle.std.proofs.Common.{sym, ap, subst, ◌∙◌, arith, le-leb, take_at}
use Rattle.gate.specs.Outcome.{granted}
use Rattle.record.specs.Record.{is_open, amounts_fit, in_range}
use Rattle.record.proofs.Laws.{and_right}
use Rattle.record.proofs.RangeLaws.{range-parts}
use Rattle.record.proofs.Ranged.{AllInRange, records-in-range}
use Rattle.record.specs.declared.Fields.{Fields}
use Rattle.modes.specs.FourModes.{Amounts}
use Rattle.figure.specs.Mode.{mode_in_use}
use Rattle.hill.specs.Verdict.{pass}
use Rattle.hill.specs.Log.{Record, opening, closing, depth, log_fault}
use Rattle.hill.specs.Closing.{OpensAt}
use Rattle.hill.proofs.HeldPlaces.{opening-closing}
use Rattle.hill.specs.OwnLog.{lowered, own_log}
use Rattle.hill.specs.Row.{joined}
use Rattle.chunk.specs.Chunk.{chunk_of, figure_in, IsWellFormed}
use Rattle.chunk.proofs.Laws.{depth_low, is-log}
use Rattle.day_table.specs.Outcomes.{log_bytes}
use Rattle.day_table.proofs.LogLaws.{RecordsInRange, all_fields, chunk-fields, log-read}
use Rattle.log_records.proofs.Formed.{formed}
use Rattle.day_sheet.specs.Sheet.{sheet_line, lines_from, page_text, sheet_outcome}
use Rattle.day_sheet.specs.Claims.{InColumns, read_line, IsOwnFigure, WritesPage}
use Rattle.day_sheet.proofs.LineLaws.{line-27, line-back}
use Rattle.day_sheet.proofs.PageLaws.{fits}
use Rattle.day_sheet.proofs.CallLaws.{written-page}
use Rattle.claim.proofs.FinishingLaws.{leads-to}
use Rattle.claim.specs.Sheets.{AloneLeadsTo, EachAlone, RootFirst}

-- ---- the records of a subtree, lowered, are in range

ranged-chunk : (fs : List Fields) → AllInRange fs → RecordsInRange (chunk_of fs)
ranged-chunk [] h = tt
ranged-chunk (f ∷ fs) h = go (is_open f.kind) (ranged-chunk fs h.1)
  where
    go : (t : Bool) → RecordsInRange (chunk_of fs) → RecordsInRange (cond t (opening f.depth (record { value = f.value; floor = f.floor; ceiling = f.ceiling })) (closing f.depth) ∷ chunk_of fs)
    go true ih = (h.0, ih)
    go false ih = (depth_low f h.0, ih)

ranged-next : (x : Record Amounts) (xs : List (Record Amounts)) → RecordsInRange (x ∷ xs) → RecordsInRange xs
ranged-next (opening d r) xs h = h.1
ranged-next (closing d) xs h = h.1

ranged-drop : (n : ℕ) (xs : List (Record Amounts)) → RecordsInRange xs → RecordsInRange (drop n xs)
ranged-drop zero xs h = h
ranged-drop (suc n) [] h = tt
ranged-drop (suc n) (x ∷ xs) h = ranged-drop n xs (ranged-next x xs h)

ranged-take : (n : ℕ) (xs : List (Record Amounts)) → RecordsInRange xs → RecordsInRange (take n xs)
ranged-take zero xs h = tt
ranged-take (suc n) [] h = tt
ranged-take (suc n) (opening d r ∷ xs) h = (h.0, ranged-take n xs h.1)
ranged-take (suc n) (closing d ∷ xs) h = (h.0, ranged-take n xs h.1)

lower-range : (c d : ℕ) (v l h : ℤ) → in_range d v l h ≡ true → in_range (d - c) v l h ≡ true
unfolding in_range
lower-range c d v l h e = rw (le-leb (d - c) 63 (omega (arith, (range-parts d v l h e).depth))) (and_right (leb d 63) (amounts_fit v l h) e)

ranged-lower : (d : ℕ) (xs : List (Record Amounts)) → RecordsInRange xs → RecordsInRange (map (lowered d) xs)
ranged-lower d [] h = tt
ranged-lower d (opening c r ∷ xs) h = (lower-range d c r.value r.floor r.ceiling h.0, ranged-lower d xs h.1)
ranged-lower d (closing c ∷ xs) h = (omega (arith, h.0), ranged-lower d xs h.1)

-- ---- a subtree as a log of its own

own-bytes : {log : List ℕ} {xs : List (Record Amounts)} → IsWellFormed log xs → (p q d : ℕ) → log_fault (own_log xs p q d) ≡ pass → IsWellFormed (log_bytes (own_log xs p q d)) (own_log xs p q d)
own-bytes {log} {xs} i p q d v =
    let h : RecordsInRange xs = subst RecordsInRange i.records-are (ranged-chunk i.fields (records-in-range log i.fields i.read)) in
    let own : List (Record Amounts) = own_log xs p q d in
    record { fields = all_fields own; read = log-read own (ranged-lower d (take (suc q - p) (drop p xs)) (ranged-take (suc q - p) (drop p xs) (ranged-drop p xs h))); records-are = chunk-fields own; fine = v }

alone-leads-to : (mode : ℕ) → mode_in_use mode ≡ true → {log : List ℕ} {xs : List (Record Amounts)} → IsWellFormed log xs → (p q d : ℕ) {z : ℤ} → IsOwnFigure mode xs p q d z → AloneLeadsTo mode (own_log xs p q d) z
alone-leads-to mode u {xs = xs} i p q d {z} o = record { some = (log_bytes (own_log xs p q d), own-bytes i p q d o.fine); all = λ bytes w. leads-to mode u w z (sym o.of-log) }

log-of : {log : List ℕ} {mode page cap : ℕ} {w : List ℕ} (s : WritesPage log mode page cap w) → IsWellFormed log s.records
log-of {log} s = (is-log log s.records s.let_through).formed

-- EACH FIGURE is what its record's own subtree leads to.
pub each-alone : (log : List ℕ) (mode page cap : ℕ) {w : List ℕ} → sheet_outcome log mode page cap ≡ granted w → EachAlone log mode page cap w
each-alone log mode page cap e =
    let s = written-page log mode page cap e in
    record { writes = s; alone = λ i l. let t = s.is-page.each i l in alone-leads-to mode s.in_use (log-of s) t.place t.close t.depth t.own }

-- ---- the root

first-line : (mode : ℕ) (xs : List (Record Amounts)) → OpensAt xs 0 0 → InColumns 0 0 (figure_in mode xs)
    → take 27 (page_text mode 0 xs) ≡ sheet_line 0 0 (figure_in mode xs)
unfolding page_text
first-line mode [] o c = absurd (opening-closing (closing 0) 0 0 o.0 o.1 refl)
first-line mode (closing d ∷ xs) o c = absurd (opening-closing (closing d) 0 d o.0 o.1 refl)
first-line mode (opening d r ∷ xs) o c =
    let z : ℤ = figure_in mode (opening d r ∷ xs) in
    let e : d ≡ 0 = ap depth o.1 in
    take_at (sheet_line 0 d z) (joined (take 59 (lines_from mode 1 xs))) 27 (ap (λ k. length (sheet_line 0 k z)) e ∙ line-27 c) ∙ ap (λ k. sheet_line 0 k z) e

-- THE ROOT'S FIGURE is on the first line, and is what the log leads to.
pub root-first : (log : List ℕ) (mode cap : ℕ) {w : List ℕ} → sheet_outcome log mode 0 cap ≡ granted w → RootFirst log mode w
root-first log mode cap {w} e =
    let s = written-page log mode 0 cap e in
    let xs = s.records in
    let z : ℤ = figure_in mode xs in
    let root = (formed xs (log-of s).fine).root in
    let c : InColumns 0 0 z = fits mode s.in_use (log-of s) 0 0 root in
    record { figure = z; leads-to = leads-to mode s.in_use (log-of s) z refl; first = ap (λ b. read_line (take 27 b)) s.bytes-are ∙ ap read_line (first-line mode xs root c) ∙ line-back c }
