-- The lines of a log by their records: each tells of its own record, whose figure is that of its subtree as a log of its own. And the pages. Assumes nothing.
use Rattle.std.specs.Prelude.{◌≡◌, true, length, get_or}
use Rattle.std.proofs.Math.Path.{refl, sym, ap, subst}
use Rattle.std.proofs.Common.{ap₂, ◌∙◌, length-take, length-drop, drop-cons, take_all, take-add, get_or-take, get_or-drop}
use mathlib.Core.List.{List, [], ◌∷◌, ◌++◌}
use Prim.Native.Nat.{ℕ, zero, suc, ◌+◌, ◌-◌, ◌*◌, ◌≤◌, ◌<◌, min}
use native.Mathlib.Omega.{arith}
use Rattle.std.proofs.Math.IntN.{nat_abs}
use Rattle.std.proofs.Math.ListN.{take, drop}
use Rattle.modes.specs.FourModes.{Amounts}
use Rattle.figure.specs.Mode.{mode_of, mode_in_use}
use Rattle.modes.proofs.Bound.{bound-fits}
use Rattle.hill.specs.Log.{Record, opening, closing, depth, opened_of}
use Rattle.hill.specs.Closing.{OpensAt, ClosedBy}
use Rattle.hill.proofs.HeldPlaces.{opening-closing, opens-inside}
use Rattle.hill.specs.Figure.{held, figure_of, figure_at}
use Rattle.hill.proofs.FigureLaws.{log-tree}
use Rattle.hill.specs.OwnLog.{own_log}
use Rattle.hill.proofs.OwnLogLaws.{own-fine, own-figure, figure-size}
use Rattle.hill.specs.Row.{joined}
use Rattle.hill.proofs.RowLaws.{joined-append, joined-long}
use Rattle.chunk.specs.Chunk.{figure_in, IsWellFormed}
use Rattle.chunk.proofs.Laws.{low-log}
use Rattle.summary.proofs.MergeBytes.{Readables}
use Rattle.summary.proofs.OutcomeLaws.{chunk-readable}
use Rattle.log_records.specs.Numbers.{number_at, IsRecord}
use Rattle.log_records.proofs.NumberLaws.{counted-from-0, number-most}
use Rattle.log_records.specs.Formed.{Formed}
use Rattle.log_records.proofs.Formed.{formed, closed_some}
use Rattle.day_sheet.specs.Sheet.{sheet_line, lines_from, sheet_lines, page_lines, page_text}
use Rattle.day_sheet.specs.Claims.{InColumns, read_line, IsOwnFigure, TellsOf, IsPage, pages_up_to}
use Rattle.day_sheet.proofs.LineLaws.{line-27, line-back, most, in-columns, stored-within}
use Rattle.day_sheet.specs.PageLaws.{printed}

module _ (mode : ℕ) where
  -- A LINE FOR EACH OPENED RECORD.
  pub lines-length : (n : ℕ) (xs : List (Record Amounts)) → length (lines_from mode n xs) ≡ opened_of xs
  lines-length n [] = refl
  lines-length n (opening d r ∷ xs) = omega (arith, lines-length (suc n) xs)
  lines-length n (closing d ∷ xs) = omega (arith, lines-length n xs)

  -- line n is that of record n
  line-from : (n : ℕ) (xs : List (Record Amounts)) (p d : ℕ) → OpensAt xs p d → get_or (lines_from mode n xs) (number_at xs p) [] ≡ sheet_line (n + number_at xs p) d (printed mode xs p)
  line-from n [] p d o = absurd (opening-closing (closing 0) d 0 o.0 o.1 refl)
  line-from n (opening c r ∷ xs) zero d o =
      ap₂ (λ (i j : ℕ). sheet_line i j (figure_in mode (opening c r ∷ xs))) (omega arith) (ap depth o.1)
  line-from n (closing c ∷ xs) zero d o = absurd (opening-closing (closing c) d c o.0 o.1 refl)
  line-from n (opening c r ∷ xs) (suc p) d o =
      let k : ℕ = number_at xs p in
      let e : 1 + k ≡ suc k = omega arith in
      let f : suc n + k ≡ n + (1 + k) = omega arith in
      ap (λ j. get_or (lines_from mode n (opening c r ∷ xs)) j []) e ∙ line-from (suc n) xs p d o ∙ ap (λ j. sheet_line j d (printed mode xs p)) f
  line-from n (closing c ∷ xs) (suc p) d o =
      let k : ℕ = number_at xs p in
      let e : 0 + k ≡ k = omega arith in
      ap (λ j. get_or (lines_from mode n xs) j []) e ∙ line-from n xs p d o ∙ ap (λ j. sheet_line (n + j) d (printed mode xs p)) (sym e)

  pub line-is : (xs : List (Record Amounts)) {n p d : ℕ} → IsRecord xs n p d → get_or (sheet_lines mode xs) n [] ≡ sheet_line n d (printed mode xs p)
  line-is xs {n} {p} {d} r =
      let e : 0 + number_at xs p ≡ n = omega (arith, r.number) in
      ap (λ k. get_or (sheet_lines mode xs) k []) (sym r.number) ∙ line-from 0 xs p d r.opens ∙ ap (λ k. sheet_line k d (printed mode xs p)) e

  -- line i of a page
  page-line : (page : ℕ) (xs : List (Record Amounts)) (i : ℕ) → i < 60 → get_or (page_lines mode page xs) i [] ≡ get_or (sheet_lines mode xs) (60 * page + i) []
  page-line page xs i l = get_or-take 60 (drop (60 * page) (sheet_lines mode xs)) i [] l ∙ get_or-drop (60 * page) (sheet_lines mode xs) i []

  pub page-length : (page : ℕ) (xs : List (Record Amounts)) → length (page_lines mode page xs) ≡ min 60 (opened_of xs - 60 * page)
  page-length page xs =
      length-take 60 (drop (60 * page) (sheet_lines mode xs)) ∙ ap (min 60) (length-drop (60 * page) (sheet_lines mode xs) ∙ ap (λ k. k - 60 * page) (lines-length 0 xs))

  -- the pages together
  pages-are : (xs : List (Record Amounts)) (n : ℕ) → pages_up_to mode xs n ≡ joined (take (60 * n) (sheet_lines mode xs))
  unfolding page_text
  pages-are xs zero = refl
  pages-are xs (suc n) =
      let e : 60 * n + 60 ≡ 60 * suc n = omega arith in
      ap (λ (s : List ℕ). s ++ joined (page_lines mode n xs)) (pages-are xs n) ∙
      sym (joined-append (take (60 * n) (sheet_lines mode xs)) (page_lines mode n xs)) ∙
      ap joined (sym (take-add (60 * n) 60 (sheet_lines mode xs)) ∙ ap (λ k. take k (sheet_lines mode xs)) e)

  -- ---- of a log without fault

  module _ (u : mode_in_use mode ≡ true) {log : List ℕ} {xs : List (Record Amounts)} (w : IsWellFormed log xs) where
    shape : Formed xs
    shape = formed xs w.fine

    readable : Readables mode xs
    readable = subst (Readables mode) w.records-are (chunk-readable mode log w.fields w.read)

    -- EACH FIGURE IS THAT OF THE RECORD'S OWN SUBTREE.
    pub own-subtree : (p q d : ℕ) → ClosedBy xs p q d → IsOwnFigure mode xs p q d (printed mode xs p)
    unfolding figure_in
    own-subtree p q d c =
        let fine = own-fine (mode_of mode).algebra (mode_of mode).laws xs w.fine p q d c in
        let same : (printed mode) xs p ≡ figure_in mode (own_log xs p q d) = ap (mode_of mode).store (own-figure (mode_of mode).algebra (mode_of mode).laws xs w.fine p q d c) in
        let t = log-tree (mode_of mode).algebra (mode_of mode).laws (own_log xs p q d) fine in
        record { fine = fine; of-log = same; root = t.root; below = t.below; traversal = t.traversal; only = t.only; of_tree = same ∙ ap (mode_of mode).store t.its-figure }

    -- THE NUMBERS FIT THEIR COLUMNS.
    light : (p d : ℕ) → OpensAt xs p d → nat_abs (printed mode xs p) ≤ most
    unfolding figure_in
    light p d o =
        let c = closed_some shape o in
        let e : figure_at (mode_of mode).algebra xs p ≡ (mode_of mode).algebra.node o.0 (held (mode_of mode).algebra (suc d) (drop (suc p) xs))
        = ap (figure_of (mode_of mode).algebra) (drop-cons xs p (closing 0) (opens-inside xs p d o) ∙ ap (λ x. x ∷ drop (suc p) xs) o.1) in
        let s = figure-size (mode_of mode).algebra (mode_of mode).sizes (mode_of mode).laws xs w.fine readable p c.0 d c.1 in
        let b = bound-fits (mode_of mode).sizes.unit (opened_of xs) ((mode_of mode).sizes.size (figure_at (mode_of mode).algebra xs p)) (mode_of mode).unit-small shape.few s in
        subst (λ f. nat_abs ((mode_of mode).store f) ≤ most) (sym e) (stored-within mode u o.0 (held (mode_of mode).algebra (suc d) (drop (suc p) xs)) (subst (λ f. (mode_of mode).sizes.size f ≤ most) e b))

    pub fits : (p d : ℕ) → OpensAt xs p d → InColumns (number_at xs p) d (printed mode xs p)
    fits p d o = in-columns (omega (arith, number-most xs p, shape.few)) (low-log w p d o) (light p d o)

    -- LINE n TELLS OF RECORD n.
    tells-of : {n p d : ℕ} → IsRecord xs n p d → TellsOf mode xs n (get_or (sheet_lines mode xs) n [])
    tells-of {n} {p} {d} r =
        let c = closed_some shape r.opens in
        let f : InColumns n d (printed mode xs p) = subst (λ k. InColumns k d (printed mode xs p)) r.number (fits p d r.opens) in
        record {
          place = p;
          close = c.0;
          depth = d;
          figure = (printed mode) xs p;
          is-record = r;
          closed = c.1;
          own = own-subtree p c.0 d c.1;
          text = line-is xs r;
          fits = f;
          long = ap length (line-is xs r) ∙ line-27 f;
          back = ap read_line (line-is xs r) ∙ line-back f;
        }

    pub tells : (n : ℕ) → n < opened_of xs → TellsOf mode xs n (get_or (sheet_lines mode xs) n [])
    tells n l = let s = (counted-from-0 xs).some n l in tells-of s.2

    module _ (page : ℕ) (starts : 60 * page < opened_of xs) where
      page-tells : (i : ℕ) → i < length (page_lines mode page xs) → TellsOf mode xs (60 * page + i) (get_or (page_lines mode page xs) i [])
      page-tells i l = subst (TellsOf mode xs (60 * page + i)) (sym (page-line page xs i (omega (arith, page-length page xs)))) (tells (60 * page + i) (omega (arith, page-length page xs)))

      -- WHAT IS PRINTED IS THE PAGE.
      pub is-page : IsPage mode xs page (page_text mode page xs)
      unfolding page_text
      is-page = record {
        lines = page_lines mode page xs;
        bytes = refl;
        long = joined-long 27 (page_lines mode page xs) (λ i l. (page-tells i l).long);
        some = omega (arith, page-length page xs);
        few = omega (arith, page-length page xs);
        full = λ h. omega (arith, page-length page xs);
        last = λ h. omega (arith, page-length page xs);
        each = page-tells;
      }

  -- ALL PAGES PUT ONE AFTER ANOTHER, where there are enough for all records.
  pub pages-whole : (xs : List (Record Amounts)) (n : ℕ) → opened_of xs ≤ 60 * n → pages_up_to mode xs n ≡ joined (sheet_lines mode xs)
  pages-whole xs n h = pages-are xs n ∙ ap joined (take_all (60 * n) (sheet_lines mode xs) (omega (arith, lines-length 0 xs)))
