-- A table and its log belong to each other: both round trips, and which tables are those of well-formed logs. Assumes nothing.
use Rattle.std.specs.Prelude.{◌≡◌, refl, Bool, true, false, cond, ◌&&◌, List, [], ◌∷◌, ◌++◌, map, ℕ, zero, suc, ◌≤◌, ◌<◌, leb, ltb, eqb, length, drop}
use Rattle.std.proofs.Common.{sym, ap, subst, ◌∙◌, append-nil, arith, leb-true, leb-false, le-leb, ltb-true, lt-ltb, eqb-true, eq-eqb}
use Rattle.std.proofs.lemmas.Bool.{lt-leb}
use Rattle.record.proofs.Laws.{and_left, and_right}
use Rattle.modes.specs.FourModes.{Amounts}
use Rattle.hill.specs.Verdict.{pass}
use Rattle.hill.proofs.VerdictLaws.{refuse-pass}
use Rattle.hill.specs.Log.{Record, opening, closing, opened_of, log_fault}
use Rattle.hill.specs.Closing.{at, OpensAt, Places}
use Rattle.hill.specs.Places.{select}
use Rattle.hill.proofs.Places.{places_same, here-at, here-rest}
use Rattle.hill.proofs.HeldPlaces.{is_open, opened-listed}
use Rattle.hill.proofs.Spell.{end_from}
use Rattle.hill.proofs.Levels.{MeetsAbove, well-levels, levels-well}
use Rattle.day_table.specs.Table.{TableLine, table_line, table_of, closes_to, log_from, log_of, nested_after, nested}

-- ---- the table of the log is the table

closes-no-line : (e l : ℕ) (ys : List (Record Amounts)) → table_of (closes_to l e ++ ys) ≡ table_of ys
closes-no-line e zero ys = refl
closes-no-line e (suc l) ys = go (leb e l) (closes-no-line e l ys)
  where
    go : (t : Bool) → table_of (closes_to l e ++ ys) ≡ table_of ys → table_of (cond t (closing l ∷ closes_to l e) [] ++ ys) ≡ table_of ys
    go true h = h
    go false h = refl

table-from : (l : ℕ) (ls : List TableLine) → table_of (log_from l ls) ≡ ls
table-from l [] = ap table_of (sym (append-nil (closes_to l 0))) ∙ closes-no-line 0 l []
table-from l (x ∷ ls) = closes-no-line x.depth l _ ∙ ap (λ (ys : List TableLine). table_line x.depth x.amounts ∷ ys) (table-from (suc x.depth) ls)

-- READING THE LOG BACK GIVES THE TABLE, whatever the table.
pub table-log : (ls : List TableLine) → table_of (log_of ls) ≡ ls
table-log ls = table-from 0 ls

-- ---- by places: a line for each place where an open stands, in log order

abbrev pub open_of : TableLine → Record Amounts
open_of x = opening x.depth x.amounts

lines_at : (log : List (Record Amounts)) (n : ℕ) (xs : List (Record Amounts)) → drop n log ≡ xs → map (at log) (select (λ x _. is_open x) (λ _. false) n xs) ≡ map open_of (table_of xs)
lines_at log n [] e = refl
lines_at log n (opening d r ∷ xs) e =
    rw (here-at log n (opening d r) xs e) (ap (λ (ys : List (Record Amounts)). opening d r ∷ ys) (lines_at log (suc n) xs (here-rest log n (opening d r) xs e)))
lines_at log n (closing d ∷ xs) e = lines_at log (suc n) xs (here-rest log n (closing d) xs e)

-- THE TABLE'S LINES ARE THE OPENED RECORDS, in log order: those that stand at the places of opens.
pub table-places : (log : List (Record Amounts)) (ps : List ℕ) → Places (λ p. (d : ℕ) × OpensAt log p d) ps → map open_of (table_of log) ≡ map (at log) ps
table-places log ps l = sym (lines_at log 0 log refl) ∙ ap (map (at log)) (places_same (opened-listed log) l)

-- ---- the log of the table is the log

pub closes-none : (e l : ℕ) → l ≤ e → closes_to l e ≡ []
closes-none e zero h = refl
closes-none e (suc l) h = rw (lt-leb e l h)

pub closes-one : (e l : ℕ) → e ≤ l → closes_to (suc l) e ≡ closing l ∷ closes_to l e
closes-one e l h = rw (le-leb e l h)

-- the first line that follows level l is at depth l or below
abbrev FirstLow : ℕ → List TableLine → Type 0
FirstLow l [] = Unit {0}
FirstLow l (x ∷ ls) = x.depth ≤ l

low-more : (l m : ℕ) (ls : List TableLine) → l ≤ m → FirstLow l ls → FirstLow m ls
low-more l m [] h f = tt
low-more l m (x ∷ ls) h f = omega (arith, f)

first-low : (l : ℕ) (xs : List (Record Amounts)) → MeetsAbove l xs → FirstLow l (table_of xs)
first-low l [] s = tt
first-low l (opening d r ∷ xs) s = omega (arith, s.0)
first-low l (closing d ∷ xs) s = low-more d l (table_of xs) (omega (arith, s.0)) (first-low d xs s.2)

from-close : (l : ℕ) (ls : List TableLine) → FirstLow l ls → log_from (suc l) ls ≡ closing l ∷ log_from l ls
from-close l [] f = closes-one 0 l (omega arith)
from-close l (x ∷ ls) f = ap (λ (cs : List (Record Amounts)). cs ++ (opening x.depth x.amounts ∷ log_from (suc x.depth) ls)) (closes-one x.depth l f)

from-table : (l : ℕ) (xs : List (Record Amounts)) → MeetsAbove l xs → end_from l xs ≡ 0 → log_from l (table_of xs) ≡ xs
from-table l [] s e = closes-none 0 l (omega (arith, e))
from-table l (opening d r ∷ xs) s e =
    ap (λ (cs : List (Record Amounts)). cs ++ (opening d r ∷ log_from (suc d) (table_of xs))) (closes-none d l (omega (arith, s.0)))
    ∙ ap (λ (ys : List (Record Amounts)). opening d r ∷ ys) (from-table (suc d) xs s.2 e)
from-table l (closing d ∷ xs) s e =
    let g : l ≡ suc d = s.0 in
    ap (λ k. log_from k (table_of xs)) g ∙ from-close d (table_of xs) (first-low d xs s.2) ∙ ap (λ (ys : List (Record Amounts)). closing d ∷ ys) (from-table d xs s.2 e)

-- A WELL-FORMED LOG GIVES A TABLE THAT WRITES IT AGAIN: it is the only one with its table.
pub log-table : (xs : List (Record Amounts)) → log_fault xs ≡ pass → log_of (table_of xs) ≡ xs
log-table [] v = refl
log-table (opening d r ∷ xs) v =
    let p = well-levels (opening d r) xs v in
    ap (λ (ys : List (Record Amounts)). opening d r ∷ ys) (from-table (suc d) xs p.above p.end)
log-table (closing d ∷ xs) v = absurd (omega (arith, (well-levels (closing d) xs v).start))

-- ---- question 13, as what must hold

-- Lines that can follow level l: each deeper than 0, and none more than one above the line before it.
abbrev pub Under : ℕ → List TableLine → Type 0
Under l [] = Unit {0}
Under l (x ∷ ls) = (0 < x.depth) × (x.depth ≤ l) × Under (suc x.depth) ls

after-under : (d : ℕ) (ls : List TableLine) → nested_after d ls ≡ true → Under (suc d) ls
after-under d [] e = tt
after-under d (x ∷ ls) e =
    let two = and_left (ltb 0 x.depth && leb x.depth (suc d)) (nested_after x.depth ls) e in (
      ltb-true 0 x.depth (and_left (ltb 0 x.depth) (leb x.depth (suc d)) two),
      leb-true x.depth (suc d) (and_right (ltb 0 x.depth) (leb x.depth (suc d)) two),
      after-under x.depth ls (and_right (ltb 0 x.depth && leb x.depth (suc d)) (nested_after x.depth ls) e),
    )

under-after : (d : ℕ) (ls : List TableLine) → Under (suc d) ls → nested_after d ls ≡ true
under-after d [] u = refl
under-after d (x ∷ ls) u = rw (lt-ltb 0 x.depth u.0, le-leb x.depth (suc d) u.1) (under-after x.depth ls u.2)

pub nested-under : (x : TableLine) (ls : List TableLine) → nested (x ∷ ls) ≡ true → (x.depth ≡ 0) × Under (suc x.depth) ls
nested-under x ls e =
    (eqb-true x.depth 0 (and_left (eqb x.depth 0) (nested_after x.depth ls) e), after-under x.depth ls (and_right (eqb x.depth 0) (nested_after x.depth ls) e))

-- ---- exactly the nested tables are those of well-formed logs

under_more : (l m : ℕ) (ls : List TableLine) → l ≤ m → Under l ls → Under m ls
under_more l m [] h n = tt
under_more l m (x ∷ ls) h n = (n.0, omega (arith, n.1), n.2)

above-under : (l : ℕ) (xs : List (Record Amounts)) → MeetsAbove l xs → Under l (table_of xs)
above-under l [] s = tt
above-under l (opening d r ∷ xs) s = (omega (arith, s.0, s.1), omega (arith, s.0), above-under (suc d) xs s.2)
above-under l (closing d ∷ xs) s = under_more d l (table_of xs) (omega (arith, s.0)) (above-under d xs s.2)

-- THE TABLE OF A WELL-FORMED LOG passes 13.
pub log-nested : (xs : List (Record Amounts)) → log_fault xs ≡ pass → nested (table_of xs) ≡ true
log-nested [] v = refl
log-nested (opening d r ∷ xs) v =
    let p = well-levels (opening d r) xs v in
    rw (eq-eqb d 0 p.start) (under-after d (table_of xs) (above-under (suc d) xs p.above))
log-nested (closing d ∷ xs) v = absurd (omega (arith, (well-levels (closing d) xs v).start))

-- It has a line.
pub log-some : (xs : List (Record Amounts)) → log_fault xs ≡ pass → 1 ≤ length (table_of xs)
log-some [] v = absurd (refuse-pass v)
log-some (opening d r ∷ xs) v = omega arith
log-some (closing d ∷ xs) v = absurd (omega (arith, (well-levels (closing d) xs v).start))

above-closes : (e l : ℕ) (ys : List (Record Amounts)) → e ≤ l → MeetsAbove e ys → MeetsAbove l (closes_to l e ++ ys)
above-closes e zero ys h s = subst (λ k. MeetsAbove k ys) (omega arith) s
above-closes e (suc l) ys h s = go (leb e l) refl (above-closes e l ys)
  where
    go : (t : Bool) → leb e l ≡ t → (e ≤ l → MeetsAbove e ys → MeetsAbove l (closes_to l e ++ ys)) → MeetsAbove (suc l) (cond t (closing l ∷ closes_to l e) [] ++ ys)
    go true t ih = (refl, omega arith, ih (leb-true e l t) s)
    go false t ih = let g : e ≡ suc l = omega (arith, leb-false e l t) in subst (λ k. MeetsAbove k ys) g s

end-closes : (e l : ℕ) (ys : List (Record Amounts)) → e ≤ l → end_from l (closes_to l e ++ ys) ≡ end_from e ys
end-closes e zero ys h = let g : 0 ≡ e = omega arith in ap (λ k. end_from k ys) g
end-closes e (suc l) ys h = go (leb e l) refl (end-closes e l ys)
  where
    go : (t : Bool) → leb e l ≡ t → (e ≤ l → end_from l (closes_to l e ++ ys) ≡ end_from e ys) → end_from (suc l) (cond t (closing l ∷ closes_to l e) [] ++ ys) ≡ end_from e ys
    go true t ih = ih (leb-true e l t)
    go false t ih = let g : suc l ≡ e = omega (arith, leb-false e l t) in ap (λ k. end_from k ys) g

under-above : (l : ℕ) (ls : List TableLine) → Under l ls → MeetsAbove l (log_from l ls) × (end_from l (log_from l ls) ≡ 0)
under-above l [] n = (
  subst (λ ys. MeetsAbove l ys) (append-nil (closes_to l 0)) (above-closes 0 l [] (omega arith) tt),
  ap (end_from l) (sym (append-nil (closes_to l 0))) ∙ end-closes 0 l [] (omega arith),
)
under-above l (x ∷ ls) n =
    let w = under-above (suc x.depth) ls n.2 in (
      above-closes x.depth l (opening x.depth x.amounts ∷ log_from (suc x.depth) ls) n.1 (refl, n.0, w.0),
      end-closes x.depth l (opening x.depth x.amounts ∷ log_from (suc x.depth) ls) n.1 ∙ w.1,
    )

pub table-opened : (xs : List (Record Amounts)) → opened_of xs ≡ length (table_of xs)
table-opened [] = refl
table-opened (opening d r ∷ xs) = omega (arith, table-opened xs)
table-opened (closing d ∷ xs) = omega (arith, table-opened xs)

-- A NESTED TABLE WRITES A WELL-FORMED LOG.
pub nested-log : (x : TableLine) (ls : List TableLine) → nested (x ∷ ls) ≡ true → length (x ∷ ls) ≤ 100_000 → log_fault (log_of (x ∷ ls)) ≡ pass
nested-log x ls p few =
    let o : Record Amounts = opening x.depth x.amounts in
    let n = nested-under x ls p in
    let w = under-above (suc x.depth) ls n.1 in
    levels-well o (log_from (suc x.depth) ls) (record { start = n.0; above = w.0; end = w.1 }) (omega (arith, table-opened (log_of (x ∷ ls)), ap length (table-log (x ∷ ls))))
